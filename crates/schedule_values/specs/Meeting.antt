-- What reading one field of a schedule owes.
use Rattle.std.specs.Prelude.{Bool, false, List, ◌≡◌, ℕ, ◌+◌, ◌*◌, ◌^◌, ◌≤◌, min, length, drop, Result, MatchResult}
use Rattle.definitions.specs.Bits.{bits_of}
use Rattle.definitions.specs.Parse.{past, done, refused, Parser, refuse, choose, between}
use Rattle.fields.specs.declared.Fault.{Fault}
use Rattle.fields.specs.Fields.{fault_of}
use Rattle.schedule_fields.specs.declared.Place.{Place}
use Rattle.schedule_fields.specs.declared.Rule.{Rule}
use Rattle.schedule_fields.specs.Places.{fields_left}

-- The most bits that a schedule has in either form: no field has more than a record.
abbrev pub most_bits : ℕ
most_bits = 16 * fields_left Place.Names

-- The bits of so many bytes, or of 2^28, which no schedule has: those of longer slices may be more than a number counts.
abbrev pub bits_within : ℕ → ℕ
bits_within bytes = 8 * min bytes (2 ^ 28)

-- A field where `short` tells that the other form has no room for it: both ends before its value (FORMAT 12.3).
abbrev pub head : Bool → ℕ → ℕ → ℕ → Parser ℕ
head short n least most = choose short (refuse past) (between n least most)

-- The field of n bits at p has the value v.
pub record Met (short : Bool) (n : ℕ) (rule : Rule) (source : List ℕ) (p v : ℕ) : Type 0 where
  pub same : head short n rule.least rule.most (drop p (bits_of source)) ≡ done v (drop (p + n) (bits_of source))
  pub few : v ≤ rule.most
  pub within : p + n ≤ 8 * length source
  pub long : short ≡ false

-- Or it is refused.
pub record Missed (short : Bool) (n : ℕ) (rule : Rule) (source : List ℕ) (p : ℕ) (f : Fault) : Type 0 where
  pub same : head short n rule.least rule.most (drop p (bits_of source)) ≡ refused (fault_of f)

-- What the field came to.
abbrev pub Meets : Bool → ℕ → Rule → List ℕ → ℕ → Result ℕ Fault → Type 0
Meets short n rule source p r = MatchResult r (λ v. Met short n rule source p v) (λ f. Missed short n rule source p f)
