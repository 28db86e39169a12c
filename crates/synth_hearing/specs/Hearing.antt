-- Which listings hand on, by bits.
use Rattle.std.specs.Prelude.{Bool, ◌&&◌, ◌||◌, not, ◌≡◌, eqb}
use Prim.Native.Nat.{ℕ}
use Rattle.lists.specs.Lists.{all}
use Rattle.rows.specs.Rows.{has_bit}
use Rattle.order_form.specs.Lists.{tab}
use Rattle.order_form.specs.Reading.{how_many}
use Rattle.order_form.specs.declared.Parents.{Parents}
use Rattle.law_parents.specs.Listed.{parent}
use Rattle.synth_hearing.specs.declared.Flags.{Flags}

-- listing i of type t hands on
abbrev pub hands_at : Parents → ℕ → ℕ → ℕ → ℕ → Bool
hands_at p t fresh ok i = not (has_bit fresh i) || has_bit ok (parent p t i).place

pub record WithFlag (f : Flags) (i : ℕ) (handed : Bool) (r : Flags) : Type 0 where
  pub bits : (k : ℕ) → has_bit r.row k ≡ (has_bit f.row k || (eqb i k && handed))
  pub whole : r.all ≡ (f.all && handed)

-- the flags of the first n listings
pub record FlagsTo (p : Parents) (t fresh ok n : ℕ) (f : Flags) : Type 0 where
  pub bits : tab (has_bit f.row) n ≡ tab (hands_at p t fresh ok) n
  pub none : (k : ℕ) → Prim.Native.Nat.◌≤◌ n k → has_bit f.row k ≡ Bool.false
  pub whole : f.all ≡ all (λ (b : Bool). b) (tab (hands_at p t fresh ok) n)

abbrev pub FlagsOf : Parents → ℕ → ℕ → ℕ → Flags → Type 0
FlagsOf p t fresh ok f = FlagsTo p t fresh ok (how_many p t) f

pub record WithOk (ok t : ℕ) (well : Bool) (r : ℕ) : Type 0 where
  pub bits : (k : ℕ) → has_bit r k ≡ (has_bit ok k || (eqb t k && well))
