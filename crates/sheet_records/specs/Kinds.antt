-- The numbers of the kinds of annotations (FORMAT 2.7).
use Rattle.std.specs.Prelude.{◌≡◌, ℕ, ◌<◌, Result, MatchResult}
use Rattle.fields.specs.declared.Fault.{Fault}
use Rattle.fields.specs.declared.Fault.TheVariants.{NotAllowed}
use Rattle.sheet_records.specs.declared.Kind.{Kind}
use Rattle.sheet_records.specs.declared.Kind.TheVariants.{MakeList, Associate, NestAssociate, Alias, Inherit, Derive, NoDerive}

abbrev pub number_of : Kind → ℕ
number_of MakeList = 0
number_of Associate = 1
number_of NestAssociate = 2
number_of Alias = 3
number_of Inherit = 4
number_of Derive = 5
number_of NoDerive = 6

-- The kind of a number, or why there is none (FORMAT 2.7).
abbrev pub IsKind : ℕ → Result Kind Fault → Type 0
IsKind n r = MatchResult r (λ kind. number_of kind ≡ n) (λ fault. (fault ≡ NotAllowed) × (6 < n))
