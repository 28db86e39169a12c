-- The kinds of annotations that are handed on.
use Rattle.std.specs.Prelude.{Bool, true, false, ◌⊎◌, ◌≡◌}
use Rattle.std.proofs.Common.{inl, inr, refl}
use Rattle.lists.specs.Tests.{never}
use Rattle.sheet_records.specs.declared.Kind.{Kind}
use Rattle.sheet_records.specs.declared.Kind.TheVariants.{MakeList, Associate, NestAssociate, Alias, Inherit, Derive, NoDerive}

-- an associate, nested or not
abbrev pub is_handed_on : Kind → Bool
is_handed_on MakeList = false
is_handed_on Associate = true
is_handed_on NestAssociate = true
is_handed_on Alias = false
is_handed_on Inherit = false
is_handed_on Derive = false
is_handed_on NoDerive = false

-- The kind under which an associate is handed on: a NestAssociate becomes an Associate (FORMAT 8.7).
abbrev pub inherited_kind : Kind → Kind
inherited_kind MakeList = MakeList
inherited_kind Associate = Associate
inherited_kind NestAssociate = Associate
inherited_kind Alias = Alias
inherited_kind Inherit = Inherit
inherited_kind Derive = Derive
inherited_kind NoDerive = NoDerive

pub handed_on-which : (k : Kind) → is_handed_on k ≡ true → (k ≡ Associate) ⊎ (k ≡ NestAssociate)
handed_on-which MakeList e = never e refl
handed_on-which Associate e = inl refl
handed_on-which NestAssociate e = inr refl
handed_on-which Alias e = never e refl
handed_on-which Inherit e = never e refl
handed_on-which Derive e = never e refl
handed_on-which NoDerive e = never e refl

pub handed_on-is : (k : Kind) → (k ≡ Associate) ⊎ (k ≡ NestAssociate) → is_handed_on k ≡ true
handed_on-is k (inl e) = rw e refl
handed_on-is k (inr e) = rw e refl
