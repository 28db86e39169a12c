-- The test by numbers says exactly whether a type is refused.
use Rattle.std.specs.Prelude.{Bool, true, false, ◌||◌, ◌≡◌, refl}
use Rattle.std.proofs.Math.Path.{sym, ap, ap₂}
use Rattle.std.proofs.Common.{◌∙◌}
use Rattle.std.specs.Int.Bits.{bit_and, and_zero_r}
use Rattle.lists.specs.Lists.{any}
use Rattle.lists.specs.Tests.{any_none, or-false-both}
use Rattle.definitions.specs.Records.{Sheet}
use Rattle.law_lines.specs.Statements.{Readable, line_map, any_refused}
use Rattle.law_lines.specs.Within.{Within}
use Rattle.bitsets.specs.Bitsets.{members}
use Rattle.bitsets.specs.BitLaws.{members-none}
use Rattle.law_classes.specs.Refusal.{lost_class, taken_name, own_twice, crosses, set_refused}
use Rattle.law_classes.proofs.RefusalLaws.{any-either, refused-by-sets}
use Rattle.catalogue.specs.Layout.{own_at}
use Rattle.catalogue.specs.Catalogue.{Catalogued}
use Rattle.catalogue.specs.declared.Catalogue.{Catalogue}
use Rattle.item_refusal.specs.Tests.{takes, repeated, repeated_for, types_in, pairs_in, refused_in, Decides}
use Rattle.item_refusal.specs.TakenLaws.{taken_is}
use Rattle.item_refusal.specs.RepeatLaws.{crosses-is}

-- the four grounds, the two that are seen while the catalogue is made together
regroup : (l k w x : Bool) → (l || (k || (w || x))) ≡ ((l || w) || (k || x))
regroup true k w x = refl
regroup false true true x = refl
regroup false true false x = refl
regroup false false w x = refl

refused-is : (s : Sheet) → Readable s → Within s → (t : Catalogue) → Catalogued s t → (lost : Bool) → lost ≡ (any (lost_class (line_map s)) (line_map s).types || any own_twice (line_map s).types)
    → refused_in t lost ≡ any_refused (line_map s)
unfolding set_refused
refused-is s ok within t k lost e =
    let m = line_map s in
    let l = m.types in
    ap₂ (λ a b. a || b) e (ap₂ (λ a b. a || b) (sym (taken_is s ok within t k)) (sym (crosses-is s ok within t k)))
    ∙ sym (regroup (any (lost_class m) l) (any (taken_name m) l) (any own_twice l) (any (crosses m) l))
    ∙ ap (λ b. any (lost_class m) l || b)
    (ap (λ b. any (taken_name m) l || b) (any-either own_twice (crosses m) l) ∙ any-either (taken_name m) (λ T. own_twice T || crosses m T) l)
    ∙ sym (refused-by-sets s ok within)

pub decides : (t : Catalogue) (lost r : Bool) → r ≡ refused_in t lost → Decides t lost r
decides t lost r e = record { right = λ s ok within k h. e ∙ refused-is s ok within t k lost h }

-- ---- the branches of the code

pub refused-lost : (t : Catalogue) (lost : Bool) → lost ≡ true → true ≡ refused_in t lost
refused-lost t lost e = rw e

-- no type of two words
pub refused_none : (t : Catalogue) (lost : Bool) → lost ≡ false → pairs_in t ≡ 0 → false ≡ refused_in t lost
unfolding repeated_for
refused_none t lost kept none =
    rw kept
    (sym
    (or-false-both (ap (any (takes t)) (members-none (pairs_in t) none))
    (any_none (repeated_for t (pairs_in t)) (members (types_in t))
    (λ a _. ap (any (repeated t a)) (members-none (bit_and (own_at t a) (pairs_in t)) (ap (bit_and (own_at t a)) none ∙ and_zero_r (own_at t a)))))))
