-- `same_item` is equality: two items are the same if all their fields are (FORMAT 5.1).
use Rattle.std.specs.Prelude.{Bool, true, false, ◌&&◌, List, [], ◌∷◌, ◌≡◌, refl, eqb}
use Rattle.std.specs.Bool.{beq}
use Rattle.std.proofs.Common.{sym, ap, ◌∙◌, eq-eqb, eqb-true}
use Rattle.lists.specs.Lists.{any, repeats, same_list}
use Rattle.lists.specs.Tests.{never, not_so, and_left, and_right, and_both, any-not, any_none, or-false-left, or-false-right}
use Rattle.lists.specs.Lexicographic.{same_self, same_true}
use Rattle.lists.specs.Sorting.{Distinct}
use Rattle.definitions.specs.Records.{Name, Mark, makelist_mark, derive_mark, Item, synthesized, extension}
use Rattle.definitions.specs.Comparisons.{same_name}
use Rattle.definitions.specs.Making.{same_mark, same_item}
use Rattle.law_orders.specs.Comparisons.{same-name, name-same}

bool-true : (a b : Bool) → beq a b ≡ true → a ≡ b
bool-true true true e = refl
bool-true true false e = never e refl
bool-true false true e = never e refl
bool-true false false e = refl

bool-self : (a : Bool) → beq a a ≡ true
bool-self true = refl
bool-self false = refl

pub mark-true : (a b : Mark) → same_mark a b ≡ true → a ≡ b
mark-true makelist_mark makelist_mark e = refl
mark-true makelist_mark (derive_mark t) e = never e refl
mark-true (derive_mark t) makelist_mark e = never e refl
mark-true (derive_mark t) (derive_mark u) e = ap derive_mark (eqb-true t u e)

pub mark-self : (a : Mark) → same_mark a a ≡ true
mark-self makelist_mark = refl
mark-self (derive_mark t) = eq-eqb t t refl

name-self : (a : Name) → same_name a a ≡ true
name-self a = name-same {a = a} refl

pub same_item_lem : (x y : Item) → same_item x y ≡ true → x ≡ y
unfolding same_item
same_item_lem (synthesized n r v ps ms) (synthesized n' r' v' ps' ms') e =
    let e₁ = and_right (same_name n n') (eqb r r' && (beq v v' && (same_list same_name ps ps' && same_list same_mark ms ms'))) e in
    let e₂ = and_right (eqb r r') (beq v v' && (same_list same_name ps ps' && same_list same_mark ms ms')) e₁ in
    let e₃ = and_right (beq v v') (same_list same_name ps ps' && same_list same_mark ms ms') e₂ in
    let a = same-name n n' (and_left (same_name n n') (eqb r r' && (beq v v' && (same_list same_name ps ps' && same_list same_mark ms ms'))) e) in
    let b = eqb-true r r' (and_left (eqb r r') (beq v v' && (same_list same_name ps ps' && same_list same_mark ms ms')) e₁) in
    let c = bool-true v v' (and_left (beq v v') (same_list same_name ps ps' && same_list same_mark ms ms') e₂) in
    let p = same_true same_name same-name ps ps' (and_left (same_list same_name ps ps') (same_list same_mark ms ms') e₃) in
    let q = same_true same_mark mark-true ms ms' (and_right (same_list same_name ps ps') (same_list same_mark ms ms') e₃) in
    λ i. synthesized (a i) (b i) (c i) (p i) (q i)
same_item_lem (synthesized n r v ps ms) (extension n' v' t' r') e = never e refl
same_item_lem (extension n v t r) (synthesized n' r' v' ps' ms') e = never e refl
same_item_lem (extension n v t r) (extension n' v' t' r') e =
    let e₁ = and_right (same_name n n') (beq v v' && (beq t t' && eqb r r')) e in
    let e₂ = and_right (beq v v') (beq t t' && eqb r r') e₁ in
    let a = same-name n n' (and_left (same_name n n') (beq v v' && (beq t t' && eqb r r')) e) in
    let b = bool-true v v' (and_left (beq v v') (beq t t' && eqb r r') e₁) in
    let c = bool-true t t' (and_left (beq t t') (eqb r r') e₂) in
    let d = eqb-true r r' (and_right (beq t t') (eqb r r') e₂) in
    λ i. extension (a i) (b i) (c i) (d i)

pub item-self : (x : Item) → same_item x x ≡ true
unfolding same_item
item-self (synthesized n r v ps ms) =
    and_both (name-self n) (and_both (eq-eqb r r refl) (and_both (bool-self v) (and_both (same_self same_name name-self ps) (same_self same_mark mark-self ms))))
item-self (extension n v t r) = and_both (name-self n) (and_both (bool-self v) (and_both (bool-self t) (eq-eqb r r refl)))

pub item-same : {x y : Item} → x ≡ y → same_item x y ≡ true
item-same {x} e = ap (same_item x) (sym e) ∙ item-self x

-- no item stands twice exactly if the test says so
pub once-tested : (l : List Item) → Distinct l → repeats same_item l ≡ false
once-tested [] d = refl
once-tested (x ∷ l) d = rw (any_none (same_item x) l (λ y i. not_so (λ e. d.0 y i (same_item_lem x y e)))) (once-tested l d.1)

pub tested-once : (l : List Item) → repeats same_item l ≡ false → Distinct l
tested-once [] e = tt
tested-once (x ∷ l) e = (
  λ y i q. never (item-same q) (any-not (same_item x) (or-false-left (any (same_item x) l) (repeats same_item l) e) i),
  tested-once l (or-false-right (any (same_item x) l) (repeats same_item l) e),
)
