-- The items of a list in an array, and its laws.
use Rattle.std.specs.Prelude.{List, [], ◌∷◌, ◌++◌, map, ◌≡◌, ℕ, ◌+◌, ◌<◌, length, get_or, take}
use Rattle.std.proofs.Common.{sym, ap, ◌∙◌, arith, length-append, length-take-le, get_or-take}
use Rattle.std.proofs.lemmas.List.{get_or_at}
use Rattle.std.proofs.Math.ListN.{get_or-append}
use Rattle.lists.specs.Appending.{map-append}
use Rattle.lists.specs.Tabulating.{places, map-tabulate, taken}
use Rattle.bounded.specs.declared.UpTo.{UpTo}

abbrev pub items_of : {T : Type 0} {N : ℕ} → UpTo T N → List T
items_of l = take l.count l.items

pub length-items_of : {T : Type 0} {N : ℕ} (l : UpTo T N) → length (items_of l) ≡ l.count
length-items_of l = length-take-le l.count l.items (omega (arith, l.few, l.long))

-- what g makes of them, by their places; d stands past the end of the array
pub items-places : {T B : Type 0} {N : ℕ} (g : T → B) (d : T) (l : UpTo T N) → map g (items_of l) ≡ places g d l.items l.count
unfolding places
items-places g d l =
    ap (map g) (taken l.items d l.count (omega (arith, l.few, l.long))) ∙ map-tabulate g (λ i. get_or l.items i d) l.count

-- what g makes of none, and of one more
pub items_none : {T B : Type 0} {N : ℕ} (g : T → B) (l : UpTo T N) → items_of l ≡ [] → map g (items_of l) ≡ []
items_none g l e = ap (map g) e

pub items_more : {T B : Type 0} {N : ℕ} (g : T → B) (l k : UpTo T N) (x : T) → items_of k ≡ items_of l ++ (x ∷ []) →
    map g (items_of k) ≡ map g (items_of l) ++ (g x ∷ [])
items_more g l k x e = ap (map g) e ∙ map-append g (items_of l) (x ∷ [])

-- one more: the count, and by their places
pub count-more : {T : Type 0} {N : ℕ} (l k : UpTo T N) (x : T) → items_of k ≡ items_of l ++ (x ∷ []) → k.count ≡ l.count + 1
count-more l k x e = sym (length-items_of k) ∙ ap length e ∙ length-append (items_of l) (x ∷ []) ∙ ap (λ (n : ℕ). n + 1) (length-items_of l)

module _ {T : Type 0} {N : ℕ} (l k : UpTo T N) (x d : T) (e : items_of k ≡ items_of l ++ (x ∷ [])) where
  item-of : (i : ℕ) → i < k.count → get_or k.items i d ≡ get_or (items_of l ++ (x ∷ [])) i d
  item-of i h = sym (get_or-take k.count k.items i d h) ∙ ap (λ (m : List T). get_or m i d) e

  pub item-old : (i : ℕ) → i < l.count → get_or k.items i d ≡ get_or l.items i d
  item-old i h =
      item-of i (omega (arith, count-more l k x e, h))
      ∙ get_or-append (items_of l) (x ∷ []) d i (omega (arith, length-items_of l, h)) ∙ get_or-take l.count l.items i d h

  pub item-new : get_or k.items l.count d ≡ x
  item-new = item-of l.count (omega (arith, count-more l k x e)) ∙ get_or_at (items_of l) x [] d l.count (length-items_of l)
