-- The fields of an item are the bits that the format says.
use Rattle.std.specs.Prelude.{Bool, List, [], ◌∷◌, ◌++◌, ◌≡◌, ℕ, ◌+◌, ◌*◌, ◌-◌, ◌/◌, ◌%◌, length}
use Rattle.std.proofs.Common.{append-nil, sym, ap, ap₂, ◌∙◌, arith, eq-eqb, ne_eqb, length-append}
use Rattle.lists.specs.Appending.{each_append}
use Rattle.definitions.specs.Bits.{odd, to_bits}
use Rattle.definitions.specs.Records.{Name}
use Rattle.definitions.specs.Packing.{name_bits, parent_bits}
use Rattle.definitions.specs.Comparisons.{dotted}
use Rattle.catalogue.specs.Catalogue.{name_of_key, virtual_head, trait_head}
use Rattle.item_fields.specs.Fields.{words_bits, head_bits, line_bits}

-- ---- a name by its key

pub name-alone : (key : ℕ) → key % 256 ≡ 0 → name_of_key key ≡ (key / 256) ∷ []
unfolding name_of_key
name-alone key e = rw (eq-eqb (key % 256) 0 e)

pub name-paired : (key : ℕ) → (key % 256 ≡ 0 → ⊥) → name_of_key key ≡ (key / 256) ∷ (key % 256 - 1) ∷ []
unfolding name_of_key
name-paired key e = rw (ne_eqb (key % 256) 0 e)

module _ (key : ℕ) (e : key % 256 ≡ 0) where
  pub words-alone : to_bits 8 (key / 256) ≡ words_bits (name_of_key key)
  words-alone = sym (append-nil (to_bits 8 (key / 256))) ∙ ap words_bits (sym (name-alone key e))

  pub long-alone : 8 ≡ 8 * length (name_of_key key)
  long-alone = ap (λ (n : Name). 8 * length n) (sym (name-alone key e))

  pub bits-alone : to_bits 8 (key / 256) ++ to_bits 1 0 ≡ name_bits (name_of_key key)
  unfolding name_bits to_bits odd
  bits-alone = rw (name-alone key e)

module _ (key : ℕ) (e : key % 256 ≡ 0 → ⊥) where
  pub words-paired : to_bits 8 (key / 256) ++ to_bits 8 (key % 256 - 1) ≡ words_bits (name_of_key key)
  words-paired = ap (λ (l : List Bool). to_bits 8 (key / 256) ++ l) (sym (append-nil (to_bits 8 (key % 256 - 1)))) ∙ ap words_bits (sym (name-paired key e))

  pub long-paired : 16 ≡ 8 * length (name_of_key key)
  long-paired = ap (λ (n : Name). 8 * length n) (sym (name-paired key e))

  pub bits-paired : (to_bits 8 (key / 256) ++ to_bits 1 1) ++ to_bits 8 (key % 256 - 1) ≡ name_bits (name_of_key key)
  unfolding name_bits to_bits odd
  bits-paired = rw (name-paired key e)

-- ---- parents

-- the words behind their number
pub parent-bits : (w : ℕ) (xs : List Bool) (n : Name) → w ≡ 8 * length n → xs ≡ words_bits n → to_bits 2 (w / 8) ++ xs ≡ parent_bits n
unfolding parent_bits
parent-bits w xs n e h = let q : w / 8 ≡ length n = omega arith in ap₂ (λ (k : ℕ) (l : List Bool). to_bits 2 k ++ l) q h

pub dotted-bits : (n : Name) (r : ℕ) → words_bits n ++ to_bits 8 r ≡ words_bits (dotted n r)
dotted-bits n r = ap (λ (l : List Bool). words_bits n ++ l) (sym (append-nil (to_bits 8 r))) ∙ sym (each_append (to_bits 8) n (r ∷ []))

pub dotted-long : (n : Name) (r : ℕ) → 8 * length n + 8 ≡ 8 * length (dotted n r)
dotted-long n r = rw (length-append n (r ∷ [])) (omega arith)

-- ---- heads and lines

pub head-bits : (key word v parents : ℕ) →
    (to_bits 1 0 ++ name_bits (name_of_key key)) ++ ((to_bits 8 word ++ to_bits 1 v) ++ to_bits 5 parents) ≡ head_bits key word v parents
unfolding head_bits to_bits odd
head-bits key word v parents =
    let n = name_bits (name_of_key key) in
    let e : v / 1 ≡ v = omega arith in
    ap (λ (x : ℕ). to_bits 1 0 ++ (n ++ (to_bits 8 word ++ (odd x ∷ to_bits 5 parents)))) e

pub line-bits : (key head word : ℕ) → (to_bits 1 1 ++ name_bits (name_of_key key)) ++ (to_bits 2 (head / 16) ++ to_bits 8 word) ≡ line_bits key head word
unfolding line_bits to_bits odd virtual_head trait_head
line-bits key head word =
    let n = name_bits (name_of_key key) in
    let e : head / 16 / 2 ≡ head / 32 = omega arith in
    let f : head / 16 / 1 ≡ head / 16 = omega arith in
    ap₂ (λ (x y : ℕ). to_bits 1 1 ++ (n ++ (odd x ∷ odd y ∷ to_bits 8 word))) e f
