-- Marks as bits: they are equal where their bits are, and the bits of a class are those of others in turn exactly if its marks
-- are theirs.
use Rattle.std.specs.Prelude.{Bool, ◌≡◌, ℕ, ◌+◌, ◌-◌, ◌/◌, ◌%◌, ◌^◌, ◌≤◌, ◌<◌, eqb, ltb, drop}
use mathlib.Core.List.Memᴰ
use mathlib.Core.List.{List, [], ◌∷◌, ◌++◌, head-eq_of_cons-eq, tail-eq_of_cons-eq}
use Rattle.std.proofs.Math.Path.{refl, sym, ap, ap₂}
use Rattle.std.proofs.Common.{◌∙◌, mod-lt, arith}
use borrow.Author.Tests.{eq-eqb, eqb-true, eqb-false, ltb-true, ltb-false}
use Rattle.std.proofs.Math.ListN.{length, length-append}
use Rattle.std.proofs.Math.Seq.{drop_at}
use Rattle.lists.specs.Lists.{In, each, same_list}
use Rattle.lists.specs.Tests.{by, never, same_test}
use Rattle.lists.specs.Lexicographic.{same_self, same_true}
use Rattle.definitions.specs.Bits.{to_bits, num}
use Rattle.definitions.specs.Records.{Mark, makelist_mark, derive_mark}
use Rattle.definitions.specs.Packing.{mark_bits}
use Rattle.definitions.specs.Making.{same_mark}
use Rattle.bits.specs.NumberLaws.{length-to_bits, num-to_bits, to_bits-split, to_bits-low}
use Rattle.law_lines.specs.Within.{MarkWithin}
use Rattle.law_lines.specs.SameItem.{mark-true, mark-self}
use Rattle.catalogue.specs.Layout.{marks_at, mark_width}
use Rattle.catalogue.specs.declared.Catalogue.{Catalogue}
use Rattle.item_refusal.specs.Tests.{behind, follow}
use Rattle.item_refusal.specs.TestLaws.{behind-short, behind-same, behind-other, follow_lost}

-- ---- marks are equal where their bits are

-- bits that begin with a mark begin with no other
one-mark : (a b : Mark) (xs ys : List Bool) → MarkWithin a → MarkWithin b → mark_bits a ++ xs ≡ mark_bits b ++ ys → (a ≡ b) × (xs ≡ ys)
unfolding mark_bits
one-mark makelist_mark makelist_mark xs ys h k e = (refl, tail-eq_of_cons-eq e)
one-mark makelist_mark (derive_mark u) xs ys h k e = never (head-eq_of_cons-eq e) refl
one-mark (derive_mark t) makelist_mark xs ys h k e = never refl (head-eq_of_cons-eq e)
one-mark (derive_mark t) (derive_mark u) xs ys h k e =
    let f : to_bits 8 t ++ xs ≡ to_bits 8 u ++ ys = tail-eq_of_cons-eq e in
    let q : t ≡ u = omega (arith, num-to_bits 8 t xs, num-to_bits 8 u ys, ap (num 8) f) in
    (ap derive_mark q, sym (drop_at (to_bits 8 t) xs 8 (length-to_bits 8 t)) ∙ ap (drop 8) f ∙ drop_at (to_bits 8 u) ys 8 (length-to_bits 8 u))

-- a mark has a bit
mark-bits : (a : Mark) (xs : List Bool) → mark_bits a ++ xs ≡ [] → ⊥
unfolding mark_bits
mark-bits makelist_mark xs e = absurd (omega (arith, ap length e))
mark-bits (derive_mark t) xs e = absurd (omega (arith, ap length e))

-- every tag is below 256
abbrev pub AllWithin : List Mark → Type 0
AllWithin l = (a : Mark) → In a l → MarkWithin a

pub one_code : (l k : List Mark) → AllWithin l → AllWithin k → each mark_bits l ≡ each mark_bits k → l ≡ k
one_code [] [] h g e = refl
one_code [] (b ∷ k) h g e = absurd (mark-bits b (each mark_bits k) (sym e))
one_code (a ∷ l) [] h g e = absurd (mark-bits a (each mark_bits l) e)
one_code (a ∷ l) (b ∷ k) h g e =
    let x = one-mark a b (each mark_bits l) (each mark_bits k) (h a (Memᴰ.head refl)) (g b (Memᴰ.head refl)) e in
    ap₂ (λ (a : Mark) (l : List Mark). a ∷ l) x.0 (one_code l k (λ c i. h c (Memᴰ.tail i)) (λ c i. g c (Memᴰ.tail i)) x.1)

-- ---- the bits of a number, the classes' in turn

-- the last n bits go by the remainder
low_bits : (n v : ℕ) → to_bits n v ≡ to_bits n (v % 2 ^ n)
low_bits n v = ap (to_bits n) (sym (lib.Pow.split v n)) ∙ to_bits-low n (v / 2 ^ n) (v % 2 ^ n) (mod-lt v (lib.Pow.pow_pos n))

same_low : (n v w : ℕ) → v % 2 ^ n ≡ w % 2 ^ n → to_bits n v ≡ to_bits n w
same_low n v w e = low_bits n v ∙ ap (to_bits n) e ∙ sym (low_bits n w)

-- the first w of the last `left` bits, and the rest
parted : (marks left w : ℕ) → w ≤ left → to_bits left marks ≡ to_bits w (marks / 2 ^ (left - w)) ++ to_bits (left - w) marks
parted marks left w h =
    let e : left ≡ w + (left - w) = omega arith in
    ap (λ (x : ℕ). to_bits x marks) e ∙ to_bits-split w (left - w) marks

module _ (t : Catalogue) (marks : ℕ) where
  -- the bits of a class's marks
  abbrev bits : ℕ → List Bool
  bits e = to_bits (mark_width t e) (marks_at t e)

  follow-only : (l : List ℕ) (left : ℕ) → left < 64 → follow t marks left l ≡ 0 → to_bits left marks ≡ each bits l
  unfolding follow to_bits
  follow-only [] left h e = ap (λ (x : ℕ). to_bits x marks) e
  follow-only (c ∷ l) left h e =
      let w = mark_width t c in
      let ms = marks_at t c in
      let part : 64 ≡ behind marks left ms w → ⊥ = λ q. omega (arith, follow_lost t marks 64 l refl, ap (λ (x : ℕ). follow t marks x l) q, e) in
      by (ltb left w)
      (λ p. absurd (part (behind-short marks left ms w h (ltb-true left w p))))
      (λ p.
      let k = ltb-false left w p in
      by (eqb (marks / 2 ^ (left - w) % 2 ^ w) (ms % 2 ^ w))
      (λ q.
      let d = eqb-true (marks / 2 ^ (left - w) % 2 ^ w) (ms % 2 ^ w) q in
      parted marks left w k
      ∙ ap₂ (λ (a b : List Bool). a ++ b) (same_low w (marks / 2 ^ (left - w)) ms d)
      (follow-only l (left - w) (omega arith) (ap (λ (x : ℕ). follow t marks x l) (behind-same marks left ms w h k d) ∙ e)))
      (λ q. absurd (part (behind-other marks left ms w h k (eqb-false (marks / 2 ^ (left - w) % 2 ^ w) (ms % 2 ^ w) q)))))

  follow-all : (l : List ℕ) (left : ℕ) → left < 64 → to_bits left marks ≡ each bits l → follow t marks left l ≡ 0
  unfolding follow
  follow-all [] left h e = sym (length-to_bits left marks) ∙ ap length e
  follow-all (c ∷ l) left h e =
      let w = mark_width t c in
      let ms = marks_at t c in
      let k : w ≤ left = omega (arith, length-to_bits left marks, ap length e, length-append (bits c) (each bits l), length-to_bits w ms) in
      let x = marks / 2 ^ (left - w) in
      let f : to_bits w x ++ to_bits (left - w) marks ≡ bits c ++ each bits l = sym (parted marks left w k) ∙ e in
      let d : x % 2 ^ w ≡ ms % 2 ^ w = sym (num-to_bits w x (to_bits (left - w) marks)) ∙ ap (num w) f ∙ num-to_bits w ms (each bits l) in
      let g : to_bits (left - w) marks ≡ each bits l =
      sym (drop_at (to_bits w x) (to_bits (left - w) marks) w (length-to_bits w x)) ∙ ap (drop w) f ∙ drop_at (bits c) (each bits l) w (length-to_bits w ms) in
      ap (λ (y : ℕ). follow t marks y l) (sym (behind-same marks left ms w h k d)) ∙ follow-all l (left - w) (omega arith) g

  -- the walk ends with nothing left exactly if the marks are those of the classes in turn
  pub follow-is : (l : List ℕ) (left : ℕ) (xs ys : List Mark) → left < 64 → to_bits left marks ≡ each mark_bits xs → each bits l ≡ each mark_bits ys → AllWithin xs → AllWithin ys
      → eqb (follow t marks left l) 0 ≡ same_list same_mark xs ys
  follow-is l left xs ys h p q wx wy =
      same_test
      (λ e.
      let z = one_code xs ys wx wy (sym p ∙ follow-only l left h (eqb-true (follow t marks left l) 0 e) ∙ q) in
      rw (← z) (same_self same_mark mark-self xs))
      (λ e.
      let z = same_true same_mark mark-true xs ys e in
      eq-eqb (follow t marks left l) 0 (follow-all l left h (p ∙ ap (each mark_bits) z ∙ sym q)))

  pub follow-append : (l k : List ℕ) (left : ℕ) → follow t marks left (l ++ k) ≡ follow t marks (follow t marks left l) k
  unfolding follow
  follow-append [] k left = refl
  follow-append (c ∷ l) k left = follow-append l k (behind marks left (marks_at t c) (mark_width t c))
