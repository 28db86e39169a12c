-- Laws of the set of resources and of packed marks.
use Rattle.std.specs.Prelude.{Bool, true, false, ◌||◌, List, [], ◌∷◌, ◌++◌, ◌≡◌, refl, ℕ, ◌+◌, ◌*◌, ◌/◌, ◌%◌, ◌^◌, ◌≤◌, ◌<◌, eqb}
use Rattle.std.proofs.Math.Bool.{or-false, and-true, and-false}
use Rattle.std.proofs.Common.{sym, ap, ap₂, ◌∙◌, arith, eq-eqb, ne_eqb, length-append}
use Rattle.std.proofs.Math.Pow
use Rattle.lists.specs.Appending.{each_snoc}
use Rattle.rows.specs.Rows.{has_bit}
use Rattle.definitions.specs.Bits.{odd, to_bits}
use Rattle.definitions.specs.Records.{makelist_mark, derive_mark}
use Rattle.definitions.specs.Packing as packing
use Rattle.bits.specs.NumberLaws.{to_bits-split, to_bits-low}
use Rattle.bitsets.specs.Bitsets.{more}
use Rattle.bitsets.specs.BitLaws.{bit-more}
use Rattle.item_heads.specs.Heads.{WithResource, no_marks, Packs, WithMark, mark_as}
use Rattle.item_heads.specs.declared.packed.Packed.{Packed}

-- ---- resources

pub resource-joins : (types a variant : ℕ) → variant ≡ 1 → WithResource types a variant (more types a)
resource-joins types a variant e =
    record { bits = λ b. bit-more types a b ∙ ap (λ (c : Bool). has_bit types b || c) (sym (rw (eq-eqb variant 1 e) (and-true (eqb a b)))) }

pub resource-not : (types a variant : ℕ) → (variant ≡ 1 → ⊥) → WithResource types a variant types
resource-not types a variant n = record { bits = λ b. sym (rw (ne_eqb variant 1 n, and-false (eqb a b)) (or-false (has_bit types b))) }

-- ---- marks

pub packs-none : Packs [] no_marks
unfolding to_bits
packs-none = record { count = refl; bits = refl }

-- there is room for one more while there are less than 7
pub mark-room : (p : Packed) → (p.count ≡ 7 → ⊥) → p.bits < 2 ^ 54
mark-room p n = omega (arith, p.less, Pow.pow_mono {i = p.width} {j = 54} (omega (arith, n, p.few, p.narrow)))

-- and for the bits of one more behind the others
pub derive-room : (p : Packed) → (p.bits + 1) * 512 ≤ 2 ^ (p.width + 9)
derive-room p = omega (arith, p.less, Pow.pow-add 2 p.width 9)

pub list_less : (p : Packed) → p.bits * 2 < 2 ^ (p.width + 1)
list_less p = omega (arith, p.less, Pow.pow-add 2 p.width 1)

-- n bits behind the others
behind : (b s n v : ℕ) → v < 2 ^ n → to_bits (s + n) (b * 2 ^ n + v) ≡ to_bits s b ++ to_bits n v
behind b s n v h = to_bits-split s n (b * 2 ^ n + v) ∙ ap₂ (λ (x : ℕ) (l : List Bool). to_bits s x ++ l) (Pow.high b n h) (to_bits-low n b v h)

derive-bits : (tag : ℕ) → tag < 256 → to_bits 9 (256 + tag) ≡ true ∷ to_bits 8 tag
unfolding to_bits odd
derive-bits tag h =
    let e : (256 + tag) / 2 ^ 8 ≡ 1 = omega arith in
    ap₂ (λ (x : ℕ) (l : List Bool). eqb (x % 2) 1 ∷ l) e (to_bits-low 8 1 tag h)

list-bits : to_bits 1 0 ≡ false ∷ []
unfolding to_bits odd
list-bits = refl

mark-derives : (tag : ℕ) → packing.mark_bits (derive_mark tag) ≡ true ∷ to_bits 8 tag
unfolding packing.mark_bits
mark-derives tag = refl

mark-lists : packing.mark_bits makelist_mark ≡ false ∷ []
unfolding packing.mark_bits
mark-lists = refl

-- of 7 marks and one more nothing is said
pub packs_full : (p : Packed) (derive tag : ℕ) → p.count ≡ 7 → WithMark p derive tag p
packs_full p derive tag h = record { more = λ ms l k. absurd (omega (arith, l, k.count, h)) }

module _ (p r : Packed) (derive tag : ℕ) (one : r.count ≡ p.count + 1) where
  pub packs_derive : derive ≡ 1 → tag < 256 → r.bits ≡ p.bits * 512 + 256 + tag → r.width ≡ p.width + 9 → WithMark p derive tag r
  packs_derive e h b w =
      record {
        more = λ ms l k.
            let v : r.bits ≡ p.bits * 2 ^ 9 + (256 + tag) = omega (arith, b) in
            let marked : mark_as derive tag ≡ derive_mark tag = rw (eq-eqb derive 1 e) in
            record {
              count = omega (arith, one, k.count, length-append ms (mark_as derive tag ∷ []));
              bits =
                  ap₂ to_bits w v
                  ∙ behind p.bits p.width 9 (256 + tag) (omega arith)
                  ∙ ap₂ (λ (x y : List Bool). x ++ y) k.bits (derive-bits tag h ∙ sym (ap packing.mark_bits marked ∙ mark-derives tag))
                  ∙ sym (each_snoc packing.mark_bits ms (mark_as derive tag));
            };
      }

  pub packs_list : (derive ≡ 1 → ⊥) → r.bits ≡ p.bits * 2 → r.width ≡ p.width + 1 → WithMark p derive tag r
  packs_list e b w =
      record {
        more = λ ms l k.
            let v : r.bits ≡ p.bits * 2 ^ 1 + 0 = omega (arith, b) in
            let marked : mark_as derive tag ≡ makelist_mark = rw (ne_eqb derive 1 e) in
            record {
              count = omega (arith, one, k.count, length-append ms (mark_as derive tag ∷ []));
              bits =
                  ap₂ to_bits w v
                  ∙ behind p.bits p.width 1 0 (omega arith)
                  ∙ ap₂ (λ (x y : List Bool). x ++ y) k.bits (list-bits ∙ sym (ap packing.mark_bits marked ∙ mark-lists))
                  ∙ sym (each_snoc packing.mark_bits ms (mark_as derive tag));
            };
      }
