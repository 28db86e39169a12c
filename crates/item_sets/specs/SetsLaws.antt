-- The steps of the loops down the order and over the extension records.
use Rattle.std.specs.Prelude.{Bool, ◌||◌, List, ◌≡◌, ℕ, ◌+◌, ◌/◌, ◌<◌, length, get_or, set}
use Rattle.std.proofs.Common.{refl, sym, ap, ◌∙◌, subst, arith}
use Rattle.std.specs.Int.Bits.{bit_or}
use Rattle.rows.specs.Rows.{has_bit}
use Rattle.rows.specs.RowLaws.{bit-either, bit-none}
use Rattle.order_form.specs.Lists.{any-tab-step}
use Rattle.item_spread.specs.Spread.{United, Ordered}
use Rattle.item_spread.specs.SpreadLaws.{spread-more}
use Rattle.catalogue.specs.Layout.{parents_at, extension_key_at, looked}
use Rattle.catalogue.specs.declared.Catalogue.{Catalogue}
use Rattle.item_sets.specs.Sets.{SpreadPut, ExtendedIs}

-- ---- down the order

pub spread-next : (order : List ℕ) (count : ℕ) (given : List ℕ) (old t : Catalogue) (i row : ℕ) → Ordered order count old.parents → (length t.above ≡ 64) × (length t.passed ≡ 64) → i < count
    → United (parents_at t (get_or order i 0)) t.passed row
    → {new : Catalogue} → new ≡ record t { above = set t.above (get_or order i 0) row; passed = set t.passed (get_or order i 0) (bit_or (get_or given (get_or order i 0) 0) row) }
    → SpreadPut order i given old t → SpreadPut order (i + 1) given old new
spread-next order count given old t i row o l h w e p =
    let a = get_or order i 0 in
    let q = bit_or (get_or given a 0) row in
    rw e
    record {
      right =
          spread-more order count old.parents given t.above t.passed i a row o (omega arith) (omega arith) h refl
          (subst (λ (c : Catalogue). United (parents_at c a) t.passed row) p.kept w) p.right;
      kept = ap (λ (c : Catalogue). record c { above = set t.above a row; passed = set t.passed a q }) p.kept;
    }

-- the same, where a is the place
pub spread-at : (order : List ℕ) (count : ℕ) (given : List ℕ) (old t : Catalogue) (i a row : ℕ) → a ≡ get_or order i 0 → Ordered order count old.parents → (length t.above ≡ 64) × (length t.passed ≡ 64)
    → i < count → United (parents_at t a) t.passed row
    → {new : Catalogue} → new ≡ record t { above = set t.above a row; passed = set t.passed a (bit_or (get_or given a 0) row) } → SpreadPut order i given old t → SpreadPut order (i + 1) given old new
spread-at order count given old t i a row e o l h u {new} w p =
    spread-next order count given old t i row o l h
    (subst (λ (k : ℕ). United (parents_at t k) t.passed row) e u)
    (subst (λ (k : ℕ). new ≡ record t { above = set t.above k row; passed = set t.passed k (bit_or (get_or given k 0) row) }) e w)
    p

-- ---- the types that have a record

pub extended_none : (t : Catalogue) → ExtendedIs t 0 0
extended_none t = record { types = bit-none }

pub extended_more : (t : Catalogue) (n r : ℕ) → ExtendedIs t n r → ExtendedIs t (n + 1) (bit_or r (looked t (extension_key_at t n / 256)))
extended_more t n r p =
    record {
      types = λ a.
          bit-either r (looked t (extension_key_at t n / 256)) a
          ∙ ap (λ (b : Bool). b || has_bit (looked t (extension_key_at t n / 256)) a) (p.types a)
          ∙ sym (any-tab-step (λ i. i) (λ i. has_bit (looked t (extension_key_at t i / 256)) a) n);
    }
