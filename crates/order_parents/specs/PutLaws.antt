-- The steps of the loops over the parents.
use Rattle.std.specs.Prelude.{Bool, true, ◌&&◌, ◌||◌, List, [], ◌∷◌, ◌≡◌, refl, ℕ, ◌+◌, ◌^◌, ◌<◌, eqb, length, set}
use Rattle.std.proofs.Math.Bool.{not}
use Rattle.std.proofs.Math.Path.{sym, ap, ap₂}
use Rattle.std.proofs.Common.{◌∙◌, arith, eqb-true, get_or-set_same, get_or-set_other}
use Rattle.std.proofs.lemmas.Bool.{eqb-false}
use Rattle.std.specs.Int.Bits.{bit_or}
use Rattle.lists.specs.Lists.{any, all}
use Rattle.lists.specs.Tests.{by}
use Rattle.rows.specs.Rows.{has_bit}
use Rattle.rows.specs.RowLaws.{bit-either, bit-none}
use Rattle.order_form.specs.Lists.{tab, any-tab-step, all-tab-step}
use Rattle.sheet_draft.specs.Draft.{parent_count_at, parent_at}
use Rattle.catalogue.specs.Layout.{looked}
use Rattle.catalogue.specs.declared.Catalogue.{Catalogue}
use Rattle.sheet_draft.specs.declared.Draft.{Draft}
use Rattle.sheet_draft.specs.declared.entry.Entry.{Entry}
use Rattle.order_parents.specs.Parents.{known_key, row_of, keys_in, ParentsOf, ParentsPut}
use Rattle.order_parents.specs.declared.Found.{Found}

-- ---- the parents of one type

module _ (t : Catalogue) (d : Draft) (row own : ℕ) where
  -- the first n parents
  pub record ParentsTo (n : ℕ) (r : ℕ) (w : Bool) : Type 0 where
    pub bits : (b : ℕ) → has_bit r b ≡ any (λ key. has_bit (looked t key) b) (tab (parent_at d row) n)
    pub whole : w ≡ all (known_key t own) (tab (parent_at d row) n)

  pub parents-none : ParentsTo 0 0 true
  parents-none = record { bits = bit-none; whole = refl }

  pub parents-more : (n r x : ℕ) (w v : Bool) (key : ℕ) → key ≡ parent_at d row n → x ≡ looked t key → v ≡ (not (eqb x 0) && not (eqb key own)) → ParentsTo n r w
      → ParentsTo (n + 1) (bit_or r x) (w && v)
  unfolding known_key
  parents-more n r x w v key e f g p =
      record {
        bits = λ b.
            bit-either r x b
            ∙ ap₂ (λ (c y : Bool). c || y) (p.bits b) (ap (λ (k : ℕ). has_bit k b) (f ∙ ap (looked t) e))
            ∙ sym (any-tab-step (parent_at d row) (λ q. has_bit (looked t q) b) n);
        whole =
            ap₂ (λ (c y : Bool). c && y) p.whole (g ∙ ap₂ (λ (y k : ℕ). not (eqb y 0) && not (eqb k own)) (f ∙ ap (looked t) e) e)
            ∙ sym (all-tab-step (parent_at d row) (known_key t own) n);
      }

  pub parents-all : (n : ℕ) (r : Found) → n ≡ parent_count_at d row → ParentsTo n r.set r.whole → ParentsOf t d row own r
  unfolding keys_in
  parents-all n r e p = record {
    bits = λ b. p.bits b ∙ ap (λ (k : ℕ). any (λ q. has_bit (looked t q) b) (tab (parent_at d row) k)) e;
    whole = p.whole ∙ ap (λ (k : ℕ). all (known_key t own) (tab (parent_at d row) k)) e;
  }

-- ---- the parents of all types

-- the sets of the words stay
looked-kept : (old new : Catalogue) (key : ℕ) → new ≡ record old { parents = new.parents } → looked new key ≡ looked old key
unfolding looked
looked-kept old new key k = ap (λ (t : Catalogue). looked t key) k

-- tests that agree
any-is : (f g : ℕ → Bool) (l : List ℕ) → ((x : ℕ) → f x ≡ g x) → any f l ≡ any g l
any-is f g [] e = refl
any-is f g (x ∷ l) e = ap₂ (λ (a b : Bool). a || b) (e x) (any-is f g l e)

all-is : (f g : ℕ → Bool) (l : List ℕ) → ((x : ℕ) → f x ≡ g x) → all f l ≡ all g l
all-is f g [] e = refl
all-is f g (x ∷ l) e = ap₂ (λ (a b : Bool). a && b) (e x) (all-is f g l e)

module _ (d : Draft) (entries : List Entry) (own : ℕ) where
  known_same : (t old : Catalogue) (key : ℕ) → looked t key ≡ looked old key → known_key t own key ≡ known_key old own key
  unfolding known_key
  known_same t old key e = ap (λ (y : ℕ). not (eqb y 0) && not (eqb key own)) e

  -- the keys of the parents of the type at a place
  abbrev keys_at : ℕ → List ℕ
  keys_at a = keys_in d (row_of entries a)

  pub put-none : (t : Catalogue) → ParentsPut d entries own 0 t t (record { set = 0; whole = true })
  put-none t = record { most = λ a h. absurd (omega arith); sets = λ a h. absurd (omega arith); childed = bit-none; whole = refl; kept = refl }

  pub put-more : (n : ℕ) (old t : Catalogue) (r x : Found) → n < length t.parents → x.set < 2 ^ 64 → ParentsOf t d (row_of entries n) own x
      → ParentsPut d entries own n old t r → ParentsPut d entries own (n + 1) old (record t { parents = set t.parents n x.set }) (record { set = bit_or r.set x.set; whole = r.whole && x.whole })
  put-more n old t r x h m o p =
      let same : (key : ℕ) → looked t key ≡ looked old key = λ key. looked-kept old t key p.kept in
      let bits : (b : ℕ) → has_bit x.set b ≡ any (λ key. has_bit (looked old key) b) (keys_at n) =
      λ b. o.bits b ∙ any-is (λ key. has_bit (looked t key) b) (λ key. has_bit (looked old key) b) (keys_at n) (λ key. ap (λ (y : ℕ). has_bit y b) (same key)) in
      let known : x.whole ≡ all (known_key old own) (keys_at n) = o.whole ∙ all-is (known_key t own) (known_key old own) (keys_at n) (λ key. known_same t old key (same key)) in
      record {
        most = λ a b.
            by (eqb a n)
            (λ e. let z = eqb-true a n e in rw (z, get_or-set_same t.parents n x.set 0 h) m)
            (λ e. let z = eqb-false a n e in rw (get_or-set_other t.parents n a x.set 0 z) (p.most a (omega (arith, z))));
        sets = λ a b.
            by (eqb a n)
            (λ e. let z = eqb-true a n e in rw (z, get_or-set_same t.parents n x.set 0 h) bits)
            (λ e. let z = eqb-false a n e in rw (get_or-set_other t.parents n a x.set 0 z) (p.sets a (omega (arith, z))));
        childed = λ b.
            bit-either r.set x.set b
            ∙ ap₂ (λ (c y : Bool). c || y) (p.childed b) (bits b)
            ∙ sym (any-tab-step (λ a. a) (λ a. any (λ key. has_bit (looked old key) b) (keys_at a)) n);
        whole = ap₂ (λ (c y : Bool). c && y) p.whole known ∙ sym (all-tab-step (λ a. a) (λ a. all (known_key old own) (keys_at a)) n);
        kept = ap (λ (u : Catalogue). record u { parents = set t.parents n x.set }) p.kept;
      }
