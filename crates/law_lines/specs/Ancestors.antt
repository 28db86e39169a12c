-- The computed ancestors are the ancestors: rounds add types until none is added, and no chain needs more rounds than there
-- are types.
use Rattle.std.specs.Prelude.{Bool, true, ◌||◌, List, ◌⊎◌, ◌↔◌, ◌≡◌}
use mathlib.Core.List.Memᴰ
use Rattle.std.proofs.Common.{inl, inr, sym, ap, ◌∙◌, arith}
use Rattle.std.proofs.Math.Logic.{⊎_elim}
use Rattle.std.proofs.Math.Path.{refl, subst}
use Prim.Native.Nat.{ℕ, zero, suc, ◌≤◌, ◌<◌}
use Rattle.std.proofs.Math.ListN.{length}
use Rattle.lists.specs.Lists.{In, any, filter}
use Rattle.lists.specs.Tests.{or_cases, or_left, or_right, any-in, any_of, filter-in, filter-of}
use Rattle.definitions.specs.Records.{TypeInfo, Sheet}
use Rattle.definitions.specs.Comparisons.{same_name}
use Rattle.definitions.specs.Map.{LineType, LineMap, line_type_of}
use Rattle.definitions.specs.Items.{parents_of, reached, ancestors}
use Rattle.definitions.specs.Ancestry.{Parent, Ancestor, direct, further}
use Rattle.law_orders.specs.Comparisons.{same-name, name-same}
use Rattle.law_orders.specs.Rounds.{ancestor-type}
use Rattle.lists.specs.Members.{filter-short, filter-grows}
use Rattle.law_lines.specs.Statements.{Readable, line_map, AncestorsAre}
use Rattle.law_lines.specs.Declarations.{type-in, type-of, inherits-in, inherits-of, name-is, one-declaration}

-- ---- the rounds

module _ (m : LineMap) (T : LineType) where
  -- A is one of S, or a parent of one
  abbrev adds : List LineType → LineType → Bool
  adds S A = any (λ (B : LineType). same_name B.name A.name || B.inherits A.name) S

  -- whether A is reached after k rounds more
  test : ℕ → LineType → Bool
  test zero A = T.inherits A.name
  test (suc k) A = adds (reached k m T) A

  reached-is : (k : ℕ) → reached k m T ≡ filter (test k) m.types
  unfolding test reached parents_of
  reached-is zero = refl
  reached-is (suc k) = refl

  reached-suc : (k : ℕ) → reached (suc k) m T ≡ filter (adds (reached k m T)) m.types
  unfolding reached
  reached-suc k = refl

  test-stays : (k : ℕ) (A : LineType) → In A m.types → test k A ≡ true → test (suc k) A ≡ true
  unfolding test
  test-stays k A i e =
      let j : In A (reached k m T) = rw (reached-is k) (filter-in (test k) i e) in
      any-in (λ (B : LineType). same_name B.name A.name || B.inherits A.name) j (or_left (A.inherits A.name) (name-same {a = A.name} refl))

  stays : (k : ℕ) {A : LineType} → In A (reached k m T) → In A (reached (suc k) m T)
  stays k {A} i =
      let r = filter-of (test k) m.types (subst (In A) (reached-is k) i) in
      rw (reached-is (suc k)) (filter-in (test (suc k)) r.0 (test-stays k A r.0 r.1))

  -- a round that adds none
  abbrev Stuck : ℕ → Type 0
  Stuck k = reached k m T ≡ reached (suc k) m T

  stuck-on : (k : ℕ) → Stuck k → Stuck (suc k)
  stuck-on k e = reached-suc k ∙ ap (λ S. filter (adds S) m.types) e ∙ sym (reached-suc (suc k))

  grows : (k : ℕ) → Stuck k ⊎ (length (reached k m T) < length (reached (suc k) m T))
  grows k =
      ⊎_elim
      (λ e. inl (reached-is k ∙ e ∙ sym (reached-is (suc k))))
      (λ h. inr (rw (reached-is k, reached-is (suc k)) h))
      (filter-grows (test k) (test (suc k)) m.types (test-stays k))

  -- after k rounds that add one each, more than k types are reached
  progress : (k : ℕ) → Stuck k ⊎ (k < length (reached (suc k) m T))
  progress zero = ⊎_elim inl (λ (h : length (reached zero m T) < length (reached (suc zero) m T)). inr (omega arith)) (grows zero)
  progress (suc k) =
      ⊎_elim (λ e. inl (stuck-on k e))
      (λ (n : k < length (reached (suc k) m T)).
      ⊎_elim inl (λ (h : length (reached (suc k) m T) < length (reached (suc (suc k)) m T)). inr (omega arith)) (grows (suc k)))
      (progress k)

  short : (k : ℕ) → length (reached k m T) ≤ length m.types
  short k = rw (reached-is k) (filter-short (test k) m.types)

  -- no round after as many as there are types adds one
  last-stuck : Stuck (length m.types)
  last-stuck =
      ⊎_elim (λ e. e) (λ (h : length m.types < length (reached (suc (length m.types)) m T)). absurd (omega (arith, short (suc (length m.types)))))
      (progress (length m.types))

  first-in : (k : ℕ) {A : LineType} → In A (parents_of m T) → In A (reached k m T)
  unfolding reached
  first-in zero i = i
  first-in (suc k) i = stays k (first-in k i)

  -- parents are ancestors
  pub parents-above : {A : LineType} → In A m.types → T.inherits A.name ≡ true → In A (ancestors m T)
  unfolding ancestors parents_of
  parents-above {A} i e = first-in (length m.types) (filter-in (λ (P : LineType). T.inherits P.name) i e)

  -- and so are the parents of ancestors
  pub further-above : {A B : LineType} → In B (ancestors m T) → In A m.types → B.inherits A.name ≡ true → In A (ancestors m T)
  unfolding ancestors
  further-above {A} {B} j i e =
      let k = length m.types in
      let next : In A (reached (suc k) m T) =
      rw (reached-suc k)
      (filter-in (adds (reached k m T)) i
      (any-in (λ (B : LineType). same_name B.name A.name || B.inherits A.name) j (or_right (same_name B.name A.name) e))) in
      subst (In A) (sym last-stuck) next

-- ---- the ancestors

ancestor-more : {s : Sheet} {A B T : TypeInfo} → Ancestor s B T → Parent s A B → Ancestor s A T
ancestor-more (direct p) q = further p (direct q)
ancestor-more (further p a) q = further p (ancestor-more a q)

module _ (s : Sheet) where
  ancestor-from : {A P : TypeInfo} (T : LineType) → In (line_type_of P) (ancestors (line_map s) T) → Ancestor s A P → In (line_type_of A) (ancestors (line_map s) T)
  ancestor-from {A} T i (direct {T = P} p) = further-above (line_map s) T i (type-in s p.declared) (rw (name-is A) (inherits-in P p.listed))
  ancestor-from T i (further {P = B} {T = P} p a) =
      ancestor-from T (further-above (line_map s) T i (type-in s p.declared) (rw (name-is B) (inherits-in P p.listed))) a

  pub ancestor-in : {A T : TypeInfo} → Ancestor s A T → In (line_type_of A) (ancestors (line_map s) (line_type_of T))
  ancestor-in {A} (direct {T = T} p) = parents-above (line_map s) (line_type_of T) (type-in s p.declared) (rw (name-is A) (inherits-in T p.listed))
  ancestor-in (further {P = P} {T = T} p a) =
      ancestor-from (line_type_of T) (parents-above (line_map s) (line_type_of T) (type-in s p.declared) (rw (name-is P) (inherits-in T p.listed))) a

  parent_of : {X : LineType} (T : TypeInfo) → In X (line_map s).types → (line_type_of T).inherits X.name ≡ true → (A : TypeInfo) × Parent s A T × (line_type_of A ≡ X)
  parent_of {X} T i e =
      let r = type-of s i in
      let n : X.name ≡ r.0.name = ap (λ (D : LineType). D.name) (sym r.2) ∙ name-is r.0 in
      (r.0, record { declared = r.1; listed = inherits-of T r.0.name (rw n at e) }, r.2)

  pub parents-are : (T : TypeInfo) (X : LineType) → In X (parents_of (line_map s) (line_type_of T)) ↔ ((A : TypeInfo) × Parent s A T × (line_type_of A ≡ X))
  unfolding parents_of
  parents-are T X = (
    λ i. let r = filter-of (λ (P : LineType). (line_type_of T).inherits P.name) (line_map s).types i in parent_of T r.0 r.1,
    λ h.
        Memᴰ.cast (sym h.2)
        (filter-in (λ (P : LineType). (line_type_of T).inherits P.name) (type-in s h.1.declared) (rw (name-is h.0) (inherits-in T h.1.listed))),
  )

  module _ (ok : Readable s) where
    reached-of : (k : ℕ) {X : LineType} (T : TypeInfo) → In X (reached k (line_map s) (line_type_of T)) → (A : TypeInfo) × Ancestor s A T × (line_type_of A ≡ X)
    unfolding reached
    reached-of zero {X} T i = let r = (parents-are T X).0 i in (r.0, direct r.1, r.2)
    reached-of (suc k) {X} T i =
        let r = filter-of (adds (line_map s) (line_type_of T) (reached k (line_map s) (line_type_of T))) (line_map s).types i in
        let b = any_of (λ (B : LineType). same_name B.name X.name || B.inherits X.name) (reached k (line_map s) (line_type_of T)) r.1 in
        let c = reached-of k T b.1 in
        ⊎_elim
        (λ e.
        let a = type-in s (ancestor-type c.1) in
        (c.0, c.1, one-declaration s ok a r.0 (ap (λ (D : LineType). D.name) c.2 ∙ same-name b.0.name X.name e)))
        (λ e.
        let p = parent_of c.0 r.0 (subst (λ (B : LineType). B.inherits X.name ≡ true) (sym c.2) e) in
        (p.0, ancestor-more c.1 p.1, p.2))
        (or_cases (same_name b.0.name X.name) (b.0.inherits X.name) b.2)

    pub ancestor-of : {X : LineType} (T : TypeInfo) → In X (ancestors (line_map s) (line_type_of T)) → (A : TypeInfo) × Ancestor s A T × (line_type_of A ≡ X)
    unfolding ancestors
    ancestor-of T i = reached-of (length (line_map s).types) T i

pub ancestors-are : AncestorsAre
ancestors-are s ok T X = (ancestor-of s ok T, λ h. Memᴰ.cast (sym h.2) (ancestor-in s h.1))
