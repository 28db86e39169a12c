-- Laws of the rounds: what is placed after k of them, and that as many as there are types are enough.
use Rattle.std.specs.Prelude.{Bool, true, false, ◌||◌, ◌⊎◌, ◌≡◌}
use Rattle.std.proofs.Math.Bool.{not}
use mathlib.Core.List.Memᴰ
use mathlib.Core.List.Permᴰ
use mathlib.Core.List.{List, [], ◌∷◌, ◌++◌, append-nil, append_assoc, Permᴰ}
use Rattle.std.proofs.Math.Logic.{inl, inr, ⊎_elim}
use Rattle.std.proofs.Math.Path.{refl, ap}
use Rattle.std.proofs.Common.{sym, ◌∙◌, subst, arith}
use Prim.Native.Nat.{ℕ, zero, suc, ◌≤◌, ◌<◌}
use Rattle.std.proofs.Math.ListN.{length, length-append}
use Rattle.lists.specs.Lists.{In, any, null, filter}
use Rattle.lists.specs.Tests.{never, not_so, or_cases, or_left, or_right, any-not, all_in, all_of, all-not, filter-in, filter-of, filter-all, null-in}
use Rattle.lists.specs.Sorting.{sorted-across, sorted_filter, perm_in, perm-length, perm-sorted, filter-perm}
use Rattle.definitions.specs.Records.{Name, TypeInfo}
use Rattle.definitions.specs.Comparisons.{elem_name, name_before}
use Rattle.definitions.specs.Map.{TypeMap}
use Rattle.definitions.specs.Order.{is_self, Pass, ready, pass, passes, last_pass, inherits_self}
use Rattle.law_orders.specs.Comparisons.{names_of, named_in, named-of, NamesApart, NamesAscend}

-- a parent that holds no type back
abbrev lets : TypeMap → List TypeInfo → Name → Bool
lets m placed p = is_self m p || elem_name p (names_of placed)

-- each parent of a type that is ready is `self` or is placed
ready-in : (m : TypeMap) (placed : List TypeInfo) (T : TypeInfo) {p : Name} → ready m placed T ≡ true → In p T.parents
    → (is_self m p ≡ true) ⊎ ((U : TypeInfo) × In U placed × (U.name ≡ p))
unfolding ready
ready-in m placed T {p} r i =
    ⊎_elim inl (λ e. inr (named-of p placed e))
    (or_cases (is_self m p) (elem_name p (names_of placed)) (all_in (lets m placed) r i))

ready_of : (m : TypeMap) (placed : List TypeInfo) (T : TypeInfo)
    → ((p : Name) → In p T.parents → (is_self m p ≡ true) ⊎ ((U : TypeInfo) × In U placed × (U.name ≡ p)))
    → ready m placed T ≡ true
unfolding ready
ready_of m placed T h =
    all_of (lets m placed) T.parents (λ p i.
    ⊎_elim
    (λ e. or_left (elem_name p (names_of placed)) e)
    (λ r. or_right (is_self m p) (named_in r.1 r.2))
    (h p i))

-- a type that is not ready waits for a parent that is not placed
pub ready-not : (m : TypeMap) (placed : List TypeInfo) (T : TypeInfo) → ready m placed T ≡ false
    → (p : Name) × In p T.parents × ((U : TypeInfo) → In U placed → U.name ≡ p → ⊥)
unfolding ready
ready-not m placed T e =
    let r = all-not (lets m placed) T.parents e in
    (r.0, r.1, λ U i q. never (or_right (is_self m r.0) (named_in i q)) r.2)

module _ (m : TypeMap) where
  abbrev pub Placed : TypeInfo → ℕ → Type 0
  Placed T k = In T (passes m k).placed

  abbrev pub Waits : TypeInfo → ℕ → Type 0
  Waits T k = In T (passes m k).waiting

  -- the types placed and those that wait are the types
  passes-perm : (k : ℕ) → Permᴰ ((passes m k).placed ++ (passes m k).waiting) m.types
  unfolding passes pass
  passes-perm zero = Permᴰ.refl m.types
  passes-perm (suc k) =
      let a = (passes m k).placed in
      let w = (passes m k).waiting in
      rw (append_assoc a (filter (ready m a) w) (filter (λ T. not (ready m a T)) w))
      (Permᴰ.trans (Permᴰ.append_left a (filter-perm (ready m a) w)) (passes-perm k))

  pub placed-type : (k : ℕ) {T : TypeInfo} → Placed T k → In T m.types
  placed-type k i = perm_in (passes-perm k) (Memᴰ.append_left (passes m k).waiting i)

  pub waits-type : (k : ℕ) {T : TypeInfo} → Waits T k → In T m.types
  waits-type k i = perm_in (passes-perm k) (Memᴰ.append_right (passes m k).placed i)

  pub placed-or-waits : (k : ℕ) {T : TypeInfo} → In T m.types → Placed T k ⊎ Waits T k
  placed-or-waits k i = Memᴰ.append_cases (passes m k).placed (perm_in (Permᴰ.symm (passes-perm k)) i)

  -- what was placed stays
  pub stays : (k : ℕ) {T : TypeInfo} → Placed T k → Placed T (suc k)
  unfolding passes pass
  stays k i = Memᴰ.append_left (filter (ready m (passes m k).placed) (passes m k).waiting) i

  -- what is placed was ready
  was-ready : (k : ℕ) {T : TypeInfo} → Placed T (suc k) → ready m (passes m k).placed T ≡ true
  unfolding passes pass
  was-ready zero {T} i = (filter-of (ready m []) m.types i).1
  was-ready (suc k) {T} i =
      ⊎_elim
      (λ j.
      ready_of m (passes m (suc k)).placed T (λ p h.
      ⊎_elim inl (λ r. inr (r.0, stays k r.1, r.2)) (ready-in m (passes m k).placed T (was-ready k j) h)))
      (λ j. (filter-of (ready m (passes m (suc k)).placed) (passes m (suc k)).waiting j).1)
      (Memᴰ.append_cases (passes m (suc k)).placed i)

  -- where no parent is `self`
  module _ (no_self : inherits_self m ≡ false) where
    pub not-self : (T : TypeInfo) → In T m.types → (p : Name) → In p T.parents → is_self m p ≡ false
    unfolding inherits_self
    not-self T i p h = any-not (is_self m) (any-not (λ (T : TypeInfo). any (is_self m) T.parents) no_self i) h

    -- each parent that a placed type lists is the name of a type placed a round before
    pub listed-placed : (k : ℕ) {T : TypeInfo} {p : Name} → Placed T (suc k) → In p T.parents → (U : TypeInfo) × Placed U k × (U.name ≡ p)
    listed-placed k {T} {p} i h =
        ⊎_elim (λ e. never e (not-self T (placed-type (suc k) i) p h)) (λ r. r) (ready-in m (passes m k).placed T (was-ready k i) h)

  -- a round that places none
  abbrev Stuck : ℕ → Type 0
  Stuck k = filter (ready m (passes m k).placed) (passes m k).waiting ≡ []

  stuck-not : (k : ℕ) → Stuck k → (T : TypeInfo) → Waits T k → ready m (passes m k).placed T ≡ false
  stuck-not k e T i =
      not_so (λ r. null-in (ap null e) (filter-in (ready m (passes m k).placed) i r))

  -- changes nothing
  stuck-same : (k : ℕ) → Stuck k → passes m (suc k) ≡ passes m k
  unfolding passes pass
  stuck-same k e =
      λ i. record {
        placed = (ap (λ l. (passes m k).placed ++ l) e ∙ append-nil (passes m k).placed) i;
        waiting = filter-all (λ T. not (ready m (passes m k).placed T)) (passes m k).waiting (λ T w. ap not (stuck-not k e T w)) i;
      }

  stuck-on : (k : ℕ) → Stuck k → Stuck (suc k)
  stuck-on k e = subst (λ (s : Pass). filter (ready m s.placed) s.waiting ≡ []) (sym (stuck-same k e)) e

  -- after k rounds that place one each, k types are placed
  progress : (k : ℕ) → Stuck k ⊎ (k < length (passes m (suc k)).placed)
  unfolding passes pass
  progress zero = nonempty (filter (ready m []) m.types)
    where
      nonempty : (l : List TypeInfo) → (l ≡ []) ⊎ (0 < length l)
      nonempty [] = inl refl
      nonempty (x ∷ l) = inr (omega arith)
  progress (suc k) =
      ⊎_elim (λ e. inl (stuck-on k e))
      (λ h. nonempty (filter (ready m (passes m (suc k)).placed) (passes m (suc k)).waiting) h)
      (progress k)
    where
      nonempty : (l : List TypeInfo) → k < length (passes m (suc k)).placed → (l ≡ []) ⊎ (suc k < length ((passes m (suc k)).placed ++ l))
      nonempty [] h = inl refl
      nonempty (x ∷ l) h = inr (rw length-append (omega arith))

  placed-short : (k : ℕ) → length (passes m k).placed ≤ length m.types
  placed-short k = omega (arith, length-append (passes m k).placed (passes m k).waiting, perm-length (passes-perm k))

  -- after as many rounds as there are types, no further round places one
  last-stuck : Stuck (length m.types)
  last-stuck = ⊎_elim (λ e. e) (λ h. absurd (omega (arith, placed-short (suc (length m.types))))) (progress (length m.types))

  -- so a type that waits then is not ready
  pub last-waits : {T : TypeInfo} → In T (last_pass m).waiting → ready m (last_pass m).placed T ≡ false
  unfolding last_pass
  last-waits {T} i = stuck-not (length m.types) last-stuck T i

  -- where round one places none, no round does
  pub none_first : (passes m 1).placed ≡ [] → (last_pass m).waiting ≡ m.types
  unfolding last_pass passes pass
  none_first e = ap (λ (s : Pass). s.waiting) (go (length m.types))
    where
      go : (k : ℕ) → passes m k ≡ passes m zero
      go zero = refl
      go (suc k) = ap (pass m) (go k) ∙ stuck-same zero e

  -- ---- names of their own
  module _ (apart : NamesApart m.types) where
    -- a type that waits is not placed
    pub waits-not : (k : ℕ) {T U : TypeInfo} → Waits T k → Placed U k → U.name ≡ T.name → ⊥
    waits-not k {T} {U} w i e =
        sorted-across (λ (T U : TypeInfo). T.name ≡ U.name → ⊥) (passes m k).placed (passes m k).waiting
        (perm-sorted (λ (T U : TypeInfo). T.name ≡ U.name → ⊥) (λ T U h q. h (sym q)) (Permᴰ.symm (passes-perm k)) apart) U T i w e

  pub waiting-ascends : (ws : List (List ℕ)) → NamesAscend ws m.types → (k : ℕ) → NamesAscend ws (passes m k).waiting
  unfolding passes pass
  waiting-ascends ws s zero = s
  waiting-ascends ws s (suc k) =
      sorted_filter (λ (T U : TypeInfo). name_before ws T.name U.name ≡ true) (λ T. not (ready m (passes m k).placed T)) (passes m k).waiting (waiting-ascends ws s k)
