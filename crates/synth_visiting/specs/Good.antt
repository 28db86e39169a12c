-- A trail that keeps to the order: each place once, behind the places of its parents. The walk keeps it so.
use Rattle.std.specs.Prelude.{Bool, true, false, ◌&&◌, ◌||◌, not, ◌⊎◌, ◌≡◌, refl, ℕ, zero, suc, ◌+◌, ◌≤◌, ◌<◌, eqb, ltb, length, get_or, take}
use Rattle.std.proofs.Math.Bool.{or-false}
use mathlib.Core.List.Memᴰ
use mathlib.Core.List.{List, [], ◌∷◌, ◌++◌}
use Rattle.std.proofs.Math.Logic.{inl, inr, ⊎_elim}
use Rattle.std.proofs.Common.{sym, ap, ◌∙◌, arith, eqb-true, eq-eqb, ltb-true, ltb-false, length-append}
use Rattle.std.proofs.Math.Path.{subst}
use Rattle.std.proofs.Math.ListN.{get_or-append}
use Rattle.std.proofs.lemmas.List.{take-append-le, get_or_at}
use Rattle.std.proofs.Math.Seq.{take-append_seam}
use Rattle.lists.specs.Lists.{In}
use Rattle.lists.specs.Tests.{by, never, not_so, same_test, cons-elim}
use Rattle.lists.specs.Appending.{any_append, map-append}
use Rattle.order_form.specs.Lists.{elem, elem-left, elem-right, elem-cases, below, below_none, below_one, below_split, below-most, below_all}
use Rattle.order_form.specs.Reading.{listed}
use Rattle.order_form.specs.declared.Parent.{Parent}
use Rattle.order_form.specs.declared.Parents.{Parents}
use Rattle.law_orders.specs.Visit.{choose}
use Rattle.synth_visiting.specs.Walk.{Stop, spots, walk_all, walk}
use Rattle.synth_visiting.specs.Trails.{Orderly}
use Rattle.synth_visiting.specs.Ranks.{rank_of, rank-parent}

-- t may stand behind the places a
pub record Standing (p : Parents) (a : List ℕ) (t : ℕ) : Type 0 where
  pub type : t < p.count
  pub new : elem t a ≡ false
  pub ready : (q : Parent) → In q (listed p t) → elem q.place a ≡ true

pub record Good (p : Parents) (l : List ℕ) : Type 0 where
  pub at : (i : ℕ) → i < length l → Standing p (take i l) (get_or l i 0)
  pub lower : (x : ℕ) → elem x l ≡ true → x < p.count
  pub number : length l ≡ length (below (λ x. elem x l) p.count)

pub good_none : (p : Parents) → Good p []
good_none p = record { at = λ i h. absurd (omega arith); lower = λ x e. never e refl; number = sym (ap length (below_none (λ x. false) p.count (λ x h. refl))) }

-- there are no more than types
pub good-most : (p : Parents) (l : List ℕ) → Good p l → length l ≤ p.count
good-most p l g = rw g.number (below-most (λ x. elem x l) p.count)

-- where every type stands, there are as many as types
pub good-all : (p : Parents) (l : List ℕ) → Good p l → ((x : ℕ) → x < p.count → elem x l ≡ true) → length l ≡ p.count
good-all p l g h = g.number ∙ below_all (λ x. elem x l) p.count h

elem-one : (x t : ℕ) → elem x (t ∷ []) ≡ eqb t x
elem-one x t = or-false (eqb x t) ∙ same_test (λ e. eq-eqb t x (sym (eqb-true x t e))) (λ e. eq-eqb x t (sym (eqb-true t x e)))

pub elem-more : (x t : ℕ) (l : List ℕ) → elem x (l ++ (t ∷ [])) ≡ (elem x l || eqb t x)
elem-more x t l = any_append (eqb x) l (t ∷ []) ∙ ap (λ (b : Bool). elem x l || b) (elem-one x t)

pub good_more : (p : Parents) (l : List ℕ) (t : ℕ) → Good p l → Standing p l t → Good p (l ++ (t ∷ []))
good_more p l t g s =
    record {
      at = λ i h.
          by (ltb i (length l))
          (λ e.
          let k : i < length l = ltb-true i (length l) e in
          rw (take-append-le i l (t ∷ []) (omega arith), get_or-append l (t ∷ []) 0 i k) (g.at i k))
          (λ e.
          let z : length l ≡ i = omega (arith, ltb-false i (length l) e, length-append l (t ∷ [])) in
          subst (λ (n : ℕ). Standing p (take n (l ++ (t ∷ []))) (get_or (l ++ (t ∷ [])) n 0)) z
          (rw (take-append_seam l (t ∷ []), get_or_at l t [] 0 (length l) refl) s));
      lower = λ x e.
          elem-cases x l (t ∷ []) e (g.lower x)
          (λ q. subst (λ (y : ℕ). y < p.count) (eqb-true t x (sym (elem-one x t) ∙ q)) s.type);
      number =
          length-append l (t ∷ [])
          ∙ ap (λ (n : ℕ). n + 1) g.number
          ∙ ap (λ (k : List ℕ). length (below (λ x. elem x l) p.count) + length k) (sym (below_one p.count t s.type))
          ∙ sym
          (below_split (λ x. elem x l) (λ x. eqb t x) (λ x. elem x (l ++ (t ∷ []))) p.count
          (λ x h. elem-more x t l)
          (λ x a b. never a (ap (λ (y : ℕ). elem y l) (sym (eqb-true t x b)) ∙ s.new)));
    }

-- ---- one step of the walk

walk_step : (k : ℕ) (p : Parents) (t : ℕ) (l : List Stop)
    → walk (suc k) p t l
    ≡ choose (elem t (spots l)) l ((walk_all (walk k p) (listed p t) l []).0 ++ (record { place = t; fresh = (walk_all (walk k p) (listed p t) l []).1 } ∷ []))
unfolding walk choose
walk_step k p t l = refl

pub walk-seen : (k : ℕ) (p : Parents) (t : ℕ) (l : List Stop) → elem t (spots l) ≡ true → walk (suc k) p t l ≡ l
unfolding choose
walk-seen k p t l e = walk_step k p t l ∙ rw e

pub walk-new : (k : ℕ) (p : Parents) (t : ℕ) (l : List Stop) → elem t (spots l) ≡ false
    → walk (suc k) p t l ≡ (walk_all (walk k p) (listed p t) l []).0 ++ (record { place = t; fresh = (walk_all (walk k p) (listed p t) l []).1 } ∷ [])
unfolding choose
walk-new k p t l e = walk_step k p t l ∙ rw e

pub spots-more : (l : List Stop) (t : ℕ) (fs : List Bool) → spots (l ++ (record { place = t; fresh = fs } ∷ [])) ≡ spots l ++ (t ∷ [])
spots-more l t fs = map-append (λ (x : Stop). x.place) l (record { place = t; fresh = fs } ∷ [])

-- ---- the walk keeps to the order

module _ (p : Parents) (o : Orderly p) where
  -- a call of t adds t, where it does not stand, and places that are no later in the order
  pub record Walks (t : ℕ) (l k : List Stop) : Type 0 where
    pub good : Good p (spots k)
    pub keeps : (x : ℕ) → elem x (spots l) ≡ true → elem x (spots k) ≡ true
    pub only : (x : ℕ) → elem x (spots k) ≡ true → (elem x (spots l) ≡ true) ⊎ (rank_of p x ≤ rank_of p t)
    pub has : elem t (spots k) ≡ true

  -- calls of some parents that stand before n in the order
  pub record WalksAll (n : ℕ) (qs : List Parent) (l k : List Stop) : Type 0 where
    pub good : Good p (spots k)
    pub keeps : (x : ℕ) → elem x (spots l) ≡ true → elem x (spots k) ≡ true
    pub only : (x : ℕ) → elem x (spots k) ≡ true → (elem x (spots l) ≡ true) ⊎ (rank_of p x < n)
    pub has : (q : Parent) → In q qs → elem q.place (spots k) ≡ true

  abbrev Walking : (ℕ → List Stop → List Stop) → ℕ → Type 0
  Walking call n = (t : ℕ) → t < p.count → rank_of p t < n → (l : List Stop) → Good p (spots l) → Walks t l (call t l)

  pub walks-all : (call : ℕ → List Stop → List Stop) (n : ℕ) → Walking call n → (qs : List Parent)
      → ((q : Parent) → In q qs → (q.place < p.count) × (rank_of p q.place < n)) → (l : List Stop) (fs : List Bool) → Good p (spots l)
      → WalksAll n qs l (walk_all call qs l fs).0
  unfolding walk_all
  walks-all call n w [] b l fs g = record { good = g; keeps = λ x e. e; only = λ x e. inl e; has = λ q i. absurd (Memᴰ.not-nil i) }
  walks-all call n w (q ∷ qs) b l fs g =
      let a = b q (Memᴰ.head refl) in
      let c = w q.place a.0 a.1 l g in
      let r =
      walks-all call n w qs (λ y i. b y (Memᴰ.tail i)) (call q.place l)
      (fs ++ ((not (elem q.place (spots l)) && elem q.place (spots (call q.place l))) ∷ []))
      c.good in
      record {
        good = r.good;
        keeps = λ x e. r.keeps x (c.keeps x e);
        only = λ x e. ⊎_elim (λ f. ⊎_elim inl (λ (h : rank_of p x ≤ rank_of p q.place). inr (omega (arith, a.1))) (c.only x f)) inr (r.only x e);
        has = λ y i. cons-elim i (λ e. subst (λ (z : Parent). elem z.place (spots (walk_all call qs (call q.place l) (fs ++ ((not (elem q.place (spots l)) && elem q.place (spots (call q.place l))) ∷ []))).0) ≡ true) (sym e) (r.keeps q.place c.has)) (r.has y);
      }

  -- t behind its parents
  walks-new : (t : ℕ) (l k : List Stop) (fs : List Bool) → t < p.count → elem t (spots l) ≡ false → WalksAll (rank_of p t) (listed p t) l k
      → Walks t l (k ++ (record { place = t; fresh = fs } ∷ []))
  walks-new t l k fs h e a =
      let z = spots-more k t fs in
      record {
        good =
            subst (Good p) (sym z)
            (good_more p (spots k) t a.good (record { type = h; new = not_so (λ q. ⊎_elim (λ f. never f e) (λ (f : rank_of p t < rank_of p t). omega arith) (a.only t q)); ready = a.has }));
        keeps = λ x f. ap (elem x) z ∙ elem-left x (spots k) (t ∷ []) (a.keeps x f);
        only = λ x f.
            elem-cases x (spots k) (t ∷ []) (sym (ap (elem x) z) ∙ f)
            (λ q. ⊎_elim inl (λ (r : rank_of p x < rank_of p t). inr (omega arith)) (a.only x q))
            (λ q. inr (subst (λ (y : ℕ). rank_of p y ≤ rank_of p t) (eqb-true t x (sym (elem-one x t) ∙ q)) (omega arith)));
        has = ap (elem t) z ∙ elem-right t (spots k) (t ∷ []) (elem-one t t ∙ eq-eqb t t refl);
      }

  pub walks : (k : ℕ) → Walking (walk k p) k
  walks zero t h r l g = absurd (omega arith)
  walks (suc k) t h r l g =
      by (elem t (spots l))
      (λ e. subst (Walks t l) (sym (walk-seen k p t l e)) (record { good = g; keeps = λ x f. f; only = λ x f. inl f; has = e }))
      (λ e.
      subst (Walks t l) (sym (walk-new k p t l e))
      (walks-new t l (walk_all (walk k p) (listed p t) l []).0 (walk_all (walk k p) (listed p t) l []).1 h e
      (walks-all (walk k p) (rank_of p t) (λ u j s. walks k u j (omega arith)) (listed p t) (λ q i. rank-parent p o t h q i) l [] g)))
