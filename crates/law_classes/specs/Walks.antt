-- Sets of types walked by their numbers: a test of some type, the classes of a set in their order, the parents that pass a
-- word on.
use Rattle.std.specs.Prelude.{Bool, false, ◌&&◌, ◌≡◌, refl, ℕ, ◌≤◌, ◌<◌, eqb, ltb, length}
use Rattle.std.proofs.Math.Bool.{true, not}
use mathlib.Core.List.{List, [], ◌∷◌, map}
use Rattle.std.proofs.Math.Path.{sym, ap, ap₂}
use Rattle.std.proofs.Common.{◌∙◌, arith, ltb-true, ltb-false}
use Rattle.std.specs.Int.Bits.{bit_and, bit_or}
use Rattle.std.proofs.lemmas.Nat.{or_lt}
use Rattle.lists.specs.Lists.{any, keep, filter}
use Rattle.lists.specs.Tests.{by, never, same_test, and_left, and_right, and_both, or-false-both, any-in, any_of}
use Rattle.lists.specs.Places.{get_d-in}
use Rattle.rows.specs.Rows.{has_bit}
use Rattle.rows.specs.RowLaws.{bit-either}
use Rattle.order_form.specs.Lists.{below, below-same, filter-below}
use Rattle.bitsets.specs.Bitsets.{members}
use Rattle.bitsets.specs.BitLaws.{members-of, in_members}
use Rattle.definitions.specs.Map.{LineType, LineMap}
use Rattle.definitions.specs.Items.{parents_of}
use Rattle.law_classes.specs.Sets.{Set, both, some, masked, passed_set, no_type, type_at, SetIs}
use Rattle.law_classes.specs.Numbers.{place-of, Fits, fits_both, holds-both, holds-some, types-at}

-- a filter of a filter
pub filter-twice : {A : Type 0} (f g : A → Bool) (l : List A) → filter g (filter f l) ≡ filter (λ x. f x && g x) l
filter-twice f g [] = refl
filter-twice {A} f g (x ∷ l) =
    by (f x)
    (λ e. rw e (ap (keep (g x) x) (filter-twice f g l)))
    (λ e. rw e (filter-twice f g l))

module _ (m : LineMap) where
  abbrev n : ℕ
  n = length m.types

  -- ---- numbers that fit

  pub fits-either : (x y : ℕ) → Fits m x → Fits m y → Fits m (bit_or x y)
  fits-either x y f g = record { most = or_lt 64 x y f.most g.most; within = λ a h. bit-either x y a ∙ or-false-both (f.within a h) (g.within a h) }

  -- ---- a test of some type, by the places of a set outside of which it fails

  pub some-walked : (set : ℕ) (F : LineType → Bool) (f : ℕ → Bool) → n ≤ 64 → ((a : ℕ) → n ≤ a → has_bit set a ≡ false) → ((a : ℕ) → a < n → F (type_at m a) ≡ (has_bit set a && f a))
      → any F m.types ≡ any f (members set)
  some-walked set F f few past at =
      same_test
      (λ e.
      let x = any_of F m.types e in
      let p = place-of no_type x.0 m.types x.1 in
      let b : (has_bit set p.0 && f p.0) ≡ true = sym (at p.0 p.1) ∙ ap F p.2 ∙ x.2 in
      any-in f (in_members set (omega (arith, p.1, few)) (and_left (has_bit set p.0) (f p.0) b)) (and_right (has_bit set p.0) (f p.0) b))
      (λ e.
      let x = any_of f (members set) e in
      let b = members-of set x.1 in
      by (ltb x.0 n)
      (λ l.
      let h = ltb-true x.0 n l in
      any-in F (get_d-in m.types no_type x.0 h) (at x.0 h ∙ and_both b.1 x.2))
      (λ l. never b.1 (past x.0 (ltb-false x.0 n l))))

  -- ---- the parents whose passed set meets the mask of a word

  pub passing-walked : (T : LineType) (r parents mask : ℕ) (passed : ℕ → ℕ) → SetIs m parents (λ (P : LineType). T.inherits P.name) → ((p : ℕ) → p < n → SetIs m (passed p) (passed_set m (type_at m p)))
      → Fits m mask → SetIs m mask (masked r)
      → filter (λ P. some m (both (passed_set m P) (masked r))) (parents_of m T) ≡ map (type_at m) (below (λ p. has_bit parents p && not (eqb (bit_and (passed p) mask) 0)) n)
  unfolding parents_of
  passing-walked T r parents mask passed par pas fits holds =
      let f : Set = λ P. T.inherits P.name in
      let g : Set = λ P. some m (both (passed_set m P) (masked r)) in
      filter-twice f g m.types
      ∙ ap (filter (both f g)) (types-at m)
      ∙ filter-below (both f g) (type_at m) (λ t. true) n
      ∙ ap (map (type_at m))
      (below-same (λ a. true && both f g (type_at m a)) (λ p. has_bit parents p && not (eqb (bit_and (passed p) mask) 0)) n
      (λ p k.
      ap₂ (λ a b. a && b) (sym (par p k))
      (holds-some m (bit_and (passed p) mask) (both (passed_set m (type_at m p)) (masked r)) (fits_both m (passed p) mask fits) (holds-both m (passed p) mask (passed_set m (type_at m p)) (masked r) (pas p k) holds))))
