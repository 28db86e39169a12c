-- Counts over a set, and the walk over it: its lowest place, then the rest.
use Rattle.std.specs.Prelude.{Bool, true, false, List, [], ◌∷◌, ◌++◌, ◌≡◌, refl, ℕ, zero, suc, ◌+◌, ◌*◌, ◌/◌, ◌%◌, ◌^◌, ◌≤◌, ◌<◌, length, drop}
use mathlib.Core.List.Memᴰ
use mathlib.Core.List.{Permᴰ}
use Rattle.std.proofs.Common.{sym, ap, ap₂, ◌∙◌, mul-suc, pow-suc, arith, eq-eqb, ne_eqb, length-append}
use Rattle.std.proofs.Math.Decide.{dec_lt}
use Rattle.std.specs.Int.Count as counting
use Rattle.lists.specs.Lists.{In, each}
use Rattle.lists.specs.Tabulating.{tabulate, length-tabulate, get_d_tabulate}
use Rattle.lists.specs.Places.{drop-step, drop-end}
use Rattle.order_form.specs.Lists.{only, below, below-most}
use Rattle.rows.specs.Rows.{has_bit}
use Rattle.bitsets.specs.Bitsets.{members, Lowest, Rest}
use Rattle.bitsets.specs.BitLaws.{members-next, members-none}
use Rattle.catalogue.specs.declared.Catalogue.{Catalogue}
use Rattle.catalogue.specs.ByDom.{but, FirstByDom}
use Rattle.catalogue.specs.DomLaws.{by_dom-next, by_dom-none, by_dom-plain}
use Rattle.item_making.specs.Making.{each_of, each_by, total}

-- how many a set has is how many of its bits are set
only-long : (b : Bool) (x y : ℕ) → length (only b x) ≡ length (only b y)
only-long true x y = refl
only-long false x y = refl

-- the numbers below n + 1 with f: 0, if it is one, and those behind it
below-behind : (f : ℕ → Bool) (n : ℕ) → length (below f (suc n)) ≡ length (only (f 0) 0) + length (below (λ k. f (suc k)) n)
below-behind f zero = omega arith
below-behind f (suc n) =
    omega (
      arith,
      length-append (below f (suc n)) (only (f (suc n)) (suc n)),
      below-behind f n,
      length-append (below (λ k. f (suc k)) n) (only (f (suc n)) n),
      only-long (f (suc n)) (suc n) n,
    )

lowest-bit : (x : ℕ) → length (only (has_bit x 0) 0) ≡ x % 2
unfolding has_bit
lowest-bit x =
    elim (dec_lt (x % 2) 1) [
      | yes l ↦ rw (ne_eqb (x % 2) 1 (λ e. absurd (omega arith))) (omega arith)
      | no l ↦ rw (eq-eqb (x % 2) 1 (omega arith)) (omega arith)
    ]

bits-long : (d x : ℕ) → x < 2 ^ d → length (below (has_bit x) d) ≡ counting.ones x
unfolding counting.ones has_bit
bits-long zero x h = let e : x ≡ 0 = omega arith in rw e refl
bits-long (suc d) x h =
    let b = bits-long d (x / 2) (omega (arith, pow-suc 2 d)) in
    omega (arith, below-behind (has_bit x) d, lowest-bit x, b, counting.ones_step x)

pub members_long : (x : ℕ) → x < 2 ^ 64 → counting.ones x ≡ length (members x)
unfolding members
members_long x h = sym (bits-long 64 x h)

pub members_most : (x : ℕ) → length (members x) ≤ 64
unfolding members
members_most x = below-most (has_bit x) 64

-- what is made of each
pub each_next : (g : ℕ → List Bool) (left k r : ℕ) → Lowest left k → Rest left r → each_of g left ≡ g k ++ each_of g r
unfolding each_of
each_next g left k r w t = ap (each g) (members-next left k r w t)

pub each_none : (g : ℕ → List Bool) (left : ℕ) → left ≡ 0 → each_of g left ≡ []
unfolding each_of
each_none g left e = ap (each g) (members-none left e)

-- of the classes by dom
pub each_by-next : (t : Catalogue) (g : ℕ → List Bool) (left k : ℕ) → FirstByDom t left k → each_by t g left ≡ g k ++ each_by t g (but left k)
unfolding each_by
each_by-next t g left k f = ap (each g) (by_dom-next t left k f)

pub each_by-none : (t : Catalogue) (g : ℕ → List Bool) (left : ℕ) → left ≡ 0 → each_by t g left ≡ []
unfolding each_by
each_by-none t g left e = ap (each g) (by_dom-none t left e)

pub each_by-plain : (t : Catalogue) (g : ℕ → List Bool) (set : ℕ) → t.hyphens ≡ false → each_by t g set ≡ each_of g set
unfolding each_by each_of
each_by-plain t g set e = ap (each g) (by_dom-plain t set e)

-- what each counts
pub total_next : (f : ℕ → ℕ) (left k r : ℕ) → Lowest left k → Rest left r → total f (members left) ≡ f k + total f (members r)
total_next f left k r w t = ap (total f) (members-next left k r w t)

pub total_none : (f : ℕ → ℕ) (left : ℕ) → left ≡ 0 → total f (members left) ≡ 0
total_none f left e = ap (total f) (members-none left e)

pub total-append : (f : ℕ → ℕ) (a b : List ℕ) → total f (a ++ b) ≡ total f a + total f b
total-append f [] b = omega arith
total-append f (x ∷ a) b = omega (arith, total-append f a b)

-- at most m each
pub total-most : (f : ℕ → ℕ) (m : ℕ) (l : List ℕ) → ((x : ℕ) → In x l → f x ≤ m) → total f l ≤ m * length l
total-most f m [] h = omega arith
total-most f m (x ∷ l) h = rw (mul-suc m (length l)) (omega (arith, h x (Memᴰ.head refl), total-most f m l (λ y i. h y (Memᴰ.tail i))))

pub total-same : (f g : ℕ → ℕ) (l : List ℕ) → ((x : ℕ) → In x l → f x ≡ g x) → total f l ≡ total g l
total-same f g [] h = refl
total-same f g (x ∷ l) h = ap₂ (λ (a b : ℕ). a + b) (h x (Memᴰ.head refl)) (total-same f g l (λ y i. h y (Memᴰ.tail i)))

-- whatever the order
pub total-perm : (f : ℕ → ℕ) {l k : List ℕ} → Permᴰ l k → total f l ≡ total f k
total-perm f Permᴰ.nil = refl
total-perm f (Permᴰ.cons e p) = ap₂ (λ (a b : ℕ). a + b) (ap f e) (total-perm f p)
total-perm f (Permᴰ.swap {l = l} e g) = omega (arith, ap f e, ap f g)
total-perm f (Permᴰ.trans p q) = total-perm f p ∙ total-perm f q

-- as many as there are
pub total-each : {A : Type 0} (g : ℕ → List A) (l : List ℕ) → length (each g l) ≡ total (λ x. length (g x)) l
total-each g [] = refl
total-each g (x ∷ l) = length-append (g x) (each g l) ∙ ap (λ (n : ℕ). length (g x) + n) (total-each g l)

-- ---- the walk up the first n places

pub from_next : {A B : Type 0} (g : A → List B) (f : ℕ → A) (n j : ℕ) → j < n → each g (drop j (tabulate f n)) ≡ g (f j) ++ each g (drop (j + 1) (tabulate f n))
from_next g f n j h =
    ap (each g) (drop-step (tabulate f n) j (f j) (rw (length-tabulate f n) h)) ∙ ap (λ x. g x ++ each g (drop (j + 1) (tabulate f n))) (get_d_tabulate f n j (f j) h)

pub from_end : {A B : Type 0} (g : A → List B) (f : ℕ → A) (n j : ℕ) → n ≤ j → each g (drop j (tabulate f n)) ≡ []
from_end g f n j h = ap (each g) (drop-end (tabulate f n) j (omega (arith, length-tabulate f n)))
