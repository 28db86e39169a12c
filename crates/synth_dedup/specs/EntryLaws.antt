-- The dedup keeps entries apart and none empty, and there are no more entries than words.
use mathlib.Core.Bool.{Bool, true, false, ◌&&◌, ◌||◌, not, or-false}
use Rattle.std.specs.Prelude.{List, [], ◌∷◌, ◌++◌, ◌≡◌, refl, ℕ, zero, suc, ◌<◌, ◌≤◌, length, get_or, set, take, replicate}
use Rattle.std.proofs.Common.{append-nil, sym, ap, ap₂, ◌∙◌, subst, arith, get_or-take, length-take-le}
use native.Mathlib.Nat.{le_of_suc-le-suc}
use Rattle.std.specs.Int.Bits.{bit_and, bit_or, bit_xor, and_zero_r, and_self, xor_zero_r, xor_self}
use Rattle.std.proofs.lemmas.Nat.{and_comm}
use Rattle.lists.specs.Lists.{all}
use Rattle.lists.specs.Tests.{by, never, and_left, and_right, neither, and_both}
use Rattle.lists.specs.Appending.{any_append, all_append}
use Rattle.rows.specs.declared.Row.{Row}
use Rattle.rows.specs.Rows.{has, none, common, without}
use Rattle.rows.specs.RowLaws.{Small, has-common, has-without, has-none, some-there, all-zero, small-common, small-without}
use Rattle.sheet_records.specs.declared.Kind.{Kind}
use Rattle.sheet_records.specs.declared.Kind.TheVariants.{MakeList}
use Rattle.synth_annotations.specs.Reading.{overlap_at}
use Rattle.synth_dedup.specs.declared.Entry.{Entry}
use Rattle.synth_dedup.specs.Lists.{all_filter, many, many-most, many-or, many-some}
use Rattle.synth_dedup.specs.Entries.{Entries, shared_by, left_by, inter, diff, stands, unless_empty, merge, join, Sound, covers, Apart, nil, cons, Full}

pub covers-append : (a b : List Entry) (w : ℕ) → covers (a ++ b) w ≡ (covers a w || covers b w)
covers-append a b w = any_append (λ (e : Entry). has e.words w) a b

pub covers-unless : (e : Entry) (w : ℕ) → covers (unless_empty e) w ≡ has e.words w
unfolding unless_empty
covers-unless e w = by (none e.words) (λ p. rw p (sym (has-none e.words w p))) (λ p. rw (p, or-false))

-- ---- two Associates are matched by word

pub diff_is : (x y : Entry) → Sound x → Sound y → diff x y ≡ record { kind = x.kind; words = without x.words y.words; parents = x.parents }
unfolding diff
diff_is x y s t =
    ap₂ (λ (k j : Kind). record { kind = x.kind; words = left_by (overlap_at k j) x.words y.words; parents = x.parents }) s.kind t.kind

pub inter-is : (x y : Entry) → Sound x → Sound y
    → inter x y ≡ record { kind = x.kind; words = common x.words y.words; parents = bit_or x.parents y.parents }
unfolding inter
inter-is x y s t =
    ap₂ (λ (k j : Kind). record { kind = x.kind; words = shared_by (overlap_at k j) x.words y.words; parents = bit_or x.parents y.parents })
    s.kind t.kind

pub has-diff : (x y : Entry) → Sound x → Sound y → (w : ℕ) → has (diff x y).words w ≡ (has x.words w && not (has y.words w))
has-diff x y s t w = ap (λ (e : Entry). has e.words w) (diff_is x y s t) ∙ has-without x.words y.words w

pub has-inter : (x y : Entry) → Sound x → Sound y → (w : ℕ) → has (inter x y).words w ≡ (has x.words w && has y.words w)
has-inter x y s t w = ap (λ (e : Entry). has e.words w) (inter-is x y s t) ∙ has-common x.words y.words w

pub sound-diff : (x y : Entry) → Sound x → Sound y → Sound (diff x y)
unfolding diff
sound-diff x y s t =
    record {
      kind = s.kind;
      small = subst (λ (e : Entry). Small e.words) (sym (diff_is x y s t)) (small-without x.words y.words s.small);
      words = λ w h. s.words w (and_left _ _ (sym (has-diff x y s t w) ∙ h));
    }

pub sound-inter : (x y : Entry) → Sound x → Sound y → Sound (inter x y)
unfolding inter
sound-inter x y s t =
    record {
      kind = s.kind;
      small = subst (λ (e : Entry). Small e.words) (sym (inter-is x y s t)) (small-common x.words y.words s.small);
      words = λ w h. s.words w (and_left _ _ (sym (has-inter x y s t w) ∙ h));
    }

-- ---- words

mix : (x y z : Bool) → ((x && not y) || ((x && y) || (z || (y && not x)))) ≡ ((x || z) || y)
mix true true true = refl
mix true true false = refl
mix true false true = refl
mix true false false = refl
mix false true true = refl
mix false true false = refl
mix false false true = refl
mix false false false = refl

-- the dedup loses no word, and adds the newcomer's
pub merge-covers : (l : List Entry) (n : Entry) → Apart l → Sound n → (w : ℕ) → covers (merge l n) w ≡ (covers l w || has n.words w)
unfolding merge
merge-covers [] n f s w = covers-unless n w
merge-covers (a ∷ l) n (cons sa h f) s w =
    rw (
      covers-append (unless_empty (diff a n)) (unless_empty (inter a n) ++ merge l (diff n a)) w,
      covers-append (unless_empty (inter a n)) (merge l (diff n a)) w,
      covers-unless (diff a n) w,
      covers-unless (inter a n) w,
      merge-covers l (diff n a) f (sound-diff n a s sa) w,
      has-diff a n sa s w,
      has-inter a n sa s w,
      has-diff n a s sa w,
    )
    (mix (has a.words w) (has n.words w) (covers l w))

pub join-covers : (l : List Entry) (n : Entry) → Apart l → Sound n → (w : ℕ) → covers (join l n) w ≡ (covers l w || has n.words w)
unfolding join
join-covers [] n f s w = or-false (has n.words w)
join-covers (a ∷ l) n f s w = merge-covers (a ∷ l) n f s w

-- one entry more in front
apart_cons : (e : Entry) (l : List Entry) → Sound e → ((w : ℕ) → has e.words w ≡ true → covers l w ≡ false) → Apart l → Apart (unless_empty e ++ l)
unfolding unless_empty
apart_cons e l s h f = by (none e.words) (λ p. rw p f) (λ p. rw p (cons s h f))

-- what stands in the rest of a stands in nothing that follows, nor does what a shares
rest-apart : (x y z : Bool) → (x && not y) ≡ true → z ≡ false → ((x && y) || (z || (y && not x))) ≡ false
rest-apart true true z h e = never h refl
rest-apart true false z h e = rw e
rest-apart false y z h e = never h refl

both-apart : (x y z : Bool) → (x && y) ≡ true → z ≡ false → (z || (y && not x)) ≡ false
both-apart true true z h e = rw e
both-apart true false z h e = never h refl
both-apart false y z h e = never h refl

pub merge-apart : (l : List Entry) (n : Entry) → Apart l → Sound n → Apart (merge l n)
unfolding merge
merge-apart [] n f s = rw (sym (append-nil (unless_empty n))) (apart_cons n [] s (λ w h. refl) nil)
merge-apart (a ∷ l) n (cons sa h f) s =
    let t : Sound (diff n a) = sound-diff n a s sa in
    let m : Apart (merge l (diff n a)) = merge-apart l (diff n a) f t in
    let b : Apart (unless_empty (inter a n) ++ merge l (diff n a)) =
    apart_cons (inter a n) (merge l (diff n a)) (sound-inter a n sa s)
    (λ w e.
    let q : (has a.words w && has n.words w) ≡ true = sym (has-inter a n sa s w) ∙ e in
    rw (merge-covers l (diff n a) f t w, has-diff n a s sa w) (both-apart (has a.words w) (has n.words w) (covers l w) q (h w (and_left _ _ q))))
    m in
    apart_cons (diff a n) (unless_empty (inter a n) ++ merge l (diff n a)) (sound-diff a n sa s)
    (λ w e.
    let q : (has a.words w && not (has n.words w)) ≡ true = sym (has-diff a n sa s w) ∙ e in
    rw (
      covers-append (unless_empty (inter a n)) (merge l (diff n a)) w,
      covers-unless (inter a n) w,
      merge-covers l (diff n a) f t w,
      has-inter a n sa s w,
      has-diff n a s sa w,
    )
    (rest-apart (has a.words w) (has n.words w) (covers l w) q (h w (and_left _ _ q))))
    b

pub join_apart : (l : List Entry) (n : Entry) → Apart l → Sound n → Apart (join l n)
unfolding join
join_apart [] n f s = cons s (λ w h. refl) nil
join_apart (a ∷ l) n f s = merge-apart (a ∷ l) n f s

pub merge-full : (l : List Entry) (n : Entry) → Full (merge l n)
unfolding merge unless_empty
merge-full [] n = all_filter stands (n ∷ [])
merge-full (a ∷ l) n =
    all_append stands (unless_empty (diff a n)) (unless_empty (inter a n) ++ merge l (diff n a))
    ∙ and_both (all_filter stands (diff a n ∷ []))
    (all_append stands (unless_empty (inter a n)) (merge l (diff n a)) ∙ and_both (all_filter stands (inter a n ∷ [])) (merge-full l (diff n a)))

-- ---- an empty newcomer changes nothing

less_zero : (a b : ℕ) → b ≡ 0 → bit_xor a (bit_and a b) ≡ a
less_zero a b e = rw (e, and_zero_r a) (xor_zero_r a)

without-none : (x y : Row) → none y ≡ true → without x y ≡ x
unfolding without
without-none x y e =
    let z = all-zero y e in
    rw (less_zero x.a y.a (z 0), less_zero x.b y.b (z 1), less_zero x.c y.c (z 2), less_zero x.d y.d (z 3))

diff-empty : (a n : Entry) → Sound a → Sound n → none n.words ≡ true → diff a n ≡ a
diff-empty a n s t e = diff_is a n s t ∙ ap (λ (r : Row). record { kind = a.kind; words = r; parents = a.parents }) (without-none a.words n.words e)

pub none-by : (x : Row) → Small x → ((w : ℕ) → has x w ≡ false) → none x ≡ true
none-by x s h = by (none x) (λ e. e) (λ e. let t = some-there x s e in never t.there (h t.at))

pub merge-empty : (l : List Entry) (n : Entry) → Apart l → Full l → Sound n → none n.words ≡ true → merge l n ≡ l
unfolding merge unless_empty
merge-empty [] n f u s e = rw e
merge-empty (a ∷ l) n (cons sa h f) u s e =
    let p : stands a ≡ true = and_left (stands a) (all stands l) u in
    let q : diff a n ≡ a = diff-empty a n sa s e in
    let r : none (inter a n).words ≡ true =
    none-by (inter a n).words (sound-inter a n sa s).small
    (λ w. has-inter a n sa s w ∙ rw (has-none n.words w e) (mathlib.Core.Bool.and-false (has a.words w))) in
    let t : none (diff n a).words ≡ true =
    none-by (diff n a).words (sound-diff n a s sa).small (λ w. has-diff n a s sa w ∙ rw (has-none n.words w e)) in
    rw (q, p, r) (ap (λ z. a ∷ z) (merge-empty l (diff n a) f (and_right (stands a) (all stands l) u) (sound-diff n a s sa) t))

-- ---- entries that share nothing keep what they have

less-apart : (a b : ℕ) → bit_and a b ≡ 0 → bit_xor a (bit_and a b) ≡ a
less-apart a b e = rw e (xor_zero_r a)

without-apart : (x y : Row) → none (common x y) ≡ true → (without x y ≡ x) × (without y x ≡ y)
unfolding without common
without-apart x y e =
    let z = all-zero (common x y) e in
    let a : bit_and x.a y.a ≡ 0 = z 0 in
    let b : bit_and x.b y.b ≡ 0 = z 1 in
    let c : bit_and x.c y.c ≡ 0 = z 2 in
    let d : bit_and x.d y.d ≡ 0 = z 3 in (
      rw (less-apart x.a y.a a, less-apart x.b y.b b, less-apart x.c y.c c, less-apart x.d y.d d),
      rw (
        less-apart y.a x.a (and_comm y.a x.a ∙ a),
        less-apart y.b x.b (and_comm y.b x.b ∙ b),
        less-apart y.c x.c (and_comm y.c x.c ∙ c),
        less-apart y.d x.d (and_comm y.d x.d ∙ d),
      ),
    )

nothing_left : (e : Entry) → none e.words ≡ true → unless_empty e ≡ []
unfolding unless_empty
nothing_left e p = rw p

-- the entries of a list that is apart are sound
pub apart-at : (l : List Entry) (i : ℕ) (d : Entry) → Apart l → i < length l → Sound (get_or l i d)
apart-at [] i d f h = absurd (native.Mathlib.Nat.not-suc-le-zero h)
apart-at (e ∷ l) zero d (cons s q f) h = s
apart-at (e ∷ l) (suc i) d (cons s q f) h = apart-at l i d f (le_of_suc-le-suc h)

pub apart-among : (items : List Entry) (count i : ℕ) (d : Entry) → Apart (take count items) → i < count → count ≤ length items → Sound (get_or items i d)
apart-among items count i d f h l =
    let t : length (take count items) ≡ count = length-take-le count items l in
    rw (get_or-take count items i d h) at (apart-at (take count items) i d f (omega arith))

none-common : (a n : Entry) → Sound a → Sound n → none (inter a n).words ≡ none (common a.words n.words)
none-common a n sa s = ap (λ (e : Entry). none e.words) (inter-is a n sa s)

module _ (a n : Entry) (sa : Sound a) (s : Sound n) (p : none (common a.words n.words) ≡ true) where
  apart-left : diff a n ≡ a
  apart-left =
      diff_is a n sa s
      ∙ ap (λ (r : Row). record { kind = a.kind; words = r; parents = a.parents }) (without-apart a.words n.words p).0

  apart-right : diff n a ≡ n
  apart-right =
      diff_is n a s sa
      ∙ ap (λ (r : Row). record { kind = n.kind; words = r; parents = n.parents }) (without-apart a.words n.words p).1

-- entries without a common word share nothing
pub share-nothing : (a n : Entry) → Sound a → Sound n → none (common a.words n.words) ≡ true
    → (unless_empty (inter a n) ≡ []) × (diff a n ≡ a) × (diff n a ≡ n)
share-nothing a n sa s p = (nothing_left (inter a n) (none-common a n sa s ∙ p), apart-left a n sa s p, apart-right a n sa s p)

-- those with one share an entry
pub share-whole : (a n : Entry) → Sound a → Sound n → none (common a.words n.words) ≡ false → unless_empty (inter a n) ≡ inter a n ∷ []
unfolding unless_empty
share-whole a n sa s p = rw (none-common a n sa s ∙ p)

-- ---- a newcomer with the words of an entry adds its parents to it

-- the entry with the parents of both
abbrev with_parents : Entry → Entry → Entry
with_parents a n = record { kind = a.kind; words = a.words; parents = bit_or a.parents n.parents }

-- what a read past the end gives
abbrev pub zeros : Entry
zeros = record { kind = MakeList; words = record { a = 0; b = 0; c = 0; d = 0 }; parents = 0 }

-- no entries
abbrev pub no_entries : List Entry
no_entries = replicate 201 zeros

-- a place of the list is that of an entry with these words, and the first entry has words
pub record PlaceOf (l : Entries) (words : Row) (r : ℕ) : Type 0 where
  pub within : r < l.count
  pub same : (get_or l.items r zeros).words ≡ words
  pub first : stands (get_or l.items 0 zeros) ≡ true

pub standing-is : (e : Entry) → (length (unless_empty e) ≡ 0 → ⊥) → stands e ≡ true
unfolding unless_empty
standing-is e h = by (stands e) (λ p. p) (λ p. absurd (h (rw p)))

less-self : (a : ℕ) → bit_xor a (bit_and a a) ≡ 0
less-self a = rw (and_self a) (xor_self a)

inter-same : (a n : Entry) → Sound a → Sound n → a.words ≡ n.words → inter a n ≡ with_parents a n
unfolding common
inter-same a n sa s e =
    inter-is a n sa s
    ∙ rw (sym e) (ap (λ (r : Row). record { kind = a.kind; words = r; parents = bit_or a.parents n.parents }) (same a.words))
  where
    same : (x : Row) → record { a = bit_and x.a x.a; b = bit_and x.b x.b; c = bit_and x.c x.c; d = bit_and x.d x.d } ≡ x
    same x = rw (and_self x.a, and_self x.b, and_self x.c, and_self x.d)

diff-same : (a n : Entry) → Sound a → Sound n → a.words ≡ n.words → none (diff a n).words ≡ true
unfolding without none
diff-same a n sa s e =
    ap (λ (x : Entry). none x.words) (diff_is a n sa s)
    ∙ rw (sym e, less-self a.words.a, less-self a.words.b, less-self a.words.c, less-self a.words.d)

standing-left : (e : Entry) → stands e ≡ true → unless_empty e ≡ e ∷ []
unfolding unless_empty
standing-left e p = rw p

-- words that no entry has, the newcomer has not
covered : (l : List Entry) (i : ℕ) (d n : Entry) (w : ℕ) → i < length l → (get_or l i d).words ≡ n.words → covers l w ≡ false → has n.words w ≡ false
covered [] i d n w h e c = absurd (native.Mathlib.Nat.not-suc-le-zero h)
covered (a ∷ l) zero d n w h e c = ap (λ (r : Row). has r w) (sym e) ∙ (neither (has a.words w) (covers l w) c).0
covered (a ∷ l) (suc i) d n w h e c = covered l i d n w (le_of_suc-le-suc h) e (neither (has a.words w) (covers l w) c).1

-- the entry at i has the newcomer's words
pub merge-same : (l : List Entry) (i : ℕ) (d n : Entry) → Apart l → Full l → Sound n → i < length l → (get_or l i d).words ≡ n.words
    → merge l n ≡ set l i (inter (get_or l i d) n)
unfolding merge
merge-same [] i d n f u s h e = absurd (native.Mathlib.Nat.not-suc-le-zero h)
merge-same (a ∷ l) zero d n (cons sa q f) u s h e =
    let p : stands a ≡ true = and_left (stands a) (all stands l) u in
    let x : unless_empty (diff a n) ≡ [] = nothing_left (diff a n) (diff-same a n sa s e) in
    let y : unless_empty (inter a n) ≡ inter a n ∷ [] = standing-left (inter a n) (ap stands (inter-same a n sa s e) ∙ p) in
    let z : merge l (diff n a) ≡ l = merge-empty l (diff n a) f (and_right (stands a) (all stands l) u) (sound-diff n a s sa) (diff-same n a s sa (sym e)) in
    rw (x, y, z)
merge-same (a ∷ l) (suc i) d n (cons sa q f) u s h e =
    let p : stands a ≡ true = and_left (stands a) (all stands l) u in
    let t : none (inter a n).words ≡ true =
    none-by (inter a n).words (sound-inter a n sa s).small
    (λ w.
    has-inter a n sa s w
    ∙ by (has a.words w)
    (λ b. rw b (covered l i d n w (le_of_suc-le-suc h) e (q w b)))
    (λ b. rw b)) in
    let z = share-nothing a n sa s (sym (none-common a n sa s) ∙ t) in
    rw (z.1, z.2, z.0, standing-left a p)
    (ap (λ k. a ∷ k) (merge-same l i d n f (and_right (stands a) (all stands l) u) s (le_of_suc-le-suc h) e))

-- ---- no more entries than words

apart-many : (l : List Entry) → Apart l → Full l → length l ≤ many (covers l) 200
apart-many [] f u = omega arith
apart-many (e ∷ l) (cons s h f) u =
    let p : none e.words ≡ false = borrow.Author.Tests.not-true (none e.words) (and_left (stands e) (all stands l) u) in
    let t = some-there e.words s.small p in
    omega (
      arith,
      apart-many l f (and_right (stands e) (all stands l) u),
      many-or (has e.words) (covers l) 200 h,
      many-some (has e.words) 200 t.at (s.words t.at t.there) t.there,
    )

pub apart-length : (l : List Entry) → Apart l → Full l → length l ≤ 200
apart-length l f u = omega (arith, apart-many l f u, many-most (covers l) 200)

pub merge-length : (l : List Entry) (n : Entry) → Apart l → Sound n → length (merge l n) ≤ 200
merge-length l n f s = apart-length (merge l n) (merge-apart l n f s) (merge-full l n)
