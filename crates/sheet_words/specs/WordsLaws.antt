-- Laws of what is found word by word.
use mathlib.Core.Bool.{Bool, true, false, ◌&&◌, ◌||◌, not, cond, and-true, or-false}
use Rattle.std.specs.Prelude.{List, [], ◌∷◌, ◌++◌, ◌≡◌, refl, ℕ, zero, suc, ◌≤◌, ◌<◌, leb, length, drop}
use Rattle.std.proofs.Common.{sym, ap, ◌∙◌, arith}
use Rattle.std.proofs.Math.Path.{ap₂}
use borrow.Author.Tests.{eq-eqb, ne_eqb, eqb-true, eqb-false}
use Rattle.std.proofs.Math.Dec.{eqb}
use Rattle.lists.specs.Lists.{all, any, ascends, same_list, place_of}
use Rattle.lists.specs.Tests.{by}
use Rattle.lists.specs.Appending.{all_append, any_append}
use Rattle.lists.specs.Places.{place-lt, place_none, place-le}
use Rattle.definitions.specs.Bits.{pack_to}
use Rattle.definitions.specs.Checks.{resource_bytes, self_bytes, bad_words}
use Rattle.definitions.specs.Comparisons.{bytes_before}
use Rattle.definitions.specs.Map.{number_of}
use Rattle.definitions.specs.Reading.{is_first_byte}
use Rattle.definitions.specs.Parse as parse
use Rattle.definitions.specs.Parse.{Parsed, done, refused, next, pure, allowed, repeat_onto}
use Rattle.sheet_words.specs.Words.{bits_in, bytes_of, With, Telling, telling_of, told}
use Rattle.sheet_words.specs.declared.spelt.Spelt.{Spelt}
use Rattle.sheet_words.specs.declared.Found.{Found}

-- ---- one word more

-- the last of a list, or d
abbrev pub last_or : {A : Type 0} → A → List A → A
last_or d [] = d
last_or d (x ∷ l) = last_or x l

pub last_more : {A : Type 0} (d : A) (l : List A) (w : A) → last_or d (l ++ (w ∷ [])) ≡ w
last_more d [] w = refl
last_more d (x ∷ l) w = last_more x l w

ascends-more : {A : Type 0} (f : A → A → Bool) (d : A) (l : List A) (w : A) → f d w ≡ true → ascends f (l ++ (w ∷ [])) ≡ (ascends f l && f (last_or d l) w)
ascends-more f d [] w e = sym e
ascends-more f d (x ∷ []) w e = and-true (f x w)
ascends-more f d (x ∷ y ∷ l) w e =
    ap (λ (b : Bool). f x y && b) (ascends-more f d (y ∷ l) w e) ∙ assoc (f x y) (ascends f (y ∷ l)) (f (last_or y l) w)
  where
    assoc : (p q r : Bool) → (p && (q && r)) ≡ ((p && q) && r)
    assoc true q r = refl
    assoc false q r = refl

-- the place of the first, or n where there is none
abbrev pub placed : {A : Type 0} → (A → Bool) → ℕ → List A → ℕ
placed f n l = cond (any f l) (place_of f l) n

place-more : {A : Type 0} (f : A → Bool) (l : List A) (w : A) → place_of f (l ++ (w ∷ [])) ≡ cond (any f l) (place_of f l) (cond (f w) (length l) (suc (length l)))
place-more f [] w = refl
place-more f (x ∷ l) w =
    by (f x)
    (λ e. rw e refl)
    (λ e. rw e (ap suc (place-more f l w) ∙ by (any f l) (λ a. rw a refl) (λ a. rw a (by (f w) (λ h. rw h refl) (λ h. rw h refl)))))

placed-more : {A : Type 0} (f : A → Bool) (n : ℕ) (l : List A) (w : A) → length l < n →
    placed f n (l ++ (w ∷ [])) ≡ cond (f w && eqb (placed f n l) n) (length l) (placed f n l)
placed-more f n l w h =
    rw (any_append f l (w ∷ []), or-false, place-more f l w)
    (by (any f l)
    (λ a. let p : place_of f l < length l = place-lt f l a in
    rw (a, ne_eqb (place_of f l) n (λ q. omega arith), mathlib.Core.Bool.and-false (f w)) refl)
    (λ a. rw (a, eq-eqb n n refl) (by (f w) (λ e. rw e refl) (λ e. rw e refl))))

placed-all : {A : Type 0} (f : A → Bool) (n : ℕ) (l : List A) → length l ≡ n → placed f n l ≡ place_of f l
placed-all f n l e =
    by (any f l)
    (λ a. rw a refl)
    (λ a. let z : leb (length l) (place_of f l) ≡ true = sym (place_none f l) ∙ ap not a in
    rw a (omega (arith, borrow.Author.Tests.leb-true (length l) (place_of f l) z, place-le f l)))

-- ---- what was found of the words so far

pub record Seen (n : ℕ) (ws : List (List ℕ)) (v : Spelt) (t : Found) : Type 0 where
  pub rising : t.up ≡ ascends bytes_before ws
  pub plain : t.plain ≡ all (all is_first_byte) ws
  pub before : bytes_of v ≡ last_or [] ws
  pub class : t.resource ≡ placed (same_list eqb resource_bytes) n ws
  pub self : t.own ≡ placed (same_list eqb self_bytes) n ws

-- a word is not empty
some_bytes : (k : ℕ) (bs : List Bool) → 0 < k → bytes_before [] (pack_to k bs) ≡ true
unfolding bytes_before pack_to
some_bytes zero bs h = absurd (omega arith)
some_bytes (suc k) bs h = refl

pub seen_none : (n : ℕ) (v : Spelt) → bytes_of v ≡ [] → Seen n [] v (record { up = true; plain = true; resource = n; own = n })
seen_none n v e = record {
  rising = refl;
  plain = refl;
  before = e;
  class = refl;
  self = refl;
}

pub seen_more : (n i : ℕ) (ws : List (List ℕ)) (v w : Spelt) (t r : Found) → Seen n ws v t → 0 < w.count → length ws ≡ i → i < n →
    With t v w i n r → Seen n (ws ++ (bytes_of w ∷ [])) w r
seen_more n i ws v w t r s some e l g = record {
  rising =
      g.rising
      ∙ ap₂ (λ (a : Bool) (b : List ℕ). a && bytes_before b (bytes_of w)) s.rising s.before
      ∙ sym (ascends-more bytes_before [] ws (bytes_of w) (some_bytes w.count (drop w.at (bits_in w.source)) some));
  plain =
      g.plain
      ∙ ap₂ ◌&&◌ s.plain (w.held.kind ∙ sym (and-true (all is_first_byte (bytes_of w))))
      ∙ sym (all_append (all is_first_byte) ws (bytes_of w ∷ []));
  before = sym (last_more [] ws (bytes_of w));
  class =
      g.class
      ∙ ap₂ (λ (a b : ℕ). cond (same_list eqb resource_bytes (bytes_of w) && eqb a n) b a) s.class (sym e)
      ∙ sym (placed-more (same_list eqb resource_bytes) n ws (bytes_of w) (omega arith));
  self =
      g.self
      ∙ ap₂ (λ (a b : ℕ). cond (same_list eqb self_bytes (bytes_of w) && eqb a n) b a) s.self (sym e)
      ∙ sym (placed-more (same_list eqb self_bytes) n ws (bytes_of w) (omega arith));
}

-- ---- at the end

module _ (n : ℕ) (ws : List (List ℕ)) (v : Spelt) (t : Found) (s : Seen n ws v t) (e : length ws ≡ n) where
  pub class-is : t.resource ≡ number_of resource_bytes ws
  unfolding number_of
  class-is = s.class ∙ placed-all (same_list eqb resource_bytes) n ws e

  pub self-is : t.own ≡ number_of self_bytes ws
  unfolding number_of
  self-is = s.self ∙ placed-all (same_list eqb self_bytes) n ws e

  missing : (f : List ℕ → Bool) (k : ℕ) → k ≡ place_of f ws → leb n k ≡ not (any f ws)
  missing f k q = ap₂ leb (sym e) q ∙ sym (place_none f ws)

  pub bad-is : (not t.up || (leb n t.resource || leb n t.own)) ≡ bad_words ws
  unfolding bad_words number_of
  bad-is =
      ap₂ (λ (x y : Bool). not x || y) s.rising
      (ap₂ ◌||◌ (missing (same_list eqb resource_bytes) t.resource class-is) (missing (same_list eqb self_bytes) t.own self-is))

  pub class-few : n ≤ 200 → t.resource < 256
  unfolding number_of
  class-few h = omega (arith, class-is, place-le (same_list eqb resource_bytes) ws)

  pub self-few : n ≤ 200 → t.own < 256
  unfolding number_of
  self-few h = omega (arith, self-is, place-le (same_list eqb self_bytes) ws)

  pub end-told : (x : Parsed (List (List ℕ))) (rest : List Bool) (bad : Bool) → x ≡ done ws rest → bad ≡ (not t.up || (leb n t.resource || leb n t.own)) →
      done (record { count = n; bad = bad; resource = t.resource; own = t.own }) rest ≡ told x
  end-told x rest bad f g =
      let q : telling_of ws ≡ record { count = n; bad = bad; resource = t.resource; own = t.own } = rw (← class-is, ← self-is, ← bad-is, ← g, e) refl in
      rw (f, q) refl

-- ---- what the equation of the words says

pub words-refused : (x : Parsed (List (List ℕ))) (r : parse.Fault) → told x ≡ refused r → x ≡ refused r
words-refused (done ws rest) r e = let z : ◌≡◌ {A = ℕ} 0 1 = cc in absurd (omega arith)
words-refused (refused q) r e = let z : q ≡ r = cc in rw z

pub words-done : (x : Parsed (List (List ℕ))) (t : Telling) (rest : List Bool) → told x ≡ done t rest → (ws : List (List ℕ)) × (x ≡ done ws rest) × (t ≡ telling_of ws)
words-done (done ws left) t rest e = (ws, cc, cc)
words-done (refused q) t rest e = let z : ◌≡◌ {A = ℕ} 0 1 = cc in absurd (omega arith)
