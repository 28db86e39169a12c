-- A trail that another goes on from: what is added has no name that was seen. So the result of a call that was told stays
-- until the trail ends.
use Rattle.std.specs.Prelude.{true, false, ◌||◌, List, [], ◌∷◌, ◌++◌, ◌≡◌, refl}
use Rattle.std.proofs.Common.{append-nil, append_assoc, sym, ap, ◌∙◌, subst}
use Rattle.lists.specs.Tests.{by, never, or_left, or-false-left, or-false-right}
use Rattle.lists.specs.Appending.{any_append}
use Rattle.definitions.specs.Records.{Name}
use Rattle.definitions.specs.Comparisons.{same_name}
use Rattle.definitions.specs.Map.{TypeMap}
use Rattle.law_orders.specs.Comparisons.{same-name}
use Rattle.law_visit.specs.Trail.{Reached, seen_in, Told, Played, succeeded, play, play_all, nothing_played}

pub seen-append : (a b : List Reached) (n : Name) → seen_in (a ++ b) n ≡ (seen_in a n || seen_in b n)
seen-append a b n = any_append (λ (x : Reached). same_name n x.type.name) a b

-- ---- the trail goes on

pub record Extends (l k : List Reached) : Type 0 where
  pub rest : List Reached
  pub whole : k ≡ l ++ rest
  pub new : (n : Name) → seen_in l n ≡ true → seen_in rest n ≡ false

pub no-further : (l : List Reached) → Extends l l
no-further l = record { rest = []; whole = sym (append-nil l); new = λ n e. refl }

-- what was seen stays seen
pub still_seen : {l k : List Reached} → Extends l k → (n : Name) → seen_in l n ≡ true → seen_in k n ≡ true
still_seen {l} {k} x n e = subst (λ j. seen_in j n ≡ true) (sym x.whole) (seen-append l x.rest n ∙ or_left (seen_in x.rest n) e)

pub further : {l k j : List Reached} → Extends l k → Extends k j → Extends l j
further {l} {k} {j} x y =
    record {
      rest = x.rest ++ y.rest;
      whole = y.whole ∙ ap (λ (a : List Reached). a ++ y.rest) x.whole ∙ append_assoc l x.rest y.rest;
      new = λ n e. seen-append x.rest y.rest n ∙ rw (x.new n e) (y.new n (still_seen x n e));
    }

-- one type more, that was not seen where the trail began
pub one_more : {l k : List Reached} → Extends l k → (x : Reached) → seen_in l x.type.name ≡ false → Extends l (k ++ (x ∷ []))
one_more {l} {k} e x h =
    record {
      rest = e.rest ++ (x ∷ []);
      whole = ap (λ (a : List Reached). a ++ (x ∷ [])) e.whole ∙ append_assoc l e.rest (x ∷ []);
      new = λ n s.
          seen-append e.rest (x ∷ []) n
          ∙ rw (e.new n s)
          (by (same_name n x.type.name)
          (λ q. never s (ap (seen_in l) (same-name n x.type.name q) ∙ h))
          (λ q. rw q));
    }

-- ---- what was told

pub play-append : (m : TypeMap) (d : Played) (a b : List Reached) → play_all m d (a ++ b) ≡ play_all m (play_all m d a) b
unfolding play_all
play-append m d [] b = refl
play-append m d (x ∷ a) b = play-append m (play m d x) a b

-- the calls that a trail tells of
abbrev pub told_by : TypeMap → List Reached → List Told
told_by m l = (play_all m nothing_played l).told

other-told : (m : TypeMap) (d : Played) (x : Reached) (n : Name) → same_name n x.type.name ≡ false → succeeded (play m d x).told n ≡ succeeded d.told n
unfolding play
other-told m d x n e = rw e

rest-told : (m : TypeMap) (d : Played) (l : List Reached) (n : Name) → seen_in l n ≡ false → succeeded (play_all m d l).told n ≡ succeeded d.told n
unfolding play_all
rest-told m d [] n e = refl
rest-told m d (x ∷ l) n e =
    rest-told m (play m d x) l n (or-false-right (same_name n x.type.name) (seen_in l n) e)
    ∙ other-told m d x n (or-false-left (same_name n x.type.name) (seen_in l n) e)

pub told-stays : (m : TypeMap) {l k : List Reached} → Extends l k → (n : Name) → seen_in l n ≡ true → succeeded (told_by m k) n ≡ succeeded (told_by m l) n
told-stays m {l} {k} x n e =
    ap (λ (a : List Reached). succeeded (told_by m a) n) x.whole
    ∙ ap (λ (d : Played). succeeded d.told n) (play-append m nothing_played l x.rest)
    ∙ rest-told m (play_all m nothing_played l) x.rest n (x.new n e)
