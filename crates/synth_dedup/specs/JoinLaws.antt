-- What the functions ensure, from the entries that they hand back.
use Rattle.std.specs.Prelude.{true, List, [], ◌∷◌, map, ◌≡◌, refl, ℕ, ◌+◌, ◌<◌, ◌≤◌}
use Rattle.std.proofs.Common.{sym, ◌∙◌, add-one, arith}
use Rattle.std.proofs.Math.Path.{ap}
use Rattle.std.specs.Int.Bits.{or_zero_r}
use lib.ListN.{length, take, drop, get_or, set, drop_of_length-le}
use lib.Seq.{drop-cons, get_or-take, take-set-lt, length-take-le}
use Rattle.lists.specs.Tests.{by, neither}
use Rattle.bounded.specs.Items.{items_of, length-items_of}
use Rattle.rows.specs.declared.Row.{Row}
use Rattle.rows.specs.Rows.{either, empty}
use Rattle.definitions.specs.Inherited.{dedup_onto}
use Rattle.synth_dedup.specs.declared.Entry.{Entry}
use Rattle.synth_dedup.specs.declared.inherited.Inherited.{Inherited}
use Rattle.synth_dedup.specs.Entries.{Entries, inter, merge, join, join_all, entries_of, stands, Sound, covers, Apart, nil, Full}
use Rattle.synth_dedup.specs.EntryLaws.{join_apart, apart-at, zeros, PlaceOf, merge-same}
use Rattle.synth_dedup.specs.Reading.{read_all, table_of, inherited_of, joined, Clean, Kept, Good, Joins, JoinsAll, Nothing, Unites, no_doms, under_place}
use Rattle.synth_dedup.specs.ReadingLaws.{join_is, join-full, join-all-is, join-all-covers, same_tables, covers-under, apart-under, sound-under, read_under}

pub joins-by : (l r : Entries) (n : Entry) → Kept l → Sound n → entries_of r ≡ join (entries_of l) n → r.count ≤ 200 → Joins l n r
joins-by l r n k s e b =
    record {
      kept = record { room = b; apart = rw e (join_apart (entries_of l) n k.apart s); full = rw e (join-full (entries_of l) n) };
      joins = e;
      dedup = λ ws names asc D G c. rw e (join_is ws names asc D G (entries_of l) n k.apart k.full s c);
    }

pub join-none : (l : Entries) (n : Entry) → l.count ≡ 0 → join (entries_of l) n ≡ n ∷ []
unfolding join entries_of
join-none l n e = rw e

join-some : (l : List Entry) (n : Entry) → (length l ≡ 0 → ⊥) → join l n ≡ merge l n
unfolding join
join-some [] n h = absurd (h refl)
join-some (a ∷ l) n h = refl

pub join-merged : (l : Entries) (n : Entry) → (l.count ≡ 0 → ⊥) → join (entries_of l) n ≡ merge (entries_of l) n
unfolding entries_of
join-merged l n h = join-some (items_of l) n (λ e. h (sym (length-items_of l) ∙ e))

full_by : (l : List Entry) (i : ℕ) → i < length l → stands (get_or l 0 zeros) ≡ true → Full (drop 1 l) → Full l
full_by [] i h p u = refl
full_by (a ∷ l) i h p u = rw p u

join-under : (l r : Entries) (n : Entry) (i : ℕ) → Kept l → Sound n → PlaceOf l n.words i → items_of r ≡ set (items_of l) i (inter (get_or l.items i zeros) n)
    → entries_of r ≡ join (entries_of l) n
unfolding entries_of
join-under l r n i k s p e =
    let h = p.within in
    let t = length-items_of l in
    let g : get_or (take l.count l.items) i zeros ≡ get_or l.items i zeros = get_or-take l.count l.items i zeros h in
    let f : get_or (take l.count l.items) 0 zeros ≡ get_or l.items 0 zeros = get_or-take l.count l.items 0 zeros (omega arith) in
    e
    ∙ ap (λ (x : Entry). set (take l.count l.items) i (inter x n)) (sym g)
    ∙ sym
    (join-some (take l.count l.items) n (λ q. absurd (omega arith))
    ∙ merge-same (take l.count l.items) i zeros n k.apart
    (full_by (take l.count l.items) i (omega arith) (ap stands f ∙ p.first) k.full) s (omega arith) (ap (λ (x : Entry). x.words) g ∙ p.same))

pub joins-shared : (l r : Entries) (n : Entry) (i : ℕ) → Kept l → Sound n → PlaceOf l n.words i
    → items_of r ≡ set (items_of l) i (inter (get_or l.items i zeros) n) → r.count ≡ l.count → Joins l n r
joins-shared l r n i k s p e c = joins-by l r n k s (join-under l r n i k s p e) (omega (arith, c, k.room))

-- ---- one entry of a parent more

pub sound-at : (l : List Entry) (i p : ℕ) (d : Entry) → Apart l → i < length l → Sound (under_place p (get_or l i d))
sound-at l i p d f h = sound-under p (get_or l i d) (apart-at l i d f h)

pub all-step : (l : List Entry) (i p : ℕ) (d : Entry) (out : List Entry) → i < length l
    → join_all out (map (under_place p) (drop i l)) ≡ join_all (join out (under_place p (get_or l i d))) (map (under_place p) (drop (i + 1) l))
unfolding join_all
all-step l i p d out h = rw (drop-cons l i d h, add-one) refl

pub all_done : (l : List Entry) (i p : ℕ) (out : List Entry) → length l ≤ i → join_all out (map (under_place p) (drop i l)) ≡ out
unfolding join_all
all_done l i p out h = rw (drop_of_length-le l h) refl

-- ---- all of a parent

either-none : (x : Row) → either x empty ≡ x
unfolding either
either-none x = rw (or_zero_r x.a, or_zero_r x.b, or_zero_r x.c, or_zero_r x.d)

module _ (h p : Inherited) (list : Entries) (doms : List Row) (parent : ℕ) (k : Kept list) (e : entries_of list ≡ join_all (entries_of h.list) (map (under_place parent) (entries_of p.list)))
    (u : Unites h.doms p.doms doms) where
  tables : (w : ℕ) → w < 200 → table_of doms w ≡ joined (table_of h.doms) (covers (map (under_place parent) (entries_of p.list))) (table_of p.doms) w
  tables w b =
      u.at w b
      ∙ by (covers (entries_of p.list) w)
      (λ t. rw (covers-under parent (entries_of p.list) w, t))
      (λ t. rw (covers-under parent (entries_of p.list) w, t, p.good.clean w b t) (either-none (table_of h.doms w)))

  cleaned : Clean (table_of doms) (entries_of list)
  cleaned w b t =
      let q = neither (covers (entries_of h.list) w) (covers (map (under_place parent) (entries_of p.list)) w)
      (sym
      (join-all-covers (entries_of h.list) (map (under_place parent) (entries_of p.list)) h.good.kept.apart
      (apart-under parent (entries_of p.list) p.good.kept.apart) w)
      ∙ ap (λ z. covers z w) (sym e) ∙ t) in
      u.at w b ∙ rw (h.good.clean w b q.0, p.good.clean w b (sym (covers-under parent (entries_of p.list) w) ∙ q.1)) (either-none empty)

  pub joins-all-good : list.count ≤ length list.items → Good list doms
  joins-all-good b = record { fits = b; kept = k; clean = cleaned }

  pub joins-all-by : (g : Good list doms) → JoinsAll h p parent (record { list = list; doms = doms; good = g })
  unfolding inherited_of
  joins-all-by g =
      record {
        dedup = λ ws names asc.
            ap (read_all names (table_of doms)) e
            ∙ same_tables names (joined (table_of h.doms) (covers (map (under_place parent) (entries_of p.list))) (table_of p.doms)) (table_of doms)
            (join_all (entries_of h.list) (map (under_place parent) (entries_of p.list))) (λ w b t. tables w b)
            ∙ join-all-is ws names asc (table_of p.doms) (table_of h.doms) (entries_of h.list) (map (under_place parent) (entries_of p.list))
            h.good.kept.apart h.good.kept.full h.good.clean (apart-under parent (entries_of p.list) p.good.kept.apart)
            ∙ ap (dedup_onto ws (read_all names (table_of h.doms) (entries_of h.list))) (read_under names (table_of p.doms) parent (entries_of p.list));
      }

-- ---- nothing

pub nothing-good : (list : Entries) (doms : List Row) → list.count ≡ 0 → doms ≡ no_doms → Good list doms
unfolding entries_of no_doms
nothing-good list doms e d =
    record {
      fits = omega (arith, e);
      kept = record { room = omega arith; apart = rw e nil; full = rw e refl };
      clean = λ w l c. ap (λ z. get_or z w empty) d ∙ lib.ListN.get_or-replicate 200 w empty empty l;
    }

pub nothing-by : (r : Inherited) → r.list.count ≡ 0 → Nothing r
unfolding inherited_of entries_of
nothing-by r e = record { none = λ names. rw e refl }

-- ---- one dom set more

abbrev pub Upto : List Row → List Row → List Row → ℕ → Type 0
Upto D G E j = (w : ℕ) → w < j → table_of E w ≡ either (table_of D w) (table_of G w)

pub upto_step : (D G E : List Row) (j : ℕ) → j < length E → Upto D G E j → Upto D G (lib.ListN.set E j (either (table_of D j) (table_of G j))) (j + 1)
upto_step D G E j h u w b =
    by (lib.Dec.eqb w j)
    (λ q.
    let z : w ≡ j = borrow.Author.Tests.eqb-true w j q in
    rw z (lib.Seq.get_or-set_same E j (either (table_of D j) (table_of G j)) empty h))
    (λ q.
    let z = borrow.Author.Tests.eqb-false w j q in
    lib.Seq.get_or-set_other E j w (either (table_of D j) (table_of G j)) empty z ∙ u w (omega (arith, z)))
