-- What was kept and fetched, read as what the type inherits.
use Rattle.std.specs.Prelude.{List, [], ◌∷◌, ◌++◌, map, ◌≡◌, refl, ℕ, ◌+◌, ◌<◌, ◌≤◌, drop}
use Rattle.std.proofs.Math.Path.{sym, ap}
use Rattle.std.proofs.Common.{ap₂, ◌∙◌, add-one, arith}
use Rattle.std.proofs.Math.ListN.{get_or, set, take, length, length-set}
use Rattle.std.proofs.lemmas.List.{length-map}
use Rattle.std.proofs.Math.Seq.{get_or-set_same, get_or-set_other, length-take-le, take-suc}
use lib.Seq.{take_all}
use Rattle.lists.specs.Lists.{all}
use Rattle.lists.specs.Appending.{all_map, map-append, map-map}
use Rattle.rows.specs.declared.Row.{Row}
use Rattle.rows.specs.Rows.{empty}
use Rattle.definitions.specs.Records.{Name}
use Rattle.bounded.specs.declared.UpTo.{UpTo}
use Rattle.bounded.specs.Items.{items_of, length-items_of}
use Rattle.sheet_records.specs.declared.Kind.{Kind}
use Rattle.synth_dedup.specs.declared.Entry.{Entry}
use Rattle.synth_dedup.specs.declared.inherited.Inherited.{Inherited}
use Rattle.synth_dedup.specs.Entries.{Entries, Sound, Apart, stands, covers, entries_of, nil, cons}
use Rattle.synth_dedup.specs.Reading.{no_doms, names_at, table_of, inherited_of, Good, read_all, under', under_place}
use Rattle.synth_dedup.specs.ReadingLaws.{same_tables, covers-under, apart-under, read_under}
use Rattle.synth_store.specs.Saving.{entry_of, entries_in, Fit}
use Rattle.synth_store.specs.Store.{nothing, words_of, Holds, Stores, Fetched}
use Rattle.synth_store.specs.declared.Saved.{Saved}

-- that nothing is inherited, can be kept
pub nothing-fit : (rs : UpTo Row 200) (ds : List Row) → items_of rs ≡ [] → ds ≡ no_doms → Fit rs ds
unfolding no_doms
nothing-fit rs ds n e =
    record {
      apart = rw n nil;
      full = rw n refl;
      clean = λ w l c. ap (λ z. get_or z w empty) e ∙ lib.ListN.get_or-replicate 200 w empty empty l;
    }

-- ---- loops

-- one more of the first i, and all of them
pub mapped-more : {A B : Type 0} (f : A → B) (l : List A) (i : ℕ) (d : A) → i < length l → map f (take i l) ++ (f (get_or l i d) ∷ []) ≡ map f (take (i + 1) l)
mapped-more f l i d h = sym (map-append f (take i l) (get_or l i d ∷ [])) ∙ ap (map f) (sym (rw (add-one, take-suc l i d h)))

pub mapped-all : {A B : Type 0} (f : A → B) (l k : List A) (i : ℕ) → length l ≤ i → l ≡ k → map f (take i l) ≡ map f k
mapped-all f l k i h e = ap (map f) (take_all i l h ∙ e)

pub fetched-count : (l : Entries) (rs : List Row) (i : ℕ) → entries_of l ≡ map entry_of (take i rs) → i ≤ length rs → l.count ≡ i
unfolding entries_of
fetched-count l rs i e h = sym (length-items_of l) ∙ ap length e ∙ length-map (take i rs) entry_of ∙ length-take-le i rs h

-- ---- one type's

pub stores-by : (s : List Saved) (t : ℕ) (h : Inherited) (x : Saved) → t < length s → Holds x h → Stores s t h (set s t x)
stores-by s t h x l k =
    record {
      holds = rw (get_or-set_same s t x nothing l) k;
      others = λ u n. get_or-set_other s t u x nothing n;
      long = length-set s t x;
    }

-- ---- what is kept, and what is fetched

-- what is inherited is an Associate
under-associate : (e : Entry) → Sound e → entry_of e.words ≡ under_place 0 e
under-associate e s = ap (λ (k : Kind). record { kind = k; words = e.words; parents = 0 }) (sym s.kind)

under-all : (l : List Entry) → Apart l → map entry_of (map (λ (e : Entry). e.words) l) ≡ map (under_place 0) l
under-all [] f = refl
under-all (e ∷ l) (cons s h f) = ap₂ (λ (x : Entry) (k : List Entry). x ∷ k) (under-associate e s) (under-all l f)

full-map : (l : List Entry) → all stands (drop 1 (map (under_place 0) l)) ≡ all stands (drop 1 l)
full-map [] = refl
full-map (e ∷ l) = all_map stands (under_place 0) l

-- rows that are the words of a list are those that the list has under no parents
module _ (h : Inherited) (rs : UpTo Row 200) (w : items_of rs ≡ words_of h.list) where
  pub entries-under : entries_in rs ≡ map (under_place 0) (entries_of h.list)
  entries-under = ap (map entry_of) w ∙ under-all (entries_of h.list) h.good.kept.apart

  pub saved-fit : Fit rs h.doms
  saved-fit =
      let e = entries-under in
      record {
        apart = rw e (apart-under 0 (entries_of h.list) h.good.kept.apart);
        full = ap (λ (l : List Entry). all stands (drop 1 l)) e ∙ full-map (entries_of h.list) ∙ h.good.kept.full;
        clean = λ w l c. h.good.clean w l (sym (ap (λ z. covers z w) e ∙ covers-under 0 (entries_of h.list) w) ∙ c);
      }

-- how many are kept
pub held-count : (s : Saved) (h : Inherited) → Holds s h → s.words.count ≡ h.list.count
unfolding entries_of
held-count s h p =
    sym (length-items_of s.words) ∙ ap length p.entries ∙ length-map (items_of h.list) (λ (e : Entry). e.words) ∙ length-items_of h.list

-- entries with these words are those that can be inherited
pub fetched-good : (l : Entries) (rs : UpTo Row 200) (ds : List Row) → Fit rs ds → entries_of l ≡ entries_in rs → Good l ds
unfolding entries_of
fetched-good l rs ds f e =
    let n : l.count ≡ rs.count =
    sym (length-items_of l) ∙ ap length e ∙ length-map (items_of rs) entry_of ∙ length-items_of rs in
    record {
      fits = omega (arith, l.few, l.long);
      kept = record { room = omega (arith, n, rs.few); apart = rw e f.apart; full = rw e f.full };
      clean = rw e f.clean;
    }

-- ---- what was fetched reads as what stands there, but for the parents

module _ (s : Saved) (h r : Inherited) (p : Holds s h) (q : Fetched s r) where
  same_entries : entries_of r.list ≡ map (under_place 0) (entries_of h.list)
  same_entries = q.entries ∙ entries-under h s.words p.entries

  same-doms : (w : ℕ) → w < 200 → table_of r.doms w ≡ table_of h.doms w
  same-doms w l = sym (q.doms w l) ∙ p.doms w l

  -- handed on under other names they read alike
  pub held-read : (names ps : List Name) → map (under' ps) (inherited_of names r) ≡ map (under' ps) (inherited_of names h)
  unfolding inherited_of
  held-read names ps =
      let l = entries_of h.list in
      ap (map (under' ps)) (ap (read_all names (table_of r.doms)) same_entries ∙ read_under names (table_of r.doms) 0 l)
      ∙ map-map (under' ps) (under' (names_at names 0)) (read_all names (table_of r.doms) l)
      ∙ ap (map (under' ps)) (same_tables names (table_of h.doms) (table_of r.doms) l (λ w k e. same-doms w k))
