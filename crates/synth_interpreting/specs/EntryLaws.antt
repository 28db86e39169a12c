-- The words of an annotation, one after the other.
use Rattle.std.specs.Prelude.{Bool, true, ◌||◌, not, cond, List, [], ◌∷◌, ◌++◌, map, ◌≡◌, refl, ℕ, ◌+◌, ◌≤◌, ◌<◌, length}
use Rattle.std.proofs.Math.Bool.{false, or-false}
use Rattle.std.proofs.Common.{sym, ◌∙◌, arith}
use Rattle.std.proofs.Math.Path.{ap}
use Rattle.lists.specs.Lists.{null, filter, first_of}
use Rattle.lists.specs.Tests.{by}
use Rattle.rows.specs.declared.Row.{Row}
use Rattle.rows.specs.Rows.{has}
use Rattle.rows.specs.Lists.{below}
use Rattle.definitions.specs.Records.{Name, Item, Sheet}
use Rattle.definitions.specs.Map.{LineType, LineMap}
use Rattle.definitions.specs.Synthesis.{judge, is_duplicate, Interpreted, interpreted, behind_rows, interpret_words}
use Rattle.definitions.specs.Packing.{row_bytes}
use Rattle.synth_dedup.specs.declared.Entry.{Entry}
use Rattle.synth_dedup.specs.Reading.{resources_at, table_of}
use Rattle.synth_dedup.specs.ReadingLaws.{at}
use Rattle.law_lines.specs.Statements.{line_map}
use Rattle.law_classes.specs.Sets.{type_at}
use Rattle.catalogue.specs.declared.Catalogue.{Catalogue}
use Rattle.synth_classes.specs.Made.{classes_of, names_in, firsts_of, created}
use Rattle.synth_classes.specs.Known.{Known}
use Rattle.emitting.specs.declared.Writer.{Writer}
use Rattle.emitting.specs.Writing.{state, SameSlice, same_self, same_then}
use Rattle.synth_interpretation.specs.Emit.{emit}
use Rattle.synth_interpretation.specs.Judged.{is_unknown, is_other}
use Rattle.synth_associates.specs.Step.{Reached, begun, rows_in, fails_in, items_held, verdict_of, SteppedIn, Stepped}
use Rattle.synth_associates.specs.StepLaws.{no_rows}
use Rattle.synth_associates.specs.Words.{from, words_step}
use Rattle.emitting.specs.Emitting.{emit-append}
use Rattle.synth_interpreting.specs.Words.{many_below}
use Rattle.synth_interpreting.specs.Entry.{interpret_entry, size, EntryDoneIn, EntryDone}

-- ---- a verdict fails where it adds a row, or where the annotation had failed

judge-rows : (D : LineType) (r : ℕ) (L : List Rattle.definitions.specs.Records.Row) (f : Bool) (xs ns : List Name) (twice : Bool) →
    (fails_in (judge f xs ns twice) || not (null L)) ≡ (f || not (null (rows_in D r (judge f xs ns twice) ++ L)))
judge-rows D r L true (x ∷ xs) ns twice = refl
judge-rows D r L false (x ∷ xs) ns twice = refl
judge-rows D r L true [] ns twice = refl
judge-rows D r L false [] (c ∷ ns) twice = refl
judge-rows D r L false [] [] true = refl
judge-rows D r L false [] [] false = refl

verdict-rows : (t : LineMap) (T r : ℕ) (doms : Row) (ps : ℕ) (f : Bool) (is : List Item) (L : List Rattle.definitions.specs.Records.Row) →
    (fails_in (verdict_of t T r doms ps f is) || not (null L)) ≡ (f || not (null (rows_in (type_at t T) r (verdict_of t T r doms ps f is) ++ L)))
unfolding verdict_of
verdict-rows t T r doms ps f is L =
    judge-rows (type_at t T) r L f (filter (is_unknown t) (classes_of doms r)) (first_of (is_other t) (classes_of doms r))
    (is_duplicate t (type_at t T) r (created t T r doms ps) is)

-- ---- what is left of an annotation

-- these words, and nothing once it ended
unfoldable pub left_of : LineMap → ℕ → Entry → List Row → List ℕ → Reached → Interpreted
left_of t T e doms ws p =
    cond p.ended
    (interpreted [] (items_held t T p.made))
    (interpret_words t (type_at t T) (names_in t e.parents) (map (at (table_of doms)) ws) p.failed (items_held t T p.made))

-- p stands before the words ws, with what is left the same comes of it
pub record Onward (t : LineMap) (T : ℕ) (e : Entry) (doms : List Row) (s : Reached) (w : Writer) (ws : List ℕ) (p : Reached) (w' : Writer) : Type 0 where
  pub rows : emit w.limit (state w') (left_of t T e doms ws p).rows ≡ emit w.limit (state w) (interpret_entry t T e doms (items_held t T s.made)).rows
  pub items : (left_of t T e doms ws p).items ≡ (interpret_entry t T e doms (items_held t T s.made)).items
  pub failed : (p.failed || not (null (left_of t T e doms ws p).rows)) ≡ not (null (interpret_entry t T e doms (items_held t T s.made)).rows)

module _ (t : LineMap) (T : ℕ) (e : Entry) (doms : List Row) where
  left-start : (s : Reached) (ws : List ℕ) → ws ≡ below (has e.words) 200 →
      left_of t T e doms ws (begun s.made) ≡ interpret_entry t T e doms (items_held t T s.made)
  unfolding left_of interpret_entry resources_at
  left-start s ws q =
      ap (λ vs. interpret_words t (type_at t T) (names_in t e.parents) (map (at (table_of doms)) vs) false (items_held t T s.made)) q

  left-taken : (r : ℕ) (rest : List ℕ) (p : Reached) (w : Writer) (q : Reached) (w' : Writer) → p.ended ≡ false →
      SteppedIn t T r (table_of doms r) e.parents p w q w' →
      left_of t T e doms (r ∷ rest) p
      ≡ behind_rows (rows_in (type_at t T) r (verdict_of t T r (table_of doms r) e.parents p.failed (items_held t T p.made))) (left_of t T e doms rest q)
  unfolding left_of from verdict_of created firsts_of
  left-taken r rest p w q w' y st =
      rw (y, st.ended, st.failed, st.items)
      (words_step t (type_at t T) (names_in t e.parents) (at (table_of doms) r) (map (at (table_of doms)) rest) p.failed (items_held t T p.made))

  left-ended : (ws : List ℕ) (p : Reached) → p.ended ≡ true → left_of t T e doms ws p ≡ interpreted [] (items_held t T p.made)
  unfolding left_of
  left-ended ws p x = rw x

  left-none : (p : Reached) → left_of t T e doms [] p ≡ interpreted [] (items_held t T p.made)
  unfolding left_of interpret_words
  left-none p = by p.ended (λ x. rw x) (λ x. rw x)

  pub onward-start : (s : Reached) (w : Writer) (ws : List ℕ) → ws ≡ below (has e.words) 200 → Onward t T e doms s w ws (begun s.made) w
  onward-start s w ws q =
      let x = left-start s ws q in
      record {
        rows = ap (λ (i : Interpreted). emit w.limit (state w) i.rows) x;
        items = ap (λ (i : Interpreted). i.items) x;
        failed = ap (λ (i : Interpreted). not (null i.rows)) x;
      }

  module _ (s : Reached) (w : Writer) (ws : List ℕ) (p : Reached) (w' : Writer) (o : Onward t T e doms s w ws p w') where
    pub onward-taken : (r : ℕ) (rest : List ℕ) (q : Reached) (w'' : Writer) → ws ≡ r ∷ rest → p.ended ≡ false → w'.limit ≡ w.limit →
        SteppedIn t T r (table_of doms r) e.parents p w' q w'' → Onward t T e doms s w rest q w''
    onward-taken r rest q w'' z n k st =
        let v = verdict_of t T r (table_of doms r) e.parents p.failed (items_held t T p.made) in
        let rs = rows_in (type_at t T) r v in
        let l = (left_of t T e doms rest q).rows in
        let x = sym (ap (λ vs. left_of t T e doms vs p) z ∙ left-taken r rest p w' q w'' n st) in
        record {
          rows =
              ap (λ z. emit w.limit z l) (st.rows ∙ ap (λ (m : ℕ). emit m (state w') rs) k)
              ∙ sym (emit-append row_bytes w.limit (state w') rs l)
              ∙ ap (λ (i : Interpreted). emit w.limit (state w') i.rows) x
              ∙ o.rows;
          items = ap (λ (i : Interpreted). i.items) x ∙ o.items;
          failed =
              ap (λ f. f || not (null l)) st.failed
              ∙ verdict-rows t T r (table_of doms r) e.parents p.failed (items_held t T p.made) l
              ∙ ap (λ (i : Interpreted). p.failed || not (null i.rows)) x
              ∙ o.failed;
        }

    pub onward-end : left_of t T e doms ws p ≡ interpreted [] (items_held t T p.made) → EntryDoneIn t T e doms s w p w'
    onward-end y =
        let x = sym y in
        record {
          rows = no_rows w.limit (state w') ∙ ap (λ (i : Interpreted). emit w.limit (state w') i.rows) x ∙ o.rows;
          items = ap (λ (i : Interpreted). i.items) x ∙ o.items;
          failed = sym (or-false p.failed) ∙ ap (λ (i : Interpreted). p.failed || not (null i.rows)) x ∙ o.failed;
        }

-- ---- for every sheet whose catalogue it is

pub record Going (t : Catalogue) (T : ℕ) (e : Entry) (doms : List Row) (s : Reached) (w : Writer) (ws : List ℕ) (p : Reached) (w' : Writer) : Type 0 where
  pub same : SameSlice w w'
  pub count : p.made.count + length ws ≤ s.made.count + size e
  pub right : (x : Sheet) → Known x t → T < length (line_map x).types → Onward (line_map x) T e doms s w ws p w'

module _ (t : Catalogue) (T : ℕ) (e : Entry) (doms : List Row) (s : Reached) (w : Writer) where
  pub going_start : (ws : List ℕ) → ws ≡ below (has e.words) 200 → Going t T e doms s w ws (begun s.made) w
  going_start ws q =
      record {
        same = same_self w;
        count = omega (arith, many_below (has e.words) 200, ap length q);
        right = λ x k h. onward-start (line_map x) T e doms s w ws q;
      }

  module _ (ws : List ℕ) (p : Reached) (w' : Writer) (o : Going t T e doms s w ws p w') where
    pub going_taken : (r : ℕ) {i : T < 64} {n : r < 255} (rest : List ℕ) (q : Reached) (w'' : Writer) → ws ≡ r ∷ rest → p.ended ≡ false →
        Stepped t (record { place = T; word = r; inside = i; numbered = n }) (record { doms = table_of doms r; parents = e.parents }) p w' q w'' → Going t T e doms s w rest q w''
    going_taken r rest q w'' z n st =
        record {
          same = same_then w w' w'' o.same st.same;
          count = omega (arith, o.count, st.count, ap length z);
          right = λ x k i. onward-taken (line_map x) T e doms s w ws p w' (o.right x k i) r rest q w'' z n o.same.limit (st.right x k i);
        }

    -- room for one making more
    pub going_room : (r : ℕ) (rest : List ℕ) → ws ≡ r ∷ rest → s.made.count + size e ≤ 380 → p.made.count < 380
    going_room r rest z h = omega (arith, o.count, ap length z)

    going_done : ((m : LineMap) → left_of m T e doms ws p ≡ interpreted [] (items_held m T p.made)) → EntryDone t T e doms s w p w'
    going_done y =
        record { same = o.same; count = omega (arith, o.count); right = λ x i l. onward-end (line_map x) T e doms s w ws p w' (o.right x i l) (y (line_map x)) }

    -- the annotation ended, or no word is left
    pub going_ended : p.ended ≡ true → EntryDone t T e doms s w p w'
    going_ended y = going_done (λ m. left-ended m T e doms ws p y)

    pub going_last : ws ≡ [] → EntryDone t T e doms s w p w'
    going_last y = going_done (λ m. ap (λ vs. left_of m T e doms vs p) y ∙ left-none m T e doms p)
