-- The annotations stand where it is told, and so they do for the map of a sheet whose draft it is.
use Rattle.std.specs.Prelude.{Bool, List, [], ◌≡◌, ℕ, ◌+◌, ◌%◌, ◌≤◌, ◌<◌, eqb, length, get_or, set, drop, Option, Some, None}
use Rattle.std.proofs.Common.{sym, ◌∙◌, arith}
use Rattle.std.proofs.Math.Path.{ap, subst}
use Rattle.std.proofs.Math.Seq.{get_or-set_same, get_or-set_other}
use borrow.Author.Count.{below_more}
use Rattle.definitions.specs.Bits.{bits_of, num}
use Rattle.definitions.specs.Records.{Sheet, Annotation, TypeInfo}
use Rattle.definitions.specs.Parse.{Parsed, done, next, pure, counted}
use Rattle.definitions.specs.Reading.{annotation, mark}
use Rattle.definitions.specs.Map.{type_map_of}
use Rattle.sheet_peek.specs.PeekLaws.{next-done, pure-done, repeat-none, counted-done}
use Rattle.sheet_notes.specs.Notes.{Notes, notes}
use Rattle.sheet_draft.specs.Draft.{key_at, place_at, notes_of, notes_at, type_in}
use Rattle.sheet_draft.specs.declared.Draft.{Draft}
use Rattle.sheet_draft.specs.declared.entry.Entry.{Entry}
use Rattle.order_form.specs.Reading.{type_at}
use Rattle.item_entries.specs.Entries.{row_in}
use Rattle.item_draft.specs.Fill.{Drawn}
use Rattle.item_draft.specs.Rows as rows
use Rattle.synth_own.specs.Owning.{Stand, Noted}
use Rattle.synth_own.specs.declared.Location.{Location}
use Rattle.synth_places.specs.Places.{ReadAt, Readable, Located}

-- ---- one type

-- where annotations and marks are read, the annotations are
first_done : (W : ℕ) (one : Bool) (bs : List Bool) {x : Notes} {rest : List Bool} → notes W one bs ≡ done x rest
    → (r : List Bool) × (counted 4 0 12 (annotation W one) bs ≡ done x.annotations r)
unfolding notes
first_done W one bs {x} {rest} e =
    let d = next-done (counted 4 0 12 (annotation W one) bs) (λ as' cs. next (counted 3 0 7 mark cs) (λ ms. pure (record { annotations = as'; marks = ms }))) e in
    let f = pure-done (counted 3 0 7 mark d.1) (λ ms. record { annotations = d.0; marks = ms }) d.3 in
    (d.1, subst (λ l. counted 4 0 12 (annotation W one) bs ≡ done l d.1) (sym (ap (λ (n : Notes). n.annotations) f.2)) d.2)

module _ (W : ℕ) (s : List ℕ) (d : Draft) (row : ℕ) (r : ReadAt W (bits_of s) d row) where
  abbrev bs : List Bool
  bs = bits_of s

  abbrev one : Bool
  one = eqb (key_at d row % 256) 0

  abbrev at : ℕ
  at = place_at d row

  -- the annotations of the row
  abbrev own : List Annotation
  own = (notes_at W bs d row).annotations

  notes-are : own ≡ r.value.annotations
  unfolding notes_at
  notes-are = ap (λ (x : Parsed Notes). (notes_of x).annotations) r.is

  read : (rest : List Bool) × (counted 4 0 12 (annotation W one) (drop at bs) ≡ done own rest)
  read =
      let f = first_done W one (drop at bs) r.is in
      (f.0, f.1 ∙ ap (λ (l : List Annotation). done l f.0) (sym notes-are))

  -- a count of 0: there are none
  pub none_there : {w : ℕ} → w ≡ num 4 (drop at bs) → w ≡ 0 → Noted bs None own
  none_there {w} e z =
      let c = counted-done (annotation W one) bs at 4 0 12 (omega arith) read.1 in
      let k : num 4 (drop at bs) ≤ 0 = omega (arith, e, z) in
      record {
        none = λ _. sym (repeat-none (annotation W one) (num 4 (drop at bs)) [] (drop (at + 4) bs) k c.1).0;
        some = λ y e. cc;
      }

  pub some_there : Noted bs (Some (record { at = at; words = W; single = one })) own
  some_there = record {
    none = λ n. cc;
    some = λ y e.
        let same : record { at = at; words = W; single = one } ≡ y = cc in
        (read.0, subst (λ (z : Location). Stand bs z own read.0) same read.1);
  }

-- ---- one more

pub located_more : (W : ℕ) (bs : List Bool) (d : Draft) (entries : List Entry) (a : ℕ) (out : List (Option Location)) (x : Option Location) → a < length out → Located W bs d entries a out
    → Noted bs x (notes_at W bs d (row_in entries a)).annotations → Located W bs d entries (a + 1) (set out a x)
located_more W bs d entries a out x l h n = record {
  at =
      below_more (λ j. Noted bs (get_or (set out a x) j None) (notes_at W bs d (row_in entries j)).annotations) a
      (λ j b. rw (get_or-set_other out a j x None (λ e. absurd (omega (arith, b, e)))) (h.at j b))
      (rw (get_or-set_same out a x None l) n);
}

-- ---- of a sheet

module _ (s : Sheet) (bs : List Bool) (d : Draft) (entries : List Entry) (n : ℕ) (w : Drawn s bs d entries n) where
  pub readable : Readable (length s.words) bs d entries n
  readable = record {
    few = w.drafted.few;
    there = rows.rows-there s bs d entries n w;
    read = λ a h. w.read (row_in entries a) (rows.row_below s bs d entries n w a h);
  }

  pub noted : (out : List (Option Location)) → Located (length s.words) bs d entries n out → (a : ℕ) → a < n → Noted bs (get_or out a None) (type_at (type_map_of s) a).annotations
  unfolding type_in
  noted out k a h = subst (Noted bs (get_or out a None)) (sym (ap (λ (T : TypeInfo). T.annotations) (rows.type-at s bs d entries n w a h))) (k.at a h)
