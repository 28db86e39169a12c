-- Laws of the rows.
use Rattle.std.specs.Prelude.{Bool, true, false, cond, ◌≡◌, refl, ℕ, ◌+◌, ◌-◌, ◌/◌, ◌%◌, ◌≤◌, ◌<◌, eqb, drop, get_or, set, Result, Ok, Err}
use mathlib.Core.List.{List, [], ◌∷◌, ◌++◌}
use Rattle.std.proofs.Math.Path.{sym, ap}
use Rattle.std.proofs.Common.{◌∙◌, eqb-true}
use native.Mathlib.Omega.{arith}
use Rattle.std.proofs.lemmas.Bool.{eqb-false}
use Rattle.std.proofs.Math.ListN.{length}
use Rattle.std.proofs.Math.Seq
use Rattle.lists.specs.Tests.{by}
use Rattle.lists.specs.Tabulating.{tabulate, tabulate-set, length-tabulate}
use Rattle.definitions.specs.Parse as parse
use Rattle.definitions.specs.Parse.{Parsed, done, refused, next, pure, repeat}
use Rattle.definitions.specs.Reading.{name, type_info}
use Rattle.definitions.specs.Records as records
use Rattle.fields.specs.ParseLaws.{repeat-length}
use Rattle.sheet_keys.specs.Keys.{name_of_key, names_in}
use Rattle.bits.specs.declared.Cursor.{Cursor}
use Rattle.fields.specs.declared.Fault.{Fault}
use Rattle.sheet_notes.specs.Notes.{Notes, notes, forget, of_skip}
use Rattle.sheet_draft.specs.declared.Draft.{Draft}
use Rattle.sheet_draft.specs.declared.DraftRow.{DraftRow}
use Rattle.sheet_draft.specs.Draft.{no_row, row_at, notes_of, notes_at, type_in, types_in}
use Rattle.sheet_types.specs.Rows.{top, top_of, type_of, notes_in, row_type, NotesDone, DoneHere, NotesRead, of_type_read}
use Rattle.sheet_types.specs.TopLaws.{type-parts}

-- ---- one type

-- a key of one word
pub single-key : (k : ℕ) → eqb (length (name_of_key k)) 1 ≡ eqb (k % 256) 0
unfolding name_of_key
single-key k = go (eqb (k % 256) 0)
  where
    go : (t : Bool) → eqb (length ((k / 256) ∷ cond t [] ((k % 256 - 1) ∷ []))) 1 ≡ t
    go true = refl
    go false = refl

-- what was skipped is the value that stands there
skipped : (x : Parsed Notes) (y : Parsed ℕ) (f : Notes → records.TypeInfo) → y ≡ forget x → next y (λ k. pure (f (notes_of x))) ≡ next x (λ v. pure (f v))
skipped (done v rest) y f e = rw e
skipped (refused r) y f e = rw e

-- ---- what the code read

module _ (W : ℕ) (bs : List Bool) (p : ℕ) where
  pub no_name : (r : parse.Fault) → refused r ≡ name W (drop p bs) → refused r ≡ type_info W (drop p bs)
  no_name r e = sym (type-parts W (drop p bs) ∙ rw (← e))

  module _ (key at₁ : ℕ) (e : done (name_of_key key) (drop at₁ bs) ≡ name W (drop p bs)) where
    pub no_top : (r : parse.Fault) → refused r ≡ top (drop at₁ bs) → refused r ≡ type_info W (drop p bs)
    no_top r f = sym (type-parts W (drop p bs) ∙ rw (← e, ← f))

    module _ (h at₂ : ℕ) (f : done (top_of h) (drop at₂ bs) ≡ top (drop at₁ bs)) (s : h % 16 ≤ 8) where
      pub no-parents : (r : parse.Fault) → refused r ≡ repeat (name W) (h % 16) (drop at₂ bs) → refused r ≡ type_info W (drop p bs)
      no-parents r g = let q : h % 16 % 9 ≡ h % 16 = omega arith in sym (type-parts W (drop p bs) ∙ rw (← e, ← f, q, ← g))

      pub row_read : (row : DraftRow) (count : ℕ) (r : Result Cursor Fault) → row.key ≡ key → row.head ≡ h →
          done (names_in row.parents count) (drop row.place bs) ≡ repeat (name W) (h % 16) (drop at₂ bs) →
          of_skip bs r ≡ forget (notes W (eqb (key % 256) 0) (drop row.place bs)) → of_type_read W bs row r ≡ type_info W (drop p bs)
      row_read row count r a b g k =
          let q : h % 16 % 9 ≡ h % 16 = omega arith in
          let l : length (names_in row.parents count) ≡ count = length-tabulate (λ j. name_of_key (get_or row.parents j 0)) count in
          let m : count ≡ h % 16 = omega (arith, l, repeat-length (name W) (h % 16) [] (drop at₂ bs) _ _ (sym g)) in
          rw (a, b, q, ← m)
          (skipped (notes W (eqb (key % 256) 0) (drop row.place bs)) (of_skip bs r) (type_of (name_of_key key) (top_of h) (names_in row.parents count)) k
          ∙ sym (type-parts W (drop p bs) ∙ rw (← e, ← f, q, ← g, single-key key)))

-- what was stepped over is there
stepped : (bs : List Bool) (x : Parsed Notes) (r : Result Cursor Fault) (W : ℕ) (row : DraftRow) → x ≡ notes_in W bs row → of_skip bs r ≡ forget x → DoneHere W bs row r
stepped bs (done v rest) (Ok c) W row q e = rw (← q)
stepped bs (refused n) (Ok c) W row q e = let z : ◌≡◌ {A = ℕ} 0 1 = cc in absurd (omega arith)
stepped bs x (Err n) W row q e = tt

pub done-here : (W : ℕ) (bs : List Bool) (row : DraftRow) (r : Result Cursor Fault) → of_skip bs r ≡ forget (notes_in W bs row) → DoneHere W bs row r
done-here W bs row r e = stepped bs (notes_in W bs row) r W row refl e

pub read_none : (W : ℕ) (bs : List Bool) (d : Draft) → NotesRead W bs d 0
read_none W bs d = record { read = λ i h. absurd (omega arith) }

-- ---- the rows

-- one row is put
abbrev pub with_row : Draft → ℕ → DraftRow → Draft
with_row d i row = record d { rows = set d.rows i row }

row-here : (d : Draft) (i : ℕ) (row : DraftRow) → i < length d.rows → row_at (with_row d i row) i ≡ row
row-here d i row h = Seq.get_or-set_same d.rows i row no_row h

row-other : (d : Draft) (i j : ℕ) (row : DraftRow) → j < i → row_at (with_row d i row) j ≡ row_at d j
row-other d i j row h = Seq.get_or-set_other d.rows i j row no_row (λ e. omega arith)

pub read_more : (W : ℕ) (bs : List Bool) (i : ℕ) (d : Draft) (row : DraftRow) → i < length d.rows → NotesDone W bs row → NotesRead W bs d i → NotesRead W bs (with_row d i row) (i + 1)
read_more W bs i d row l e h = record {
  read = λ j b.
      by (eqb j i)
      (λ q. let z = eqb-true j i q in rw (z, row-here d i row l) e)
      (λ q. let z : j < i = omega (arith, eqb-false j i q) in rw (row-other d i j row z) (h.read j z));
}

pub types-none : (W : ℕ) (bs : List Bool) (d : Draft) → types_in W bs d 0 ≡ []
unfolding types_in tabulate
types-none W bs d = refl

-- the type in a row
type-is : (W : ℕ) (bs : List Bool) (d : Draft) (i : ℕ) → type_in W bs d i ≡ row_type W bs (row_at d i)
unfolding type_in notes_at
type-is W bs d i = refl

-- one type more
pub types_more : (W : ℕ) (bs : List Bool) (i : ℕ) (d : Draft) (row : DraftRow) → i < length d.rows → types_in W bs (with_row d i row) (i + 1) ≡ types_in W bs d i ++ (row_type W bs row ∷ [])
unfolding types_in
types_more W bs i d row h =
    tabulate-set (type_in W bs d) (type_in W bs (with_row d i row)) i (row_type W bs row)
    (λ j l. type-is W bs (with_row d i row) j ∙ ap (row_type W bs) (row-other d i j row l) ∙ sym (type-is W bs d j))
    (type-is W bs (with_row d i row) i ∙ ap (row_type W bs) (row-here d i row h))
