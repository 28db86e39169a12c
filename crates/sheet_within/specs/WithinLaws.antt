-- Laws of the annotations at a place.
use mathlib.Core.Bool.{Bool, true, false}
use Rattle.std.specs.Prelude.{List, [], ◌≡◌, refl, ℕ, ◌+◌, ◌≤◌, length, drop, Result, Ok, Err, MatchResult}
use Rattle.std.proofs.Common.{sym, ap, ◌∙◌, arith}
use Rattle.lists.specs.Tests.{never}
use Rattle.definitions.specs.Bits.{num}
use Rattle.definitions.specs.Parse.{Parsed, done, refused, next, pure, allowed, repeat_onto, counted}
use Rattle.definitions.specs.Reading.{annotation, mark}
use Rattle.definitions.specs.Records.{Annotation, Mark}
use Rattle.bits.specs.declared.Cursor.{Cursor}
use Rattle.fields.specs.declared.Fault.{Fault}
use Rattle.fields.specs.Fields.{of_parsed}
use Rattle.sheet_records.specs.Annotations.{Annotations, of_annotations}
use Rattle.sheet_same.specs.Repeats.{repeats_in}
use Rattle.sheet_window.specs.WindowLaws.{field_in}
use Rattle.sheet_notes.specs.Notes.{Notes, notes}
use Rattle.sheet_draft.specs.Draft.{notes_of}
use Rattle.sheet_types.specs.Rows.{is_done}

abbrev marked : Parsed (List Annotation) → Parsed Notes
marked x = next x (λ as' cs. next (counted 3 0 7 mark cs) (λ ms. pure (record { annotations = as'; marks = ms })))

-- annotations and marks that can be read have the annotations that can
pub annotations-read : (W : ℕ) (one : Bool) (bs : List Bool) → is_done (notes W one bs) ≡ true
    → (rest : List Bool) × (counted 4 0 12 (annotation W one) bs ≡ done (notes_of (notes W one bs)).annotations rest)
unfolding notes
annotations-read W one bs e = go (counted 4 0 12 (annotation W one) bs) e
  where
    at : (as' : List Annotation) (rest : List Bool) (y : Parsed (List Mark)) →
        is_done {A = Notes} (next y (λ ms. pure (record { annotations = as'; marks = ms }))) ≡ true →
        (notes_of (next y (λ ms. pure (record { annotations = as'; marks = ms })))).annotations ≡ as'
    at as' rest (done ms left) h = refl
    at as' rest (refused r) h = never {b = false} h refl

    go : (x : Parsed (List Annotation)) → is_done (marked x) ≡ true → (rest : List Bool) × (x ≡ done (notes_of (marked x)).annotations rest)
    go (done as' rest) h = (rest, ap (λ (l : List Annotation). done l rest) (sym (at as' rest (counted 3 0 7 mark rest) h)))
    go (refused r) h = never {b = false} h refl

-- the annotations that the code read are these, and there are such
pub by_value : (W : ℕ) (one : Bool) (bs cs : List Bool) (r : Result (Annotations × Cursor) Fault) → is_done (notes W one cs) ≡ true →
    of_parsed of_annotations bs r ≡ counted 4 0 12 (annotation W one) cs → MatchResult r (λ v. of_annotations v.0 ≡ (notes_of (notes W one cs)).annotations) (λ f. ⊥)
by_value W one bs cs (Ok (x, c)) e f = let a = annotations-read W one cs e in done-of (f ∙ a.1)
  where
    done-of : {xs ys : List Annotation} {u v : List Bool} → done xs u ≡ done ys v → xs ≡ ys
    done-of e = cc
by_value W one bs cs (Err n) e f =
    let a = f ∙ (annotations-read W one cs e).1 in
    let z : ◌≡◌ {A = ℕ} 0 1 = cc in omega arith

-- a count of 0: nothing is repeated
pub none-repeated : (W : ℕ) (one : Bool) (bs : List Bool) (p : ℕ) → p + 4 ≤ length bs → num 4 (drop p bs) ≡ 0 → is_done (notes W one (drop p bs)) ≡ true →
    repeats_in (notes_of (notes W one (drop p bs))).annotations ≡ false
unfolding counted allowed repeat_onto repeats_in
none-repeated W one bs p l e h =
    let a = annotations-read W one (drop p bs) h in
    let q : counted 4 0 12 (annotation W one) (drop p bs) ≡ done [] (drop (p + 4) bs) = rw (field_in bs p 4 (p + 4) (omega arith) refl l, e) in
    let r : (notes_of (notes W one (drop p bs))).annotations ≡ [] = sym (done-of (sym q ∙ a.1)) in
    rw r
  where
    done-of : {xs ys : List Annotation} {u v : List Bool} → done xs u ≡ done ys v → xs ≡ ys
    done-of e = cc
