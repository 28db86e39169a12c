-- Laws of stepping over.
use mathlib.Core.List.{List, [], ◌∷◌, ◌++◌}
use Prim.Native.Nat.{ℕ, zero, suc, ◌+◌, ◌-◌, ◌*◌, ◌%◌, ◌≤◌, ◌<◌}
use Rattle.std.specs.Prelude.{Bool, true, false, ◌≡◌, eqb, length, drop, Option, Some, None, Result, Ok, Err, MatchOption}
use Rattle.std.specs.Iterator.{Yields}
use Rattle.std.specs.List.{FoldsTo}
use Rattle.std.specs.declared.ops.Range.{Range}
use Rattle.std.proofs.Common.{sym, ap, ◌∙◌, sub-one, add-zero, zero-add, arith, eqb-true}
use Rattle.std.proofs.Math.Path.{refl}
use Rattle.std.proofs.iter.Yields.{nat_range_steps}
use Rattle.std.proofs.lemmas.Bool.{eqb-false}
use Rattle.lists.specs.Tests.{by}
use Rattle.bits.specs.NumberLaws.{num-lt}
use Rattle.bits.specs.declared.Cursor.{Cursor}
use Rattle.definitions.specs.Bits.{num}
use Rattle.definitions.specs.Parse as parse
use Rattle.definitions.specs.Parse.{allowed, Parsed, done, refused, Parser, next, pure, refuse, choose, field, between, repeat_onto, repeat, counted, not_allowed}
use Rattle.definitions.specs.Reading.{word_field, annotation, mark}
use Rattle.definitions.specs.Records.{Annotation}
use Rattle.fields.specs.Fields.{fault_of}
use Rattle.fields.specs.declared.Fault.{Fault}
use Rattle.sheet_records.specs.Annotations.{annotation_as, row_of_word, row_of_tag, rows_for}
use Rattle.sheet_records.specs.AnnotationLaws.{annotation-rows}
use Rattle.sheet_window.specs.WindowLaws.{field_in, split}
use Rattle.sheet_notes.specs.Notes.{Notes, notes, forget, steps, of_skip, nested_in_two}

module _ {A : Type 0} (m : Parser A) where
  pub step-none : (n : ℕ) (bs : List Bool) → n ≤ 0 → steps m n bs ≡ done 0 bs
  unfolding steps
  step-none zero bs h = refl
  step-none (suc n) bs h = absurd (omega arith)

  pub step-done : (n : ℕ) (bs rest : List Bool) → 0 < n → forget (m bs) ≡ done 0 rest → steps m n bs ≡ steps m (n - 1) rest
  unfolding steps
  step-done zero bs rest h e = absurd (omega arith)
  step-done (suc n) bs rest h e = rw (sub-one (suc n), e)

  pub step-refused : (n : ℕ) (bs : List Bool) (r : parse.Fault) → 0 < n → forget (m bs) ≡ refused r → steps m n bs ≡ refused r
  unfolding steps
  step-refused zero bs r h e = absurd (omega arith)
  step-refused (suc n) bs r h e = rw e

  -- what was read before does not matter
  pub steps-onto : (n : ℕ) (xs : List A) (bs : List Bool) → forget (repeat_onto xs m n bs) ≡ steps m n bs
  unfolding steps repeat_onto
  steps-onto zero xs bs = refl
  steps-onto (suc n) xs bs = go (m bs) (steps-onto n)
    where
      go : (x : Parsed A) → ((ys : List A) (cs : List Bool) → forget (repeat_onto ys m n cs) ≡ steps m n cs) →
          forget (next x (λ a. repeat_onto (xs ++ (a ∷ [])) m n)) ≡ next (forget x) (λ k. steps m n)
      go (done a rest) ih = ih (xs ++ (a ∷ [])) rest
      go (refused r) ih = refl

  pub counted-steps : (n least most : ℕ) (bs : List Bool) → forget (counted n least most m bs) ≡ next (between n least most bs) (λ k. steps m k)
  unfolding counted
  counted-steps n least most bs = go (between n least most bs)
    where
      go : (x : Parsed ℕ) → forget (next x (λ k. repeat m k)) ≡ next x (λ k. steps m k)
      go (done k rest) = steps-onto k [] rest
      go (refused r) = refl

-- a range that has given so many numbers
pub ranged : (xs : List ℕ) (s t : Range ℕ) → Yields nat_range_steps s xs t → s.start ≤ s.end → (t.end ≡ s.end) × (t.start ≡ s.start + length xs) × (t.start ≤ t.end)
ranged [] s t y l =
    let e = ap (λ (r : Range ℕ). r.end) (sym y) in
    let f = ap (λ (r : Range ℕ). r.start) (sym y) in
    (e, f ∙ sym (add-zero s.start), omega (arith, e, f, l))
ranged (x ∷ xs) s t y l =
    let h = ranged xs y.0 t y.2 (omega (arith, y.1.0, y.1.1.0, y.1.1.2)) in
    (h.0 ∙ y.1.0, omega (arith, h.1, y.1.1.2), h.2)

module _ {A : Type 0} (m : Parser A) (bs : List Bool) {F : Type 0} (f : F) (R : F × Cursor → ℕ → F × Cursor → Type 0)
    (one : (p q : F × Cursor) (x : ℕ) → R p x q → p.0 ≡ f → (q.0 ≡ f) × (forget (m (drop p.1.at bs)) ≡ done 0 (drop q.1.at bs))) where
  pub folded : (xs : List ℕ) (p q : F × Cursor) (k : ℕ) → p.0 ≡ f → FoldsTo R p xs q → (q.0 ≡ f) × (steps m (length xs + k) (drop p.1.at bs) ≡ steps m k (drop q.1.at bs))
  folded [] p q k e h = (ap (λ (z : F × Cursor). z.0) (sym h) ∙ e, rw (zero-add k) (ap (λ (z : F × Cursor). steps m k (drop z.1.at bs)) h))
  folded (x ∷ xs) p q k e h =
      let o = one p h.0 x h.1 e in
      let r = folded xs h.0 q k o.0 h.2 in
      let n : suc (length xs) + k - 1 ≡ length xs + k = omega arith in
      (r.0, step-done m (suc (length xs) + k) (drop p.1.at bs) (drop h.0.1.at bs) (omega arith) o.1 ∙ ap (λ (j : ℕ). steps m j (drop h.0.1.at bs)) n ∙ r.1)

-- what a fold of steps tells at its end
pub ended : {A F : Type 0} (m : Parser A) (bs : List Bool) (n : ℕ) (o : Option ℕ) (r : Result Cursor Fault) (start last : Cursor) (len gap i j : ℕ) (f g' : F) (Z : ℕ → Type 0)
    → MatchOption o ((gap ≡ 0) × (j ≡ i)) (λ x. (0 < gap) × (x ≡ i) × (j ≡ i + 1)) → MatchOption o (r ≡ Ok last) Z
    → ((k : ℕ) → (g' ≡ f) × (steps m (len + k) (drop start.at bs) ≡ steps m k (drop last.at bs))) → len + gap ≡ n
    → ((x : ℕ) → Z x → g' ≡ f → (e : Fault) × (r ≡ Err e) × (forget (m (drop last.at bs)) ≡ refused (fault_of e)))
    → of_skip bs r ≡ steps m n (drop start.at bs)
ended m bs n None r start last len gap i j f g' Z g q d l z =
    let k : len + gap ≡ len + 0 = omega (arith, g.0) in
    rw q (sym (rw (← l, k) ((d 0).1 ∙ step-none m 0 (drop last.at bs) (omega arith))))
ended m bs n (Some x) r start last len gap i j f g' Z g q d l z =
    let e = z x q (d 0).0 in
    rw e.1 (sym (rw (← l) ((d gap).1 ∙ step-refused m gap (drop last.at bs) (fault_of e.0) g.0 e.2)))

-- what is made of a value does not matter
pub forget-pure : {A B : Type 0} (x : Parsed A) (f : A → B) → forget (next x (λ a. pure (f a))) ≡ forget x
forget-pure (done a rest) f = refl
forget-pure (refused r) f = refl

pub notes-steps : (W : ℕ) (one : Bool) (bs : List Bool) →
    forget (notes W one bs) ≡ next (forget (counted 4 0 12 (annotation W one) bs)) (λ k cs. forget (counted 3 0 7 mark cs))
unfolding notes
notes-steps W one bs = go (counted 4 0 12 (annotation W one) bs)
  where
    go : (x : Parsed (List Annotation)) →
        forget {A = Notes} (next x (λ as' cs. next (counted 3 0 7 mark cs) (λ ms. pure (record { annotations = as'; marks = ms }))))
        ≡ next (forget x) (λ k cs. forget (counted 3 0 7 mark cs))
    go (done as' rest) = forget-pure {B = Notes} (counted 3 0 7 mark rest) (λ ms. record { annotations = as'; marks = ms })
    go (refused r) = refl

-- ---- annotations

pub word-steps : (W : ℕ) (bs : List Bool) → forget (row_of_word W bs) ≡ forget (word_field W bs)
unfolding row_of_word
word-steps W bs = forget-pure (word_field W bs) (λ w. (w ∷ []) ∷ [])

pub tag-steps : (bs : List Bool) → forget (row_of_tag bs) ≡ forget (field 8 bs)
unfolding row_of_tag
tag-steps bs = forget-pure (field 8 bs) (λ w. (w ∷ []) ∷ [])

pub annotation-steps : (W : ℕ) (one : Bool) (bs : List Bool) →
    forget (annotation W one bs) ≡ next (between 3 0 6 bs) (λ kind. choose (nested_in_two kind one) (refuse not_allowed) (λ cs. forget (rows_for W kind cs)))
annotation-steps W one bs = ap forget (annotation-rows W one bs) ∙ go (between 3 0 6 bs)
  where
    at : (t : Bool) (kind : ℕ) (cs : List Bool) →
        forget (choose t (refuse not_allowed) (λ ds. next (rows_for W kind ds) (λ rows. pure (annotation_as kind rows))) cs)
        ≡ choose t (refuse not_allowed) (λ ds. forget (rows_for W kind ds)) cs
    at true kind cs = refl
    at false kind cs = forget-pure (rows_for W kind cs) (annotation_as kind)

    go : (x : Parsed ℕ) →
        forget (next x (λ kind. choose (nested_in_two kind one) (refuse not_allowed) (λ ds. next (rows_for W kind ds) (λ rows. pure (annotation_as kind rows)))))
        ≡ next x (λ kind. choose (nested_in_two kind one) (refuse not_allowed) (λ cs. forget (rows_for W kind cs)))
    go (done kind rest) = at (nested_in_two kind one) kind rest
    go (refused r) = refl

-- ---- a mark that is there

pub mark-in : (bs : List Bool) (p w : ℕ) → p + 9 ≤ length bs → w ≡ num 1 (drop p bs) → done 0 (drop (p + 1 + 8 * (w % 2)) bs) ≡ forget (mark (drop p bs))
unfolding mark
mark-in bs p w l e =
    let k : w < 2 = rw e (num-lt 1 (drop p bs)) in
    by (eqb w 1)
    (λ t. let q : w ≡ 1 = eqb-true w 1 t in
    let r : p + 1 + 8 * (w % 2) ≡ p + 9 = omega arith in
    sym (rw (field_in bs p 1 (p + 1) (omega arith) refl (omega arith), ← e, t, field_in bs (p + 1) 8 (p + 9) (omega arith) (omega arith) l, r)))
    (λ t. let q : w ≡ 0 = omega (arith, eqb-false w 1 t) in
    let r : p + 1 + 8 * (w % 2) ≡ p + 1 = omega arith in
    sym (rw (field_in bs p 1 (p + 1) (omega arith) refl (omega arith), ← e, t, r)))

-- ---- neither annotations nor marks

pub notes-none : (W : ℕ) (one : Bool) (bs : List Bool) (p : ℕ) → p + 7 ≤ length bs → num 7 (drop p bs) ≡ 0 →
    done 0 (drop (p + 7) bs) ≡ forget (notes W one (drop p bs))
unfolding notes counted allowed repeat_onto
notes-none W one bs p l e =
    let s = split bs p 4 3 (p + 4) refl in
    let a : num 4 (drop p bs) ≡ 0 = omega (arith, s, e) in
    let b : num 3 (drop (p + 4) bs) ≡ 0 = omega (arith, s, e) in
    sym (rw (field_in bs p 4 (p + 4) (omega arith) refl (omega arith), a, field_in bs (p + 4) 3 (p + 7) (omega arith) (omega arith) l, b))
