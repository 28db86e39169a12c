-- Laws of the two calls: what two passes over the fields make of an input.
use Rattle.std.specs.Prelude.{Bool, not, cond, ◌≡◌, ℕ, ◌+◌, ◌*◌, ◌/◌, ◌≤◌, length, drop, Result, Ok, Err}
use Rattle.std.proofs.Math.Bool.{true, false}
use mathlib.Core.List.{List, ◌++◌}
use Rattle.std.proofs.Math.Path.{refl, ap}
use Rattle.std.proofs.Common.{sym, ap₂, ◌∙◌, subst, arith, le-ltb}
use Rattle.lists.specs.Tests.{never}
use Rattle.definitions.specs.Bits.{bits_of, size, pack}
use Rattle.definitions.specs.Parse.{Fault, past, not_allowed, Parsed, done, refused}
use Rattle.definitions.specs.Checks.{bad_fill}
use Rattle.definitions.specs.LegalSchedule.{least_words, most_words, LegalWidth}
use Rattle.definitions.specs.Answer.{overwrite}
use Rattle.definitions.specs.ScheduleFields.{Form, read_fields, write_fields, schedule_fields}
use Rattle.definitions.specs.Conversion.{Converted, schedule_fault, turned_away, written, concluded, bad_width, convert}
use Rattle.bits.specs.NumberLaws.{length-pack_to}
use Rattle.bits.specs.ReadLaws.{is_done}
use Rattle.bits.specs.WriteLaws.{put-pack}
use Rattle.fields.specs.declared.Fault as code
use Rattle.schedule_records.specs.Turning.{form_of, mapped, left, whole, filled, told, Passes, answer_of, Converts}

length-pack : (xs : List Bool) → length (pack xs) ≡ size (length xs)
unfolding pack
length-pack xs = length-pack_to (size (length xs)) xs

-- ---- every answer has a number of three, and no rows

numbers_of : (f : Fault) → schedule_fault f ≤ 12
numbers_of past = omega arith
numbers_of not_allowed = omega arith

-- of what is answered
abbrev Plain : Converted → Type 0
Plain o = (o.answer.number ≤ 12) × (o.answer.rows ≤ 0)

pub plain : (from to : Form) (W : ℕ) (source lent : List ℕ) → Plain (convert from to W source lent)
unfolding convert
plain from to W source lent = wide (bad_width W)
  where
    filling : (xs : List Bool) (t : Bool) → Plain (elim t [ true ↦ turned_away not_allowed lent | false ↦ written xs lent ])
    filling xs true = (omega arith, omega arith)
    filling xs false = (omega arith, omega arith)

    go : (bits : List ℕ → List Bool) (x : Parsed (List ℕ)) → Plain (concluded bits x lent)
    go bits (done vs rest) = filling (bits vs) (bad_fill rest)
    go bits (refused f) = (numbers_of f, omega arith)

    wide : (t : Bool) → Plain (elim t [
      | true ↦ turned_away not_allowed lent
      | false ↦ concluded (write_fields to (schedule_fields W)) (read_fields from to (schedule_fields W) (8 * length lent) (bits_of source)) lent
    ])
    wide true = (omega arith, omega arith)
    wide false = go (write_fields to (schedule_fields W)) (read_fields from to (schedule_fields W) (8 * length lent) (bits_of source))

-- ---- the calls

module _ (W : ℕ) (reading : Bool) (source lent : List ℕ) where
  -- what is due
  abbrev due : Converted
  due = convert (form_of reading) (form_of (not reading)) W source lent

  -- what came of the fields
  abbrev seen : Parsed (List ℕ)
  seen = read_fields (form_of reading) (form_of (not reading)) (schedule_fields W) (8 * length lent) (bits_of source)

  abbrev bits : List ℕ → List Bool
  bits vs = write_fields (form_of (not reading)) (schedule_fields W) vs

  -- by whether W is wrong
  by_width : (t : Bool) → bad_width W ≡ t → due ≡ elim t [ true ↦ turned_away not_allowed lent | false ↦ concluded bits seen lent ]
  unfolding convert
  by_width t e = ap (λ (x : Bool). elim x [ true ↦ turned_away not_allowed lent | false ↦ concluded bits seen lent ]) e

  -- with W as it may be it goes by the fields
  by-fields : bad_width W ≡ false → due ≡ told (filled (whole W reading source (length lent))) lent
  unfolding left
  by-fields e = by_width false e ∙ go seen
    where
      filling : (vs : List ℕ) (rest : List Bool) (t : Bool)
          → elim t [ true ↦ turned_away not_allowed lent | false ↦ written (bits vs) lent ] ≡ told (cond t (refused not_allowed) (done (bits vs) rest)) lent
      filling vs rest true = refl
      filling vs rest false = refl

      go : (x : Parsed (List ℕ)) → concluded bits x lent ≡ told (filled (mapped bits x)) lent
      go (done vs rest) = filling vs rest (bad_fill rest)
      go (refused f) = refl

  legal-width : LegalWidth W → bad_width W ≡ false
  legal-width w = rw (le-ltb W least_words w.enough, le-ltb most_words W w.few)

  -- ---- the answers

  -- W that may not be
  pub turned-away : bad_width W ≡ true → Converts (Err code.Fault.NotAllowed) lent due
  turned-away e = record { outcome = sym (by_width true e); small = omega arith }

  module _ (w : LegalWidth W) (lent' : List ℕ) where
    -- a refusal by a field or by the fill: the pen was up
    pub by-a-field : (f : code.Fault) → Passes W reading false source lent lent' (Err f) → Converts (Err f) lent' due
    by-a-field f l = record {
      outcome =
          ap (λ (y : List ℕ). record { answer = answer_of (Err f); output = y }) (l.untouched refl)
          ∙ sym (by-fields (legal-width w) ∙ ap (λ (x : Parsed (List Bool)). told x lent) l.came.same);
      small = omega arith;
    }

    module _ (n : ℕ) (l : Passes W reading false source lent lent' (Ok n)) (after : List ℕ) where
      from-there : (r : Result ℕ code.Fault) → Passes W reading true source lent' after r → Passes W reading true source lent after r
      from-there r p = subst (λ (s : List ℕ). Passes W reading true source s after r) (l.untouched refl) p

      -- what was looked at is not refused when it is written
      pub looked-at : (f : code.Fault) → Passes W reading true source lent' after (Err f) → ⊥
      looked-at f p = never (ap is_done l.came.same) (ap is_done (from-there (Err f) p).came.same)

      -- acceptance: what was looked at is written
      pub accepting : (i : ℕ) → Passes W reading true source lent' after (Ok i) → Converts (Ok ((i + 7) / 8)) after due
      accepting i p =
          let m = (from-there (Ok i) p).came in
          let k : length (pack m.bits) ≡ (i + 7) / 8 = length-pack m.bits ∙ ap (λ (j : ℕ). (j + 7) / 8) (sym m.long) in
          let o : after ≡ overwrite (pack m.bits) lent =
          m.wrote
          ∙ put-pack lent m.bits (omega (arith, m.long, m.fits))
          ∙ ap (λ (j : ℕ). pack m.bits ++ drop j lent) (sym (length-pack m.bits)) in
          record {
            outcome =
                ap₂ (λ (j : ℕ) (y : List ℕ). record { answer = answer_of (Ok j); output = y }) (sym k) o
                ∙ sym (by-fields (legal-width w) ∙ ap (λ (x : Parsed (List Bool)). told x lent) m.same);
            small = omega (arith, m.few);
          }
