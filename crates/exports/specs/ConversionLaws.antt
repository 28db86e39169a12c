-- Laws of the exported calls that turn a schedule into records and back.
use mathlib.Core.List.{List, [], ◌∷◌}
use Rattle.std.specs.Prelude.{◌≡◌, ℕ, ◌≤◌, ◌<◌, length, Result}
use Rattle.std.proofs.Math.Path.{sym, ap, ap₂}
use Rattle.std.proofs.Common.{◌∙◌, arith, lt-ltb, le-ltb}
use Rattle.definitions.specs.Answer.{Answer, overwrite}
use Rattle.definitions.specs.ScheduleFields.{Form}
use Rattle.definitions.specs.Conversion.{Converted, convert}
use Rattle.fields.specs.declared.Fault.{Fault}
use Rattle.schedule_records.specs.Turning.{answer_of, Converts}
use Rattle.schedule_records.specs.CallLaws.{plain}
use Rattle.answers.specs.declared.Parts.{Parts}
use Rattle.answers.specs.Answers.{parts_of}
use Rattle.exports.specs.Exports.{flag, too_few_parts}
use Rattle.exports.specs.Parts.{Small}
use Rattle.exports.specs.ExportLaws.{told-by}
use Rattle.exports.specs.Conversions.{told_conversion, exported_conversion}

-- fewer than three numbers are lent
pub too-few-lent : (o : Converted) (lent parts : List ℕ) → length parts < 3
    → record { number = too_few_parts; parts = parts; output = lent } ≡ exported_conversion o lent parts
unfolding exported_conversion
too-few-lent o lent parts h = rw (lt-ltb (length parts) 3 h)

module _ (from to : Form) (W : ℕ) (source lent : List ℕ) (a : Result ℕ Fault) (output : List ℕ) (h : Converts a output (convert from to W source lent)) where
  -- the parts of an answer fit
  pub small-conversion : Small (answer_of a)
  small-conversion =
      let p = plain from to W source lent in
      record {
        number = omega (arith, p.0, ap (λ (x : Converted). x.answer.number) h.outcome);
        size = h.small;
        rows = omega (arith, p.1, ap (λ (x : Converted). x.answer.rows) h.outcome);
      }

  -- and all are told
  pub told-conversion : (p : Parts) → parts_of p ≡ answer_of a → (number : ℕ) (parts new : List ℕ) → 3 ≤ length parts → number ≡ p.number
      → new ≡ overwrite (p.size ∷ p.rows ∷ flag p.more ∷ []) parts
      → record { number = number; parts = new; output = output } ≡ exported_conversion (convert from to W source lent) lent parts
  unfolding exported_conversion
  told-conversion p t number parts new k n q =
      ap₂ (λ (x : ℕ) (y : List ℕ). record { number = x; parts = y; output = output }) (n ∙ ap (λ (x : Answer). x.number) t) (told-by p (answer_of a) t parts new q)
      ∙ ap (λ (o : Converted). told_conversion o parts) h.outcome
      ∙ sym (rw (le-ltb (length parts) 3 k))
