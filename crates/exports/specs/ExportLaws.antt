-- The parts of an answer fit; and demand 3 for the exported calls.
use Rattle.std.specs.Prelude.{Bool, true, false, List, [], ◌∷◌, ◌≡◌, refl, ℕ, ◌≤◌, ◌<◌, ltb, length, get_or, set, take}
use Rattle.std.specs.Int.{from_bool}
use Rattle.std.proofs.Common.{sym, ap, ap₂, ◌∙◌, subst, arith, lt-ltb, le-ltb}
use Rattle.std.proofs.lemmas.List.Edits.{sets-eq}
use Rattle.lists.specs.Tests.{by, never}
use Rattle.definitions.specs.Relisted.{Alike}
use Rattle.definitions.specs.Answer.{Input, Answer, Outcome, overwrite, outcome}
use Rattle.answers.specs.Answers as held
use Rattle.fields.specs.declared.Fault.{Fault}
use Rattle.tariff_table.specs.declared.Broken.{Broken}
use Rattle.tariff.specs.declared.Refusal as charging
use Rattle.tariff.specs.Numbers as numbers
use Rattle.answers.specs.declared.Parts.{Parts}
use Rattle.answers.specs.Answers.{parts_of, answer_of, Answered}
use Rattle.access.specs.Lines.{LinesListed}
use Rattle.law_relisting.proofs.Alike.{answers-alike, listings-equal}
use Rattle.law_answers.specs.Sizes as sizes
use Rattle.exports.specs.Exports.{flag, too_few_parts, told, exported, Exported}
use Rattle.exports.specs.Parts.{Small}
use Rattle.exports.specs.Statements.{ExportedAlike, ExportsAlike}

pub small : (i : Input) → Small (outcome i).answer
small i = record {
  number = omega (arith, sizes.numbers i);
  size = omega (arith, sizes.sizes i);
  rows = omega (arith, sizes.rows i);
}

pub from-bool : (b : Bool) → from_bool b ≡ flag b
from-bool true = refl
from-bool false = refl

-- the numbers of a tariff's refusals
pub few-numbers : (r : charging.Refusal) → numbers.number_of r ≤ 16
few-numbers (charging.Refusal.Tariff Broken.TooMany) = omega arith
few-numbers (charging.Refusal.Tariff Broken.OutOfLimits) = omega arith
few-numbers (charging.Refusal.Tariff Broken.Twice) = omega arith
few-numbers (charging.Refusal.Schedule Fault.Past) = omega arith
few-numbers (charging.Refusal.Schedule Fault.NotAllowed) = omega arith

-- what is told by its parts, by what they are the parts of
pub told-by : (p : Parts) (a : Answer) → parts_of p ≡ a → (parts new : List ℕ) → new ≡ overwrite (p.size ∷ p.rows ∷ flag p.more ∷ []) parts
    → new ≡ overwrite (a.size ∷ a.rows ∷ flag a.more ∷ []) parts
told-by p a t parts new e =
    e ∙ ap (λ (x : Answer). overwrite (x.size ∷ x.rows ∷ flag x.more ∷ []) parts) t

-- the three numbers, and behind them what was there
pub three : (l : List ℕ) (a b c : ℕ) → 3 ≤ length l → set (set (set l 0 a) 1 b) 2 c ≡ overwrite (a ∷ b ∷ c ∷ []) l
three l a b c h = sets-eq (a ∷ b ∷ c ∷ []) l 0 h

-- ---- the calls

-- what is told where fewer than three numbers are lent, and where more are
module _ (i : Input) (parts : List ℕ) where
  nothing-told : ltb (length parts) 3 ≡ true → exported i parts ≡ record { number = too_few_parts; parts = parts; listing = i.listing; diagnosis = i.diagnosis }
  unfolding exported
  nothing-told e = rw e

  all_told : ltb (length parts) 3 ≡ false → exported i parts ≡ told (outcome i) parts
  unfolding exported
  all_told e = rw e

  pub too_few : length parts < 3 → record { number = too_few_parts; parts = parts; listing = i.listing; diagnosis = i.diagnosis } ≡ exported i parts
  too_few h = sym (nothing-told (lt-ltb (length parts) 3 h))

-- then no line is promised
pub none_listed : (s l l' : List ℕ) → LinesListed s l l' too_few_parts
none_listed s l l' = record { accepted = λ e. absurd (omega (arith, e)) }

module _ (i : Input) (a : held.Answer) (l d : List ℕ) (h : Answered a l d (outcome i)) where
  pub small-answer : Small (answer_of a)
  small-answer = subst Small (sym (ap (λ (x : Outcome). x.answer) h.outcome)) (small i)

  pub told-all : (p : Parts) → parts_of p ≡ answer_of a → (number : ℕ) (parts new : List ℕ) → 3 ≤ length parts → number ≡ p.number
      → new ≡ overwrite (p.size ∷ p.rows ∷ flag p.more ∷ []) parts
      → record { number = number; parts = new; listing = l; diagnosis = d } ≡ exported i parts
  told-all p t number parts new k n q =
      ap₂ (λ (x : ℕ) (y : List ℕ). record { number = x; parts = y; listing = l; diagnosis = d }) (n ∙ ap (λ (x : Answer). x.number) t) (told-by p (answer_of a) t parts new q)
      ∙ ap (λ (x : Outcome). told x parts) h.outcome
      ∙ sym (all_told i parts (le-ltb (length parts) 3 k))

-- ---- demand 3

pub exports-alike : ExportsAlike
exports-alike i j a b n h = by (ltb (length a) 3) few enough
  where
    k : Alike i j
    k = answers-alike i j h

    as_many : (t : Bool) → ltb (length a) 3 ≡ t → ltb (length b) 3 ≡ t
    as_many t e = sym (ap (λ (m : ℕ). ltb m 3) n) ∙ e

    few : ltb (length a) 3 ≡ true → ExportedAlike i j a b
    few e =
        let x = nothing-told i a e in
        let y = nothing-told j b (as_many true e) in
        record {
          answers = k;
          number = ap (λ (z : Exported). z.number) x ∙ sym (ap (λ (z : Exported). z.number) y);
          size = λ l. never e (le-ltb (length a) 3 l);
          written = λ z. let q : ◌≡◌ {A = ℕ} 255 0 = sym (ap (λ (w : Exported). w.number) x) ∙ z in absurd (omega arith);
          listings = λ l. ap (λ (z : Exported). z.listing) x ∙ l ∙ sym (ap (λ (z : Exported). z.listing) y);
        }

    enough : ltb (length a) 3 ≡ false → ExportedAlike i j a b
    enough e =
        let x = all_told i a e in
        let y = all_told j b (as_many false e) in
        record {
          answers = k;
          number = ap (λ (z : Exported). z.number) x ∙ k.number ∙ sym (ap (λ (z : Exported). z.number) y);
          size = λ _. ap (λ (z : Exported). get_or z.parts 0 0) x ∙ k.size ∙ sym (ap (λ (z : Exported). get_or z.parts 0 0) y);
          written = λ z.
              ap (λ (w : Exported). take (outcome i).answer.size w.listing) x
              ∙ k.written (sym (ap (λ (w : Exported). w.number) x) ∙ z)
              ∙ sym (ap (λ (w : Exported). take (outcome j).answer.size w.listing) y);
          listings = λ l. ap (λ (z : Exported). z.listing) x ∙ listings-equal i j h l ∙ sym (ap (λ (z : Exported). z.listing) y);
        }
