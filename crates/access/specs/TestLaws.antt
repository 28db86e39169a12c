-- What the tests before the order leave, and what is due to a sheet that passes them.
use Rattle.std.specs.Prelude.{List, ◌≡◌, ℕ, ◌≤◌, length, Result, Ok, Err}
use Rattle.std.proofs.Common.{sym, ap, ◌∙◌, subst}
use Rattle.definitions.specs.Map.{type_map_of}
use Rattle.definitions.specs.Answer as rules
use Rattle.definitions.specs.Answer.{Call, Outcome, outcome}
use Rattle.sheet_draft.specs.declared.Draft.{Draft}
use Rattle.sheet_draft.specs.declared.entry.Entry.{Entry}
use Rattle.catalogue.specs.declared.Catalogue.{Catalogue}
use Rattle.sheet_decode.specs.Decodes.{Back, Decodes}
use Rattle.sheet_draft.specs.declared.Decoding.{Decoding}
use Rattle.law_reading.specs.Statements.{RowsFit}
use Rattle.answers.specs.declared.Settings.{Settings}
use Rattle.answers.specs.declared.Refusal.{Refusal}
use Rattle.answers.specs.Answers.{settings_of, Answer, Answered, input_of}
use Rattle.answers.specs.Telling.{Refuses}
use Rattle.answers.specs.TellingLaws.{answered-as}
use Rattle.access.specs.Ending.{ended}
use Rattle.access.specs.Tables.{Taken, Takes}
use Rattle.access.specs.AnswerLaws.{turned, remains}

-- 3 to 7
turns-back : (settings : Settings) (s : List ℕ) (room : ℕ) → length s ≤ 40960 → RowsFit (settings_of settings) room → (r : Refusal) → Back s r → Refuses settings s room r
turns-back settings s room h g r b = record {
  due = λ call l f k. record {
    outcome = ap (λ (a : rules.Answer). record { answer = a; listing = l; diagnosis = f }) b.alone ∙ turned call settings s l f h (subst (RowsFit (settings_of settings)) (sym k) g) _ b.number;
  };
}

-- what the decoder answers is what the tests leave
pub takes : (settings : Settings) (s : List ℕ) (room : ℕ) (d : Draft) (entries : List Entry) (t : Catalogue) → length s ≤ 40960 → RowsFit (settings_of settings) room
    → (r : Result Decoding Refusal) → Decodes s d entries t r → Takes settings s room d entries t r
takes settings s room d entries t h g (Ok n) w = record { short = h; fit = g; whole = w }
takes settings s room d entries t h g (Err e) b = turns-back settings s room h g e b

-- what ends a call is due to it
pub due-so : (settings : Settings) (s : List ℕ) (room : ℕ) (d : Draft) (entries : List Entry) (t : Catalogue) (x : Decoding) (p : Taken settings s room d entries t x) (call : Call) (l f l' f' : List ℕ) (a : Answer) → length f ≡ room
    → Answered a l' f' (ended settings.rows call (type_map_of p.whole.s) l f) → Answered a l' f' (outcome (input_of call settings s l f))
due-so settings s room d entries t x p call l f l' f' a k n =
    answered-as a l' f' _ _ n (sym (remains call settings s l f p.short (subst (RowsFit (settings_of settings)) (sym k) p.fit) p.whole.s p.whole.holds))
