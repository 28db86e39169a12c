-- The texts that are made so far are as many as the turns.
use Rattle.std.proofs.Common.{◌≡◌, vec_len}
use Rattle.text.proofs.words.Words.of_sheet.Given as goal

abbrev pub invariant-loop : goal.invariant-loop
invariant-loop l = vec_len l.texts ≡ l.counter
