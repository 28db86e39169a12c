use mathlib.Core.List.{List}
use mathlib.Core.Path.{◌≡◌}
use Prim.Native.Nat.{ℕ, ◌-◌}
use lib.ListN.{length, drop}
use Rattle.definitions.specs.Parse.{repeat_onto, repeat}
use Rattle.definitions.specs.Reading.{word}
use Rattle.sheet_words.specs.Words.{bits_in}
use Rattle.sheet_words.specs.WordsLaws.{Seen}
use Rattle.sheet_words.proofs.read_each_word.Given as goal

abbrev pub invariant-loop-i : goal.invariant-loop-i
invariant-loop-i l =
    (ws : List (List ℕ)) × (length ws ≡ l.i) × Seen l.n ws l.last l.t × (repeat word l.n (drop l.initial.at (bits_in l.s)) ≡ repeat_onto ws word (l.n - l.i) (drop l.at (bits_in l.s)))
