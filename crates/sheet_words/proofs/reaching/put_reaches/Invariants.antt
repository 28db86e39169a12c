use mathlib.Core.Bool.{Bool}
use mathlib.Core.List.{List}
use mathlib.Core.Path.{◌≡◌}
use Prim.Native.Nat.{ℕ, ◌-◌}
use lib.ListN.{length, drop}
use Rattle.definitions.specs.Parse.{done, repeat}
use Rattle.definitions.specs.Reading.{word}
use Rattle.sheet_words.specs.Words.{bits_in, EachReach}
use Rattle.sheet_words.proofs.reaching.put_reaches.Given as goal

abbrev pub invariant-loop-a : goal.invariant-loop-a
invariant-loop-a l =
    (length l.reach.last ≡ 200) × (l.reach.any ≡ l.initial.reach.any)
    × ((ws : List (List ℕ)) (rest : List Bool) → repeat word l.n (drop l.from (bits_in l.s)) ≡ done ws rest
    → (repeat word (l.n - l.a) (drop l.at (bits_in l.s)) ≡ done (drop l.a ws) rest) × EachReach ws l.a l.reach.last)
