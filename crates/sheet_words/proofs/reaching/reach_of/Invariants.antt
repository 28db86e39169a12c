use mathlib.Core.Bool.{Bool, not}
use mathlib.Core.List.{List}
use mathlib.Core.Path.{◌≡◌}
use Prim.Native.Nat.{ℕ, ◌+◌, ◌-◌, ◌*◌}
use lib.ListN.{drop}
use Rattle.lists.specs.Lists.{place_of}
use Rattle.definitions.specs.Parse.{done, repeat}
use Rattle.definitions.specs.Reading.{word}
use Rattle.law_orders.specs.Reach.{goes_on}
use Rattle.sheet_words.specs.Words.{bits_in, bytes_of}
use Rattle.sheet_words.proofs.reaching.reach_of.Given as goal

abbrev pub invariant-loop-i : goal.invariant-loop-i
invariant-loop-i l =
    (ws : List (List ℕ)) (rest : List Bool) → repeat word (l.n - (l.a + 1)) (drop (l.w.at + 8 * l.w.count) (bits_in l.s)) ≡ done ws rest
    → (vs : List (List ℕ)) × (repeat word (l.n - l.i) (drop l.at (bits_in l.s)) ≡ done vs rest)
    × (l.a + place_of (λ v. not (goes_on (bytes_of l.w) v)) ws ≡ l.i - 1 + place_of (λ v. not (goes_on (bytes_of l.w) v)) vs)
