use Rattle.sheet_within.specs.OnceLaws.{Separate}
use Rattle.definitions.specs.Reading.{name}
use Rattle.definitions.specs.Parse.{repeat, repeat_onto}
use Rattle.definitions.specs.Bits.{bits_of}
use lib.ListN.{drop}
use Prim.Native.Nat.{ℕ, ◌-◌}
use mathlib.Core.Path.{◌≡◌}
use mathlib.Core.List.{List}
use Rattle.sheet_within.proofs.names_once.Given as goal

abbrev pub invariant-loop : goal.invariant-loop
invariant-loop l =
    (rows : List (List ℕ)) × (repeat (name l.s.words) l.n (drop l.at (bits_of l.s.bytes.now)) ≡ repeat_onto rows (name l.s.words) (l.n - l.counter) (drop l.next.at (bits_of l.s.bytes.now))) × Separate rows l.words
