use mathlib.Core.Path.{◌≡◌}
use Prim.Native.Nat.{◌≤◌}
use lib.ListN.{drop}
use Rattle.definitions.specs.Bits.{pack_to}
use Rattle.law_orders.specs.Reach.{goes_on}
use Rattle.sheet_words.specs.Words.{bits_in, bytes_of}
use Rattle.sheet_words.proofs.reaching.is_going_on.Given as goal

abbrev pub invariant-loop-i : goal.invariant-loop-i
invariant-loop-i l =
    (l.i ≤ l.n) × (goes_on (pack_to l.n (drop l.p (bits_in l.w.source))) (bytes_of l.v) ≡ goes_on (drop l.i (pack_to l.n (drop l.p (bits_in l.w.source)))) (drop l.i (pack_to l.v.count (drop l.q (bits_in l.v.source)))))
