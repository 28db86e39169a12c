use mathlib.Core.Path.{◌≡◌}
use Prim.Native.Nat.{◌+◌, ◌-◌, ◌≤◌}
use lib.ListN.{drop}
use Rattle.lists.specs.Lists.{list_before}
use Rattle.definitions.specs.Bits.{pack_to}
use Rattle.sheet_words.specs.Words.{bits_in}
use Rattle.sheet_words.proofs.rest_before.Given as goal

abbrev pub invariant-loop-i : goal.invariant-loop-i
invariant-loop-i l =
    (l.i ≤ 6 + (l.both - 6)) × (list_before (drop 6 (pack_to l.n (drop l.p (bits_in l.a.source)))) (drop 6 (pack_to l.m (drop l.q (bits_in l.b.source)))) ≡ list_before (drop l.i (pack_to l.n (drop l.p (bits_in l.a.source)))) (drop l.i (pack_to l.m (drop l.q (bits_in l.b.source)))))
