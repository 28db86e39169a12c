use mathlib.Core.Path.{◌≡◌}
use Prim.Native.Nat.{◌+◌, ◌-◌, ◌*◌}
use lib.ListN.{drop}
use Rattle.lists.specs.Lists.{all}
use Rattle.definitions.specs.Bits.{pack_to}
use Rattle.sheet_words.specs.Bytes.{may_stand}
use Rattle.sheet_words.specs.Words.{bits_in}
use Rattle.sheet_words.proofs.is_text.Given as goal

abbrev pub invariant-loop-i : goal.invariant-loop-i
invariant-loop-i l = all (may_stand l.inner) (pack_to l.n (drop l.at (bits_in l.s))) ≡ all (may_stand l.inner) (pack_to (l.n - 6 * l.i) (drop (l.at + 48 * l.i) (bits_in l.s)))
