use Rattle.sheet_extensions.specs.Records.{records_in}
use Rattle.definitions.specs.Reading.{extension}
use Rattle.definitions.specs.Parse.{repeat_onto, repeat}
use Rattle.definitions.specs.Bits.{bits_of}
use lib.ListN.{drop}
use Prim.Native.Nat.{◌-◌}
use mathlib.Core.Path.{◌≡◌}
use Rattle.sheet_extensions.proofs.read_each_record.Given as goal

abbrev pub invariant-loop-e : goal.invariant-loop-e
invariant-loop-e l =
    repeat (extension l.s.words) l.n (drop l.initial.next.at (bits_of l.s.bytes.now)) ≡ repeat_onto (records_in l.t l.e) (extension l.s.words) (l.n - l.e) (drop l.next.at (bits_of l.s.bytes.now))
