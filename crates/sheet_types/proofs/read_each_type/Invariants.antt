use Rattle.sheet_types.specs.Rows.{NotesRead}
use Rattle.sheet_draft.specs.Draft.{types_in}
use Rattle.definitions.specs.Reading.{type_info}
use Rattle.definitions.specs.Parse.{repeat_onto, repeat}
use Rattle.definitions.specs.Bits.{bits_of}
use lib.ListN.{drop}
use Prim.Native.Nat.{◌-◌}
use mathlib.Core.Path.{◌≡◌}
use Rattle.sheet_types.proofs.read_each_type.Given as goal

abbrev pub invariant-loop-i : goal.invariant-loop-i
invariant-loop-i l =
    NotesRead l.s.words (bits_of l.s.bytes.now) l.d l.i
    × (repeat (type_info l.s.words) l.n (drop l.initial.next.at (bits_of l.s.bytes.now)) ≡ repeat_onto (types_in l.s.words (bits_of l.s.bytes.now) l.d l.i) (type_info l.s.words) (l.n - l.i) (drop l.next.at (bits_of l.s.bytes.now)))
