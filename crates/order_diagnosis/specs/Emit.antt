-- Rows written into a buffer.
use Rattle.std.specs.Prelude.{List, ℕ}
use Rattle.emitting.specs.Emitting.{State}
use Rattle.emitting.specs.Emitting as emitting
use Rattle.emitting.specs.Row.{bytes_of}
use Rattle.emitting.specs.declared.Row.{Row}
use Rattle.emitting.specs.declared.Writer.{Writer}
use Rattle.emitting.specs.Writing as writing

abbrev pub emit : ℕ → State → List Row → State
emit limit s rs = emitting.emit bytes_of limit s rs

abbrev pub Emits : Writer → Writer → List Row → Type 0
Emits old new rs = writing.Emits bytes_of old new rs
