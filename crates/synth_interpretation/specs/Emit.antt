-- Rows written into a buffer, and the bytes of a name.
use Rattle.std.specs.Prelude.{List, [], ◌∷◌, ℕ, eqb}
use mathlib.Core.Path.{◌≡◌, ap}
use Rattle.std.proofs.Common.{eqb-true}
use Rattle.lists.specs.Tests.{by}
use Rattle.emitting.specs.Emitting.{State}
use Rattle.emitting.specs.Emitting as emitting
use Rattle.emitting.specs.declared.Writer.{Writer}
use Rattle.emitting.specs.Writing as writing
use Rattle.definitions.specs.Records.{Row}
use Rattle.definitions.specs.Packing.{name_bytes, row_bytes}
use Rattle.fields.specs.declared.Name.{Name}
use Rattle.fields.specs.Fields.{two_words}
use Rattle.synth_interpretation.specs.declared.Reason.{Reason}
use Rattle.synth_interpretation.specs.declared.Reason.TheVariants.{Unknown, NoResource, Duplicate}
pub use Rattle.emitting.specs.Emitting.{emit_bytes}

abbrev pub emit : ℕ → State → List Row → State
emit limit s rs = emitting.emit row_bytes limit s rs

abbrev pub Emits : Writer → Writer → List Row → Type 0
Emits old new rs = writing.Emits row_bytes old new rs

-- the bytes of a name
pub name-bytes : (a b : ℕ) → name_bytes (two_words a b) ≡ a ∷ b ∷ []
name-bytes a b = by (eqb b 255) (λ e. rw e (ap (λ (x : ℕ). a ∷ x ∷ []) (mathlib.Core.Path.sym (eqb-true b 255 e)))) (λ e. rw e)

-- the six bytes of the row of a type and a word (FORMAT 8.1)
abbrev pub bytes_of : Name → Reason → ℕ → List ℕ
bytes_of T (Unknown c) r = 4 ∷ T.first ∷ T.second ∷ c.first ∷ c.second ∷ r ∷ []
bytes_of T (NoResource c) r = 5 ∷ T.first ∷ T.second ∷ c.first ∷ c.second ∷ r ∷ []
bytes_of T Duplicate r = 6 ∷ T.first ∷ T.second ∷ 255 ∷ 255 ∷ r ∷ []
