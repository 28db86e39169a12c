-- A pair of relisted sheets meets what `ExportsAlike` asks: through both calls, with any lengths of the slices, and whatever
-- stands in the numbers that are lent.
use Rattle.std.specs.Prelude.{List, [], ◌∷◌, ◌≡◌, refl, ℕ, length}
use Rattle.definitions.specs.Answer.{Call, schedule}
use Rattle.law_relisting.proofs.Examples.{asked, listed, relisted, both}
use Rattle.exports.specs.Statements.{ExportedAlike}
use Rattle.exports.specs.ExportLaws.{exports-alike}

pub pair-alike : (c : Call) (l d : ℕ) (a b : List ℕ) → length a ≡ length b → ExportedAlike (asked c listed l d) (asked c relisted l d) a b
pair-alike c l d a b n = exports-alike (asked c listed l d) (asked c relisted l d) a b n (both c l d)

-- three numbers of one caller, three others of another
pub three-lent : ExportedAlike (asked schedule listed 40 1536) (asked schedule relisted 40 1536) (0 ∷ 0 ∷ 0 ∷ []) (7 ∷ 8 ∷ 9 ∷ [])
three-lent = pair-alike schedule 40 1536 (0 ∷ 0 ∷ 0 ∷ []) (7 ∷ 8 ∷ 9 ∷ []) refl
