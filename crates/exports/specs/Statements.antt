-- Demand 3 for the exported calls, for callers who lend as many numbers. The proof is in ExportLaws.antt.
use Rattle.std.specs.Prelude.{List, ◌≡◌, ℕ, ◌≤◌, length, get_or, take}
use Rattle.definitions.specs.Answer.{Input, outcome}
use Rattle.definitions.specs.Relisted.{RelistedInputs, Alike}
use Rattle.exports.specs.Exports.{exported}

-- The calls answer alike; so one number is returned, and one size told, if three numbers are lent. Where they accept, the bytes
-- written are equal, whatever stood in the lent listings; and the listings are equal where the lent ones were.
pub record ExportedAlike (i j : Input) (a b : List ℕ) : Type 0 where
  pub answers : Alike i j
  pub number : (exported i a).number ≡ (exported j b).number
  pub size : 3 ≤ length a → get_or (exported i a).parts 0 0 ≡ get_or (exported j b).parts 0 0
  pub written : (exported i a).number ≡ 0
      → take (outcome i).answer.size (exported i a).listing ≡ take (outcome j).answer.size (exported j b).listing
  pub listings : i.listing ≡ j.listing → (exported i a).listing ≡ (exported j b).listing

-- whatever stands in the numbers that are lent
abbrev pub ExportsAlike : Type 0
ExportsAlike = (i j : Input) (a b : List ℕ) → length a ≡ length b → RelistedInputs i j → ExportedAlike i j a b
