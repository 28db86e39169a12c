-- How far the words of a sheet reach, and the numbers of names by it.
use Rattle.std.specs.Prelude.{true, false, cond, List, ◌≡◌, ℕ, ◌+◌, ◌-◌, ◌*◌, ◌/◌, ◌%◌, ◌<◌, ◌≤◌, eqb, length, get_or, replicate}
use Rattle.definitions.specs.Legal.{LegalName}
use Rattle.law_orders.specs.Reach.{reach, NoHyphen}
use Rattle.sheet_keys.specs.Keys.{name_of_key}
use Rattle.sheet_reach.specs.declared.Reach.{Reach}

-- What stands there before words are read.
unfoldable pub blank : Reach
blank = record { any = false; last = replicate 200 0 }

-- It has the reach of each of the words.
pub record Reaches (ws : List (List ℕ)) (r : Reach) : Type 0 where
  pub few : length ws ≤ 200
  pub none : r.any ≡ false → NoHyphen ws
  pub each : r.any ≡ true → (w : ℕ) → w < length ws → get_or r.last w 0 ≡ reach ws w

-- The words of a key are those of a name over the words (FORMAT 2.5).
abbrev pub LegalKey : List (List ℕ) → ℕ → Type 0
LegalKey ws k = LegalName (length ws) (name_of_key k)

-- A name's number where words have hyphens: a name of one word by it, of two by the last word that its first one reaches, then by
-- the first one from the back, then by the second (FORMAT 1.4).
abbrev pub rank_by : List ℕ → ℕ → ℕ
rank_by last k =
    cond (eqb (k % 256) 0) (k / 256 * 131072) (get_or last (k / 256) 0 * 131072 + 65536 + (255 - k / 256) * 256 + k % 256)

-- A name's number; without hyphens its key (FORMAT 1.4).
unfoldable pub rank_of : Reach → ℕ → ℕ
rank_of r k = cond r.any (rank_by r.last k) k
