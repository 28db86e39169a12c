-- What holds of every sheet that was read.
use Rattle.std.specs.Prelude.{Bool, false, List, ◌≡◌, refl, ℕ, ◌≤◌, ◌<◌, eqb, length}
use Rattle.lists.specs.Lists.{same_list}
use Rattle.lists.specs.Tests.{any-in}
use Rattle.lists.specs.Places.{place-lt}
use Rattle.definitions.specs.Records.{Sheet}
use Rattle.definitions.specs.Parse.{done}
use Rattle.definitions.specs.Reading.{sheet}
use Rattle.definitions.specs.Checks.{self_bytes, bad_words}
use Rattle.definitions.specs.Map.{number_of}
use Rattle.definitions.specs.Legal.{WithinLimits}
use Rattle.law_reading.specs.Rules.{words-exactly}
use Rattle.law_reading.proofs.RoundTrip.{read-exactly}

-- ---- words that passed 5

pub self-lt : (ws : List (List ℕ)) → bad_words ws ≡ false → number_of self_bytes ws < length ws
unfolding number_of
self-lt ws b = place-lt (same_list eqb self_bytes) ws (any-in (same_list eqb self_bytes) ((words-exactly ws).0 b).has_self refl)

-- ---- a sheet that was read

module _ (bits : List Bool) (t : Sheet) (rest : List Bool) (e : sheet bits ≡ done t rest) where
  pub limits : WithinLimits t
  limits = ((read-exactly bits t rest).0 e).0

  pub few_words : length t.words ≤ 200
  few_words = limits.words.few

  pub few-types : length t.types ≤ 64
  few-types = limits.types.few
