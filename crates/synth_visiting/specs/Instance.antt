-- A map and its compact form: what the code asks is no empty demand, and what it gives is the trail of the visit.
-- Type `a` under `b`, listed twice, and under `c`; type `b` under `c`; type `c`.
use Rattle.std.specs.Prelude.{true, [], ◌∷◌, ◌≡◌, refl, ℕ, zero, suc, ◌<◌, replicate}
use Rattle.std.proofs.Common.{arith}
use Rattle.definitions.specs.Map.{TypeMap}
use Rattle.definitions.specs.Order.{is_self, ready, pass, passes, last_pass, inherits_self, has_order}
use Rattle.definitions.specs.Comparisons.{look_up}
use Rattle.definitions.specs.Synthesis.{listed_parents}
use Rattle.law_visit.specs.Trail.{reach_all, reach, reach_each, trail}
use Rattle.rows.specs.Rows.{has_bit}
use Rattle.order_form.specs.Lists.{all_most, tab}
use Rattle.order_form.specs.Reading.{no_name, listed, place_in, parent_in, ReadsType, Reads}
use Rattle.order_form.specs.Instance.{under, words, parent, eight}
use Rattle.order_form.specs.declared.Parents.{Parents}
use Rattle.synth_visiting.specs.Trails.{Orderly, zero_arrival, reached_at}
use Rattle.synth_visiting.specs.Ranks.{orderly}
use Rattle.synth_visiting.specs.declared.Trail.{Trail}

abbrev pub falling : TypeMap
falling = record {
  words = [];
  resource = 3;
  self = 4;
  types = under (0 ∷ []) ((1 ∷ []) ∷ (1 ∷ []) ∷ (2 ∷ []) ∷ []) ∷ under (1 ∷ []) ((2 ∷ []) ∷ []) ∷ under (2 ∷ []) [] ∷ [];
  extensions = [];
}

abbrev pub fallen : Parents
fallen = record {
  count = 3;
  self_word = 4;
  names = words 0 255 ∷ words 1 255 ∷ words 2 255 ∷ replicate 61 no_name;
  counts = 3 ∷ 1 ∷ 0 ∷ replicate 61 0;
  parents = eight (parent 1 1 255 ∷ parent 1 1 255 ∷ parent 2 2 255 ∷ []) ∷ eight (parent 2 2 255 ∷ []) ∷ replicate 62 (eight []);
  few = omega arith;
  short = λ t h. all_most 8 (3 ∷ 1 ∷ 0 ∷ replicate 61 0) refl t;
}

fallen-types : (t : ℕ) → t < 3 → ReadsType fallen falling t
unfolding listed place_in parent_in
fallen-types zero h = record { name = refl; parents = refl; names = refl; most = omega arith }
fallen-types (suc zero) h = record { name = refl; parents = refl; names = refl; most = omega arith }
fallen-types (suc (suc zero)) h = record { name = refl; parents = refl; names = refl; most = omega arith }
fallen-types (suc (suc (suc t))) h = absurd (omega arith)

pub fallen-reads : Reads fallen falling
fallen-reads = record { count = refl; most = omega arith; self = refl; word = omega arith; distinct = refl; types = fallen-types }

falling-ordered : has_order falling ≡ true
unfolding has_order inherits_self last_pass passes pass ready is_self
falling-ordered = refl

pub fallen-orderly : Orderly fallen
fallen-orderly = orderly fallen falling fallen-reads falling-ordered

-- `c`, `b` and `a`: the first listing of `b` reached it, the second did not, and `c` was reached by `b`
abbrev pub reached : Trail
reached =
    record {
      arrivals = record {
        count = 3;
        items = record { place = 2; fresh = 0 } ∷ record { place = 1; fresh = 1 } ∷ record { place = 0; fresh = 1 } ∷ replicate 61 zero_arrival;
        few = omega arith;
        long = refl;
      };
      seen = 7;
    }

pub falling-trail : trail falling ≡ tab (reached_at fallen falling reached) 3
unfolding trail reach_each reach reach_all listed_parents look_up has_bit
falling-trail = refl
