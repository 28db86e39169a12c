-- A map and its compact form: what is asked of them is no empty demand.
-- Type `a`, type `b` under `a`, type `c` under `b`, listed twice.
use mathlib.Core.List.{List, [], ◌∷◌}
use Rattle.std.specs.Prelude.{refl, ℕ, zero, suc, ◌<◌, replicate}
use Rattle.std.proofs.Common.{arith}
use Rattle.lists.specs.Tests.{cons-elim}
use Rattle.definitions.specs.Map.{TypeMap}
use Rattle.order_form.specs.Lists.{all_most}
use Rattle.order_form.specs.Reading.{no_name, listed, place_in, parent_in, ReadsType, Reads}
use Rattle.order_form.specs.Instance.{under, words, parent, eight}
use Rattle.order_form.specs.declared.Parents.{Parents}
use Rattle.law_parents.specs.Placed.{ParentsBelow}

abbrev pub chain : TypeMap
chain = record {
  words = [];
  resource = 3;
  self = 4;
  types = under (0 ∷ []) [] ∷ under (1 ∷ []) ((0 ∷ []) ∷ []) ∷ under (2 ∷ []) ((1 ∷ []) ∷ (1 ∷ []) ∷ []) ∷ [];
  extensions = [];
}

abbrev pub chained : Parents
chained = record {
  count = 3;
  self_word = 4;
  names = words 0 255 ∷ words 1 255 ∷ words 2 255 ∷ replicate 61 no_name;
  counts = 0 ∷ 1 ∷ 2 ∷ replicate 61 0;
  parents = eight [] ∷ eight (parent 0 0 255 ∷ []) ∷ eight (parent 1 1 255 ∷ parent 1 1 255 ∷ []) ∷ replicate 61 (eight []);
  few = omega arith;
  short = λ t h. all_most 8 (0 ∷ 1 ∷ 2 ∷ replicate 61 0) refl t;
}

chained-types : (t : ℕ) → t < 3 → ReadsType chained chain t
unfolding listed place_in parent_in
chained-types zero h = record { name = refl; parents = refl; names = refl; most = omega arith }
chained-types (suc zero) h = record { name = refl; parents = refl; names = refl; most = omega arith }
chained-types (suc (suc zero)) h = record { name = refl; parents = refl; names = refl; most = omega arith }
chained-types (suc (suc (suc t))) h = absurd (omega arith)

pub chained-reads : Reads chained chain
chained-reads = record { count = refl; most = omega arith; self = refl; word = omega arith; distinct = refl; types = chained-types }

pub chained-below : ParentsBelow chained 2
unfolding listed
chained-below =
    record { lower = λ q i. cons-elim i (λ e. rw e (omega arith)) (λ j. cons-elim j (λ e. rw e (omega arith)) (λ k. absurd (mathlib.Core.List.Memᴰ.not-nil k))) }
