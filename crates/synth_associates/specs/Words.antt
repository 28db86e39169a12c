-- The words of an annotation, one after the other: the definitions' recursion goes by the verdict of each word.
use mathlib.Core.Bool.{Bool, true, false, cond}
use Rattle.std.specs.Prelude.{List, [], ◌∷◌, map, ◌≡◌, refl}
use Rattle.std.proofs.Common.{append-nil, sym, ap}
use Rattle.lists.specs.Lists.{null, filter, first_of}
use Rattle.definitions.specs.Records.{Name, AssociatedResource, Item}
use Rattle.definitions.specs.Map.{LineMap, LineType}
use Rattle.definitions.specs.Making.{declared, class_names, is_resource, create_synthetic_resource}
use Rattle.definitions.specs.Synthesis.{Verdict, unknown_classes, ends, no_resource, duplicate, makes, judge, class_row, is_duplicate, with_making, Interpreted, interpreted, behind_row, behind_rows, first_parents, interpret_words}
use Rattle.synth_associates.specs.Step.{rows_in, ends_in, fails_in, items_in}

-- what is made for a resource of an annotation
abbrev pub new_for : LineMap → LineType → List Name → AssociatedResource → Item
new_for m T Ps u = create_synthetic_resource m T u.word (class_names u.doms u.word) (first_parents Ps (class_names u.doms u.word) u.word)

-- the annotation from a word with that verdict on
unfoldable pub from : LineMap → LineType → List Name → AssociatedResource → List AssociatedResource → List Item → Verdict → Interpreted
from m T Ps u us is v =
    behind_rows (rows_in T u.word v)
    (cond (ends_in v)
    (interpreted [] (items_in T u.word (new_for m T Ps u) is v))
    (interpret_words m T Ps us (fails_in v) (items_in T u.word (new_for m T Ps u) is v)))

pub words_step : (m : LineMap) (T : LineType) (Ps : List Name) (u : AssociatedResource) (us : List AssociatedResource) (failed : Bool) (is : List Item) →
    interpret_words m T Ps (u ∷ us) failed is
    ≡ from m T Ps u us is
    (judge failed (filter (λ c. null (declared m c)) (class_names u.doms u.word)) (first_of (λ c. mathlib.Core.Bool.not (is_resource m c)) (class_names u.doms u.word)) (is_duplicate m T u.word (new_for m T Ps u) is))
unfolding interpret_words from
words_step m T Ps u us failed is =
    go (judge failed (filter (λ c. null (declared m c)) (class_names u.doms u.word)) (first_of (λ c. mathlib.Core.Bool.not (is_resource m c)) (class_names u.doms u.word)) (is_duplicate m T u.word (new_for m T Ps u) is))
  where
    go : (v : Verdict) →
        elim v [
          | unknown_classes xs ↦ interpreted (map (class_row 4 T u.word) xs) is
          | ends ↦ interpreted [] is
          | no_resource c ↦ behind_row (class_row 5 T u.word c) (interpret_words m T Ps us true is)
          | duplicate ↦ behind_row (class_row 6 T u.word []) (interpret_words m T Ps us true is)
          | makes ↦ interpret_words m T Ps us false (with_making T u.word (new_for m T Ps u) is)
        ]
        ≡ from m T Ps u us is v
    go (unknown_classes xs) = ap (λ rs. interpreted rs is) (sym (append-nil (map (class_row 4 T u.word) xs)))
    go ends = refl
    go (no_resource c) = refl
    go duplicate = refl
    go makes = refl
