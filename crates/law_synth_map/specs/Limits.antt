-- The limits that the annotations of a held map keep to, in the form in which the functions over them require them.
use Rattle.std.proofs.Math.Bool.{Bool}
use Rattle.std.specs.Prelude.{false, ◌||◌, List, ◌≡◌, ℕ, ◌≤◌, ◌<◌, length, get_or, Option, None}
use Rattle.std.proofs.Common.{arith}
use Rattle.std.proofs.Math.Dec.{eqb}
use Rattle.lists.specs.Lists.{any, repeats}
use Rattle.lists.specs.Tests.{or-false-left, or-false-right, any-not}
use Rattle.definitions.specs.Records.{Resource, Annotation, TypeInfo, Sheet}
use Rattle.definitions.specs.Checks.{resources_of, names_twice, keys_twice, words_twice, annotations_twice, something_twice}
use Rattle.definitions.specs.Map.{type_map_of}
use Rattle.law_lines.specs.Within.{WordsWithin, ResourceWithin, AnnotationWithin}
use Rattle.order_form.specs.Reading.{type_at}
use Rattle.order_form.specs.declared.Parents.{Parents}
use Rattle.synth_own.specs.Owning.{OwnFit}
use Rattle.synth_own.specs.declared.Location.{Location}
use Rattle.synth_map.specs.HeldMap.{HeldMap}
use Rattle.law_synth_map.specs.HeldLaws.{type-in}

-- ---- what is below W is below anything from W on

module _ (W X : ℕ) (le : W ≤ X) where
  words_more : {a b : ℕ} {n : List ℕ} → WordsWithin W a b n → WordsWithin X a b n
  words_more w = record { least = w.least; most = w.most; below = λ x i. omega (arith, w.below x i, le) }

  resource-more : {u : Resource} → ResourceWithin W u → ResourceWithin X u
  resource-more w = record { word = omega (arith, w.word, le); dom = words_more w.dom }

  annotation-more : {a : Annotation} → AnnotationWithin W a → AnnotationWithin X a
  annotation-more w = record { resources = w.resources; resource = λ u j. resource-more (w.resource u j) }

-- ---- the annotations of a type

module _ (s : Sheet) (bs : List Bool) (ns : List (Option Location)) (p : Parents) (h : HeldMap s bs ns p) where
  words-once : words_twice s ≡ false
  unfolding something_twice
  words-once =
      or-false-left (words_twice s) (annotations_twice s)
      (or-false-right (keys_twice s) (words_twice s || annotations_twice s)
      (or-false-right (names_twice s) (keys_twice s || (words_twice s || annotations_twice s)) h.readable.once))

  pub own-fits : (i : ℕ) → i < p.count → OwnFit bs (get_or ns i None)
  unfolding words_twice
  own-fits i l =
      let T = type_at (type_map_of s) i in
      let j = type-in s bs ns p h i l in
      let w = h.within.type T j in
      let f : TypeInfo → Bool = λ T. any (λ (a : Annotation). repeats (λ (u v : Resource). eqb u.word v.word) (resources_of a)) T.annotations in
      record {
        annotations = T.annotations;
        noted = h.noted i l;
        few = w.annotations;
        within = λ a k. annotation-more (length s.words) 200 h.within.words (w.annotation a k);
        once = any-not f words-once j;
      }
