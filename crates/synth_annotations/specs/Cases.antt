-- Annotations at the limits, read.
use Rattle.std.specs.Prelude.{List, [], ◌∷◌, map, ◌≡◌, refl, ℕ, replicate}
use Rattle.std.proofs.Common.{arith}
use Rattle.rows.specs.declared.Row.{Row}
use Rattle.rows.specs.Rows.{has, empty}
use Rattle.rows.specs.Lists.{between}
use Rattle.definitions.specs.Records.{Dom, associate, inherit}
use Rattle.sheet_records.specs.declared.Kind.TheVariants.{Associate, Inherit}
use Rattle.synth_annotations.specs.declared.info.AnnotationInfo.{AnnotationInfo}
use Rattle.synth_annotations.specs.Reading.{doms_of, resources_in, names_in, info_of}

-- none, and the words 0, 63, 64, 191, 192, 199
abbrev edge_doms : Row
edge_doms = record { a = 3; b = 3; c = 0; d = 259 }

abbrev edges : AnnotationInfo
edges = record {
  kind = Associate;
  tag = 0;
  count = 6;
  words = 0 ∷ 63 ∷ 64 ∷ 191 ∷ 192 ∷ 199 ∷ replicate 9 0;
  doms = replicate 15 edge_doms;
  few = omega arith;
}

abbrev edge_dom_list : List Dom
edge_dom_list = [] ∷ (0 ∷ []) ∷ (63 ∷ []) ∷ (64 ∷ []) ∷ (191 ∷ []) ∷ (192 ∷ []) ∷ (199 ∷ []) ∷ []

pub edges-read : info_of edges ≡ associate (map (λ (w : ℕ). record { word = w; doms = edge_dom_list }) (0 ∷ 63 ∷ 64 ∷ 191 ∷ 192 ∷ 199 ∷ []))
unfolding info_of resources_in doms_of between has
edges-read = refl

-- an Inherit of the names `5` and `199.7`
abbrev two_names : AnnotationInfo
two_names = record {
  kind = Inherit;
  tag = 0;
  count = 2;
  words = 5 ∷ 7 ∷ replicate 13 0;
  doms = record { a = 1; b = 0; c = 0; d = 0 } ∷ record { a = 0; b = 0; c = 0; d = 256 } ∷ replicate 13 empty;
  few = omega arith;
}

pub names-read : info_of two_names ≡ inherit ((5 ∷ []) ∷ (199 ∷ 7 ∷ []) ∷ [])
unfolding info_of resources_in names_in doms_of between has
names-read = refl
