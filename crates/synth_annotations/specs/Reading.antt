-- An annotation as the code holds it, read as the definitions' AnnotationInfo.
use Rattle.std.specs.Prelude.{List, [], ◌∷◌, map, ◌≡◌, ℕ, zero, suc, take, get_or, length, Option, Some, None}
use Rattle.std.proofs.Math.Option.{none, some}
use Rattle.lists.specs.Lists.{each}
use Rattle.rows.specs.declared.Row.{Row}
use Rattle.rows.specs.Rows.{has}
use Rattle.rows.specs.Lists.{below}
use Rattle.definitions.specs.Records.{Name, Dom, AssociatedResource, AnnotationOf, make_list, associate, nest_associate, alias, inherit, derive, no_derive}
use Rattle.definitions.specs.Comparisons.{dotted}
use Rattle.definitions.specs.Annotations.{overlaps, nothing, whole, by_word}
use Rattle.sheet_records.specs.declared.Kind.{Kind}
use Rattle.sheet_records.specs.Kinds.{number_of}
use Rattle.synth_annotations.specs.declared.info.AnnotationInfo.{AnnotationInfo}
use Rattle.synth_annotations.specs.declared.Overlap.{Overlap}

-- a dom set as a row of bits, in the order of doms (FORMAT 1.6): 0 is none, d + 1 the word d
abbrev pub dom_at : ℕ → Dom
dom_at zero = []
dom_at (suc d) = d ∷ []

unfoldable pub doms_of : Row → List Dom
doms_of r = map dom_at (below (has r) 201)

-- words with their dom sets
abbrev pub pairs : List ℕ → List Row → List AssociatedResource
pairs [] ds = []
pairs (w ∷ ws) [] = []
pairs (w ∷ ws) (d ∷ ds) = record { word = w; doms = doms_of d } ∷ pairs ws ds

unfoldable pub resources_in : AnnotationInfo → List AssociatedResource
resources_in x = pairs (take x.count x.words) (take x.count x.doms)

-- the names of an Inherit: `a.b` is the word b with the dom a
unfoldable pub names_in : List AssociatedResource → List Name
names_in us = each (λ (u : AssociatedResource). map (λ d. dotted d u.word) u.doms) us

-- by the number of the kind
abbrev pub of_kind : ℕ → ℕ → List AssociatedResource → AnnotationOf AssociatedResource
of_kind zero t us = make_list
of_kind (suc zero) t us = associate us
of_kind (suc (suc zero)) t us = nest_associate us
of_kind (suc (suc (suc zero))) t us = alias t
of_kind (suc (suc (suc (suc zero)))) t us = inherit (names_in us)
of_kind (suc (suc (suc (suc (suc zero))))) t us = derive t
of_kind (suc (suc (suc (suc (suc (suc k)))))) t us = no_derive

unfoldable pub info_of : AnnotationInfo → AnnotationOf AssociatedResource
info_of x = of_kind (number_of x.kind) x.tag (resources_in x)

-- what two annotations of these kinds have in common
abbrev pub overlap_at : Kind → Kind → Rattle.definitions.specs.Annotations.Overlap
overlap_at k j = get_or (get_or overlaps (number_of k) []) (number_of j) nothing

-- what is left of an annotation, or what two share, if there is any
unfoldable pub part_of : Option AnnotationInfo → Rattle.std.proofs.Math.Option.Option (AnnotationOf AssociatedResource)
part_of None = none
part_of (Some x) = some (info_of x)

-- r is x with other resources
pub record With (x : AnnotationInfo) (us : List AssociatedResource) (r : AnnotationInfo) : Type 0 where
  pub resources : resources_in r ≡ us
  pub kind : r.kind ≡ x.kind
  pub tag : r.tag ≡ x.tag
  pub count : r.count ≡ length us

-- the definitions' case of each case
abbrev pub as_overlap : Overlap → Rattle.definitions.specs.Annotations.Overlap
as_overlap Overlap.Nothing = nothing
as_overlap Overlap.Whole = whole
as_overlap Overlap.ByWord = by_word
