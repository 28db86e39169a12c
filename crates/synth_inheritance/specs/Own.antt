-- A parent's own associates, and what the functions ensure.
use Rattle.std.specs.Prelude.{true, cond, List, [], ◌∷◌, ◌++◌, map, ◌⊎◌, ◌≡◌, ℕ, ◌<◌, ◌≤◌, eqb, ltb, length, take, get_or}
use Rattle.std.proofs.Math.Option.{some}
use Rattle.lists.specs.Lists.{ascends}
use Rattle.rows.specs.declared.Row.{Row}
use Rattle.rows.specs.Rows.{has, empty}
use Rattle.rows.specs.RowLaws.{Small}
use Rattle.rows.specs.Lists.{elem}
use Rattle.definitions.specs.Records.{Name}
use Rattle.definitions.specs.Comparisons.{name_before}
use Rattle.definitions.specs.Inherited.{InheritedAnnotation, dedup_one, dedup_onto, as_associate}
use Rattle.sheet_records.specs.declared.Kind.TheVariants.{Associate, NestAssociate}
use Rattle.synth_annotations.specs.declared.info.AnnotationInfo.{AnnotationInfo}
use Rattle.synth_annotations.specs.Reading.{info_of}
use Rattle.synth_dedup.specs.declared.inherited.Inherited.{Inherited}
use Rattle.synth_inheritance.specs.declared.own.OwnAssociate.{OwnAssociate}
use Rattle.synth_dedup.specs.Reading.{names_at, table_of, inherited_of, joined, under'}

-- the words of an annotation, and their dom sets
abbrev pub words_in : AnnotationInfo → List ℕ
words_in a = take a.count a.words

abbrev pub rows_in : AnnotationInfo → List Row
rows_in a = take a.count a.doms

-- an associate, nested or not, its words ascending
pub record Own (a : AnnotationInfo) : Type 0 where
  pub kind : (a.kind ≡ Associate) ⊎ (a.kind ≡ NestAssociate)
  pub below : (i : ℕ) → i < a.count → get_or a.words i 0 < 200
  pub ascending : ascends ltb (words_in a) ≡ true

-- the dom set that stands beside the word
abbrev pub row_for : List ℕ → List Row → ℕ → Row
row_for [] ds w = empty
row_for (v ∷ ws) [] w = empty
row_for (v ∷ ws) (d ∷ ds) w = cond (eqb w v) d (row_for ws ds w)

pub record WordsOf (a : AnnotationInfo) (r : Row) : Type 0 where
  pub small : Small r
  pub at : (w : ℕ) → has r w ≡ elem w (words_in a)

-- the arrays are long enough, and the table has the associate's dom sets at its words
pub record DomsWith (D : List Row) (a : AnnotationInfo) (E : List Row) : Type 0 where
  pub words : a.count ≤ length a.words
  pub doms : a.count ≤ length a.doms
  pub at : (w : ℕ) → w < 200 → table_of E w ≡ joined (table_of D) (λ v. elem v (words_in a)) (row_for (words_in a) (rows_in a)) w

-- an own associate as it is handed on
unfoldable pub handed : List Name → AnnotationInfo → InheritedAnnotation
handed ps a = record { annotation = as_associate (info_of a); parents = ps }

abbrev pub handed_own : List Name → OwnAssociate → InheritedAnnotation
handed_own ps a = handed ps a.info

-- h with the associate a, under the types at the places `parent`
pub record JoinsOwn (h : Inherited) (a : AnnotationInfo) (parent : ℕ) (r : Inherited) : Type 0 where
  pub dedup : (ws : List (List ℕ)) (names : List Name) → ascends (name_before ws) names ≡ true → inherited_of names r ≡ dedup_one ws (inherited_of names h) (some (handed (names_at names parent) a))

pub record JoinsOwns (h : Inherited) (own : List OwnAssociate) (count parent : ℕ) (r : Inherited) : Type 0 where
  pub dedup : (ws : List (List ℕ)) (names : List Name) → ascends (name_before ws) names ≡ true
      → inherited_of names r ≡ dedup_onto ws (inherited_of names h) (map (handed_own (names_at names parent)) (take count own))

pub record JoinsParent (h : Inherited) (own : List OwnAssociate) (count : ℕ) (p : Inherited) (parent : ℕ) (r : Inherited) : Type 0 where
  pub dedup : (ws : List (List ℕ)) (names : List Name) → ascends (name_before ws) names ≡ true
      → inherited_of names r
      ≡ dedup_onto ws (inherited_of names h) (map (handed_own (names_at names parent)) (take count own) ++ map (under' (names_at names parent)) (inherited_of names p))
