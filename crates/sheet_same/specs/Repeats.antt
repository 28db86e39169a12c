-- The words and the rows of an annotation as read.
use Rattle.std.specs.Prelude.{Bool, true, ◌&&◌, ◌||◌, List, ℕ, eqb, get_or}
use Rattle.lists.specs.Lists.{any, all, repeats, same_list}
use Rattle.lists.specs.Tabulating.{tabulate}
use Rattle.definitions.specs.Comparisons.{same_name}
use Rattle.definitions.specs.Checks.{resources_of, same_annotation}
use Rattle.definitions.specs.Records.{Resource, AnnotationOf}
use Rattle.definitions.specs.Records as records
use Rattle.fields.specs.Fields.{two_words, of_names}
use Rattle.sheet_records.specs.Annotations.{word_of_rows}
use Rattle.sheet_records.specs.declared.Annotation.{Annotation}
use Rattle.sheet_records.specs.declared.Kind.{Kind}
use Rattle.sheet_records.specs.declared.Kind.TheVariants.{MakeList, Associate, NestAssociate, Alias, Inherit, Derive, NoDerive}

unfoldable pub words_of : Annotation → List ℕ
words_of a = tabulate (λ i. get_or a.words i 0) a.count

unfoldable pub row_at : Annotation → ℕ → List ℕ
row_at a i = two_words (get_or a.words i 0) (get_or a.doms i 0)

unfoldable pub rows_of : Annotation → List (List ℕ)
rows_of a = of_names (record { count = a.count; first = a.words; second = a.doms })

abbrev pub same_word : Resource → Resource → Bool
same_word u v = eqb u.word v.word

-- a word stands twice within an associate (FORMAT 2.12)
unfoldable pub repeats_word : AnnotationOf Resource → Bool
repeats_word a = repeats same_word (resources_of a)

-- equality of two annotations of one kind (FORMAT 2.12)
unfoldable pub same_content : Kind → Annotation → Annotation → Bool
same_content MakeList a b = true
same_content Associate a b = all (λ w. any (eqb w) (words_of b)) (words_of a) && all (λ w. any (eqb w) (words_of a)) (words_of b)
same_content NestAssociate a b = all (λ w. any (eqb w) (words_of b)) (words_of a) && all (λ w. any (eqb w) (words_of a)) (words_of b)
same_content Alias a b = eqb (word_of_rows (rows_of a)) (word_of_rows (rows_of b))
same_content Inherit a b = same_list (same_list eqb) (rows_of a) (rows_of b)
same_content Derive a b = eqb (word_of_rows (rows_of a)) (word_of_rows (rows_of b))
same_content NoDerive a b = true

-- what may not stand twice within a type: a word in an associate, an annotation (FORMAT 2.12)
unfoldable pub repeats_in : List (AnnotationOf Resource) → Bool
repeats_in l = any repeats_word l || repeats same_annotation l

abbrev pub type_repeats : records.TypeInfo → Bool
type_repeats T = repeats_in T.annotations

-- what may not stand twice: the name among types, name and word among extensions (FORMAT 2.12)
abbrev pub same_type_name : records.TypeInfo → records.TypeInfo → Bool
same_type_name T U = same_name T.name U.name

abbrev pub same_extension_key : records.Extension → records.Extension → Bool
same_extension_key e f = same_name e.name f.name && eqb e.word f.word
