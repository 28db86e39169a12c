-- What the answers of the code on annotations mean, as the definitions' parsers give it.
use Rattle.std.specs.Prelude.{List, [], ◌∷◌, map, ℕ, drop, get_or}
use Rattle.bounded.specs.declared.UpTo.{UpTo}
use Rattle.bounded.specs.Items.{items_of}
use Rattle.definitions.specs.Parse.{Parser, ◌>>=◌, pure, field, counted}
use Rattle.definitions.specs.Reading.{word_field, name}
use Rattle.definitions.specs.Records.{Resource, AnnotationOf, make_list, associate, nest_associate, alias, inherit, derive, no_derive}
use Rattle.fields.specs.Fields.{of_names}
use Rattle.fields.specs.declared.Names.{Names}
use Rattle.sheet_records.specs.declared.Annotation.{Annotation}
use Rattle.sheet_records.specs.declared.Kind.{Kind}
use Rattle.sheet_records.specs.Kinds.{number_of}

-- a row is a word with what stands behind it: a resource with its dom, or a name
abbrev pub resource_of : List ℕ → Resource
resource_of row = record { word = get_or row 0 255; dom = drop 1 row }

-- the word of the only row
abbrev pub word_of_rows : List (List ℕ) → ℕ
word_of_rows rows = get_or (get_or rows 0 []) 0 255

-- the annotation of a kind with its rows
unfoldable pub annotation_as : ℕ → List (List ℕ) → AnnotationOf Resource
annotation_as kind rows =
    get_or
    (make_list
    ∷ associate (map resource_of rows)
    ∷ nest_associate (map resource_of rows)
    ∷ alias (word_of_rows rows)
    ∷ inherit rows
    ∷ derive (word_of_rows rows)
    ∷ no_derive
    ∷ [])
    kind
    no_derive

-- the rows of an Alias and of a Derive
unfoldable pub row_of_word : ℕ → Parser (List (List ℕ))
row_of_word W = do
  w ← word_field W
  pure ((w ∷ []) ∷ [])

unfoldable pub row_of_tag : Parser (List (List ℕ))
row_of_tag = do
  t ← field 8
  pure ((t ∷ []) ∷ [])

-- the rows behind a kind
unfoldable pub rows_for : ℕ → ℕ → Parser (List (List ℕ))
rows_for W kind =
    get_or (pure [] ∷ counted 4 0 15 (name W) ∷ counted 4 0 15 (name W) ∷ row_of_word W ∷ counted 4 0 15 (name W) ∷ row_of_tag ∷ []) kind (pure [])

abbrev pub with_kind : Kind → Names → Annotation
with_kind kind rows = record { kind = kind; count = rows.count; words = rows.first; doms = rows.second }

unfoldable pub annotation_of : Annotation → AnnotationOf Resource
annotation_of a = annotation_as (number_of a.kind) (of_names (record { count = a.count; first = a.words; second = a.doms }))

-- what stands past the end of an array of annotations
abbrev pub zero_annotation : Annotation
zero_annotation = record { kind = Kind.MakeList; count = 0; words = []; doms = [] }

abbrev pub Annotations : Type 0
Annotations = UpTo Annotation 12

unfoldable pub of_annotations : Annotations → List (AnnotationOf Resource)
of_annotations t = map annotation_of (items_of t)
