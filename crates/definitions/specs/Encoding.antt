-- A sheet written: the bits of a map, construct by construct, and its bytes (FORMAT 2).
use Rattle.std.specs.Prelude.{Bool, List, [], ◌∷◌, ◌++◌, ℕ}
use Rattle.definitions.specs.Records.{Resource, make_list, associate, nest_associate, alias, inherit, derive, no_derive}
use Rattle.definitions.specs.Records.{Annotation, Variant, domain, resource, other, TypeInfo, Extension, Sheet}
use Rattle.definitions.specs.Bits.{to_bits, pack}
use Rattle.definitions.specs.Checks.{kind_of}
use Rattle.definitions.specs.Packing.{counted_bits, word_if_flag_bits, name_bits, mark_bits}

-- An entry of the word list (FORMAT 2.4).
unfoldable pub word_bits : List ℕ → List Bool
word_bits w = counted_bits 5 (to_bits 8) w

-- A resource of an associate (FORMAT 2.8).
unfoldable pub resource_bits : Resource → List Bool
resource_bits r = to_bits 8 r.word ++ word_if_flag_bits r.dom

-- What follows the kind of an annotation (FORMAT 2.7).
unfoldable pub content_bits : Annotation → List Bool
content_bits make_list = []
content_bits (associate rs) = counted_bits 4 resource_bits rs
content_bits (nest_associate rs) = counted_bits 4 resource_bits rs
content_bits (alias w) = to_bits 8 w
content_bits (inherit ns) = counted_bits 4 name_bits ns
content_bits (derive t) = to_bits 8 t
content_bits no_derive = []

-- An annotation (FORMAT 2.7).
unfoldable pub annotation_bits : Annotation → List Bool
annotation_bits a = to_bits 3 (kind_of a) ++ content_bits a

-- A variant (FORMAT 2.6).
unfoldable pub variant_bits : Variant → List Bool
variant_bits domain = to_bits 2 0
variant_bits resource = to_bits 2 1
variant_bits other = to_bits 2 2

-- A type record (FORMAT 2.6).
unfoldable pub type_bits : TypeInfo → List Bool
type_bits T =
    name_bits T.name
    ++ (variant_bits T.variant
    ++ (T.virtual ∷ T.trait ∷ counted_bits 4 name_bits T.parents
    ++ (counted_bits 4 annotation_bits T.annotations
    ++ counted_bits 3 mark_bits T.marks)))

-- An extension record (FORMAT 2.10).
unfoldable pub extension_bits : Extension → List Bool
extension_bits e = name_bits e.name ++ (to_bits 8 e.word ++ counted_bits 4 name_bits e.parents)

-- A sheet: version 1 and the three lists (FORMAT 2.2).
unfoldable pub sheet_bits : Sheet → List Bool
sheet_bits s =
    to_bits 4 1
    ++ (counted_bits 8 word_bits s.words
    ++ (counted_bits 7 type_bits s.types
    ++ counted_bits 6 extension_bits s.extensions))

-- The bytes of a map, zero bits filling the last one (FORMAT 2.11).
unfoldable pub encode : Sheet → List ℕ
encode s = pack (sheet_bits s)
