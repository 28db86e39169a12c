-- What stands at a place of a column of the catalogue; 0 past its end.
use Rattle.std.specs.Prelude.{false, [], ℕ, ◌/◌, ◌%◌, get_or, replicate}
use Rattle.std.specs.Int.Bits.{bit_and}
use Rattle.item_heads.specs.Heads.{no_marks}
use Rattle.item_heads.specs.declared.packed.Packed.{Packed}
use Rattle.catalogue.specs.declared.Catalogue.{Catalogue}
use Rattle.catalogue.specs.declared.Extension.{Extension}
use Rattle.catalogue.specs.declared.Word.{Word}

-- What stands past the end of the words, and of the extension records.
abbrev pub no_word : Word
no_word = record { word = 0; types = 0 }

abbrev pub no_extension : Extension
no_extension = record { key = 0; count = 0; parents = [] }

-- The name of a type, as a key.
abbrev pub key_at : Catalogue → ℕ → ℕ
key_at t a = get_or t.keys a 0

-- Variant, virtual, trait and number of parents of a type, in the 8 bits that the sheet has them in.
abbrev pub head_at : Catalogue → ℕ → ℕ
head_at t a = get_or t.heads a 0

-- The marks of a type.
abbrev pub packed_at : Catalogue → ℕ → Packed
packed_at t a = get_or t.marks a no_marks

-- They, as the bits that a schedule has them in.
abbrev pub marks_at : Catalogue → ℕ → ℕ
marks_at t a = (packed_at t a).bits

-- How many bits the marks of a type have.
abbrev pub mark_width : Catalogue → ℕ → ℕ
mark_width t a = (packed_at t a).width

-- How many marks a type has.
abbrev pub mark_count : Catalogue → ℕ → ℕ
mark_count t a = (packed_at t a).count

-- The set of a type's parents.
abbrev pub parents_at : Catalogue → ℕ → ℕ
parents_at t a = get_or t.parents a 0

-- The set of the classes of a type's own Associates.
abbrev pub own_at : Catalogue → ℕ → ℕ
own_at t a = get_or t.own a 0

-- The set of the classes that a type has from above.
abbrev pub above_at : Catalogue → ℕ → ℕ
above_at t a = get_or t.above a 0

-- The set of the classes that a type passes on.
abbrev pub passed_at : Catalogue → ℕ → ℕ
passed_at t a = get_or t.passed a 0

-- The k-th word that is the last of a type's name; they ascend.
abbrev pub word_at : Catalogue → ℕ → ℕ
word_at t k = (get_or t.words k no_word).word

-- The set of the types whose last word the k-th word is.
abbrev pub mask_at : Catalogue → ℕ → ℕ
mask_at t k = (get_or t.words k no_word).types

-- The place of the type `a` where a type's name is `a.b`, or 64 where there is none.
abbrev pub owner_at : Catalogue → ℕ → ℕ
owner_at t a = get_or t.owners a 0

-- An extension record.
abbrev pub extension_at : Catalogue → ℕ → Extension
extension_at t e = get_or t.extensions e no_extension

-- The key of an extension record: that of its type, times 256, and its word.
abbrev pub extension_key_at : Catalogue → ℕ → ℕ
extension_key_at t e = (extension_at t e).key

-- How many parents an extension record has.
abbrev pub extension_count_at : Catalogue → ℕ → ℕ
extension_count_at t e = (extension_at t e).count

-- Parent j of an extension record, as a key.
abbrev pub extension_parent_at : Catalogue → ℕ → ℕ → ℕ
extension_parent_at t e j = get_or (extension_at t e).parents j 0

-- The set of the types whose first word is w.
abbrev pub first_at : Catalogue → ℕ → ℕ
first_at t w = get_or t.firsts w 0

-- The set of the types whose second word is one less than w; for 0 the set of those that have none.
abbrev pub second_at : Catalogue → ℕ → ℕ
second_at t w = get_or t.seconds w 0

-- The type that has a name, as a set of one, or of none where the name is not declared: by the words of its key (FORMAT 1.5).
unfoldable pub looked : Catalogue → ℕ → ℕ
looked t key = bit_and (first_at t (key / 256)) (second_at t (key % 256))

-- Nothing stands in it.
unfoldable pub blank : Catalogue
blank = record {
  keys = replicate 64 0;
  heads = replicate 64 0;
  marks = replicate 64 no_marks;
  parents = replicate 64 0;
  own = replicate 64 0;
  above = replicate 64 0;
  passed = replicate 64 0;
  owners = replicate 64 0;
  words = replicate 64 no_word;
  extensions = replicate 32 (record { key = 0; count = 0; parents = replicate 8 0 });
  firsts = replicate 256 0;
  seconds = replicate 256 0;
  count = 0;
  word_count = 0;
  extension_count = 0;
  extended = 0;
  resource = 0;
  resources = 0;
  childed = 0;
  width = 0;
  hyphens = false;
}
