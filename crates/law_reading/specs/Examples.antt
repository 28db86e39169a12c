-- Maps on which the theorems are tried. The smallest is legal by hand; that the others are, because they are read: proofs/Examples.antt.
use Rattle.std.specs.Prelude.{true, false, List, [], ◌∷◌, ◌++◌, map, ◌≡◌, refl, ℕ, zero, suc, ◌+◌, ◌/◌, ◌%◌, ◌≤◌, replicate}
use mathlib.Core.List.Memᴰ
use Rattle.std.proofs.Common.{ap, arith}
use Rattle.lists.specs.Tests.{cons-elim}
use Rattle.definitions.specs.Bits.{odd, to_bits, bits_of, num, pack_to, pack}
use Rattle.definitions.specs.Parse.{done, field_onto, allowed, repeat_onto, counted}
use Rattle.definitions.specs.Records.{Resource, TypeInfo, Extension, make_list, associate, nest_associate, alias, inherit, derive, no_derive, domain, resource, other, makelist_mark, derive_mark, Sheet}
use Rattle.definitions.specs.Comparisons.{bytes_before}
use Rattle.definitions.specs.Reading.{is_first_byte, is_word_byte, word, word_field, word_if_flag, name, associated, associated_list, kinds, annotation, mark, variant, type_info, extension, sheet}
use Rattle.definitions.specs.Checks.{resource_bytes, self_bytes}
use Rattle.definitions.specs.Legal.{lower, LegalByte, begins, LegalWord, Legal}
use Rattle.definitions.specs.Packing.{name_bits, mark_bits}
use Rattle.definitions.specs.Encoding.{word_bits, resource_bits, content_bits, annotation_bits, variant_bits, type_bits, extension_bits, sheet_bits, encode}
use Rattle.definitions.specs.Cases.{hex}
use Rattle.law_reading.specs.Packed.{fill}

-- ---- the two words that every sheet has, and nothing else

abbrev pub alone : Sheet
alone = record { words = resource_bytes ∷ self_bytes ∷ []; types = []; extensions = [] }

letter : {b : ℕ} → 97 ≤ b → b ≤ 122 → LegalByte b
letter h k = begins (lower h k)

resource-word : LegalWord resource_bytes
resource-word = (
  lower (omega arith) (omega arith),
  record {
    enough = omega arith;
    few = omega arith;
    every = (
      letter (omega arith) (omega arith),
      (letter (omega arith) (omega arith), (letter (omega arith) (omega arith), (letter (omega arith) (omega arith), (letter (omega arith) (omega arith), (letter (omega arith) (omega arith), (letter (omega arith) (omega arith), tt)))))),
    );
  },
)

self-word : LegalWord self_bytes
self-word = (
  lower (omega arith) (omega arith),
  record {
    enough = omega arith;
    few = omega arith;
    every = (letter (omega arith) (omega arith), (letter (omega arith) (omega arith), (letter (omega arith) (omega arith), tt)));
  },
)

pub alone-legal : Legal alone
unfolding bytes_before
alone-legal = record {
  limits = record {
    words = record { enough = omega arith; few = omega arith; every = (resource-word, (self-word, tt)) };
    types = record { enough = omega arith; few = omega arith; every = tt };
    extensions = record { enough = omega arith; few = omega arith; every = tt };
  };
  words = record {
    ascend = (
      λ w i. cons-elim i (λ e. ap (bytes_before resource_bytes) e) (λ j. absurd (Memᴰ.not-nil j)),
      (λ w i. absurd (Memᴰ.not-nil i), tt),
    );
    has_resource = Memᴰ.head refl;
    has_self = Memᴰ.tail (Memᴰ.head refl);
  };
  once = record { names = tt; keys = tt; words = λ T i. absurd (Memᴰ.not-nil i); annotations = λ T i. absurd (Memᴰ.not-nil i) };
}

-- ---- the worked example

-- the worked example: `base` associates `file`, which is virtual, has a mark and the parent `resource`; words base, file,
-- resource, self
abbrev pub worked : Sheet
worked = record {
  words = (98 ∷ 97 ∷ 115 ∷ 101 ∷ []) ∷ (102 ∷ 105 ∷ 108 ∷ 101 ∷ []) ∷ resource_bytes ∷ self_bytes ∷ [];
  types =
      record {
        name = 0 ∷ [];
        variant = domain;
        virtual = false;
        trait = false;
        parents = [];
        annotations = associate (record { word = 1; dom = [] } ∷ []) ∷ [];
        marks = [];
      }
      ∷ record { name = 1 ∷ []; variant = resource; virtual = true; trait = false; parents = (2 ∷ []) ∷ []; annotations = []; marks = makelist_mark ∷ [] }
      ∷ record { name = 2 ∷ []; variant = resource; virtual = false; trait = false; parents = []; annotations = []; marks = [] }
      ∷ [];
  extensions = [];
}

-- its 38 bytes
abbrev pub worked_bytes : List ℕ
worked_bytes = hex 38 0x10423130b9b29199a5b1950e4cae6deeae4c6ca473656c660600001220200261020101100000

-- that these are its bytes, computed
worked-bytes : encode worked ≡ worked_bytes
unfolding odd to_bits num pack_to pack name_bits mark_bits word_bits resource_bits content_bits annotation_bits variant_bits type_bits extension_bits sheet_bits encode
worked-bytes = refl

-- the bytes of a map are read to it, nothing behind it but the fill
abbrev pub ReadBack : Sheet → Type 0
ReadBack s = sheet (bits_of (encode s)) ≡ done s (replicate (fill (sheet_bits s)) false)

pub worked-read : ReadBack worked
unfolding odd to_bits bits_of num pack_to pack name_bits mark_bits word_bits resource_bits content_bits annotation_bits variant_bits type_bits extension_bits sheet_bits encode field_onto allowed repeat_onto counted is_first_byte is_word_byte word word_field word_if_flag name associated associated_list kinds annotation mark variant type_info extension sheet
worked-read = refl

-- ---- every construct: a word with hyphens, each kind, a two-word type, each variant, both marks, an extension

abbrev pub everything : Sheet
everything = record {
  words = (65 ∷ 45 ∷ 95 ∷ 57 ∷ 45 ∷ []) ∷ (97 ∷ []) ∷ (98 ∷ []) ∷ resource_bytes ∷ self_bytes ∷ [];
  types =
      record {
        name = 1 ∷ [];
        variant = domain;
        virtual = false;
        trait = true;
        parents = (2 ∷ []) ∷ (1 ∷ 2 ∷ []) ∷ (2 ∷ []) ∷ [];
        annotations =
            make_list
            ∷ associate (record { word = 4; dom = 0 ∷ [] } ∷ record { word = 1; dom = [] } ∷ [])
            ∷ nest_associate (record { word = 1; dom = [] } ∷ record { word = 4; dom = [] } ∷ [])
            ∷ associate []
            ∷ alias 3
            ∷ inherit ((1 ∷ []) ∷ (1 ∷ 2 ∷ []) ∷ [])
            ∷ inherit ((1 ∷ 2 ∷ []) ∷ (1 ∷ []) ∷ [])
            ∷ derive 255
            ∷ derive 0
            ∷ no_derive
            ∷ [];
        marks = derive_mark 255 ∷ makelist_mark ∷ derive_mark 255 ∷ [];
      }
      ∷ record { name = 1 ∷ 2 ∷ []; variant = other; virtual = true; trait = false; parents = []; annotations = associate (record { word = 4; dom = 4 ∷ [] } ∷ []) ∷ []; marks = [] }
      ∷ record { name = 3 ∷ []; variant = resource; virtual = false; trait = false; parents = []; annotations = []; marks = [] }
      ∷ [];
  extensions = record { name = 1 ∷ 2 ∷ []; word = 4; parents = (0 ∷ []) ∷ [] } ∷ record { name = 1 ∷ []; word = 4; parents = (0 ∷ []) ∷ (4 ∷ 4 ∷ []) ∷ [] } ∷ [];
}

pub everything-read : ReadBack everything
unfolding odd to_bits bits_of num pack_to pack name_bits mark_bits word_bits resource_bits content_bits annotation_bits variant_bits type_bits extension_bits sheet_bits encode field_onto allowed repeat_onto counted is_first_byte is_word_byte word word_field word_if_flag name associated associated_list kinds annotation mark variant type_info extension sheet
everything-read = refl

-- ---- every count at its limit: 200 words, one of 31 bytes; 64 types, one with 8 parents, 12 annotations and 7 marks; 32
-- extensions, one with 8 parents

-- n numbers from k on
abbrev from : ℕ → ℕ → List ℕ
from k zero = []
from k (suc n) = k ∷ from (k + 1) n

abbrev two_letters : ℕ → List ℕ
two_letters i = (65 + i / 20) ∷ (65 + i % 20) ∷ []

abbrev resources_from : ℕ → ℕ → List Resource
resources_from k n = map (λ w. record { word = w; dom = w ∷ [] }) (from k n)

abbrev names_from : ℕ → ℕ → List (List ℕ)
names_from k n = map (λ w. w ∷ 199 ∷ []) (from k n)

abbrev plain_type : ℕ → TypeInfo
plain_type i = record { name = i ∷ []; variant = domain; virtual = false; trait = false; parents = []; annotations = []; marks = [] }

abbrev plain_extension : ℕ → Extension
plain_extension i = record { name = i ∷ []; word = 199; parents = (0 ∷ []) ∷ [] }

abbrev pub at_limits : Sheet
at_limits = record {
  words = replicate 31 65 ∷ map two_letters (from 1 197) ++ (resource_bytes ∷ self_bytes ∷ []);
  types =
      record {
        name = 0 ∷ [];
        variant = other;
        virtual = true;
        trait = true;
        parents = names_from 0 8;
        annotations =
            associate (resources_from 0 15)
            ∷ nest_associate (resources_from 0 15)
            ∷ inherit (names_from 0 15)
            ∷ map (λ w. alias w) (from 191 9);
        marks = map (λ t. derive_mark t) (from 249 7);
      }
      ∷ map plain_type (from 1 63);
  extensions = record { name = 0 ∷ []; word = 0; parents = names_from 0 8 } ∷ map plain_extension (from 1 31);
}

pub at_limits-read : ReadBack at_limits
unfolding odd to_bits bits_of num pack_to pack name_bits mark_bits word_bits resource_bits content_bits annotation_bits variant_bits type_bits extension_bits sheet_bits encode field_onto allowed repeat_onto counted is_first_byte is_word_byte word word_field word_if_flag name associated associated_list kinds annotation mark variant type_info extension sheet
at_limits-read = refl
