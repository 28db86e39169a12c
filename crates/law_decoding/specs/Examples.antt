-- Sheets decoded; the second has one byte more.
use Rattle.std.specs.Prelude.{List, [], ◌∷◌, ◌≡◌, refl, ℕ}
use Rattle.lists.specs.Lists.{insert, sort}
use Rattle.definitions.specs.Bits.{odd, to_bits, bits_of}
use Rattle.definitions.specs.Parse.{field_onto, allowed, repeat_onto, counted}
use Rattle.definitions.specs.Comparisons.{bytes_before}
use Rattle.definitions.specs.Reading.{is_first_byte, is_word_byte, word, sheet}
use Rattle.definitions.specs.Checks.{resource_bytes, self_bytes, bad_fill, bad_words, names_twice, keys_twice, words_twice, annotations_twice, something_twice}
use Rattle.definitions.specs.Map.{number_of, type_map_of}
use Rattle.definitions.specs.Cases.{hex}
use Rattle.law_decoding.specs.Decoding.{Decoding, turned_back, whole, decoded}

-- bytes and what they are decoded to
unfoldable run : List ℕ → Decoding
unfolding decoded insert sort odd to_bits bits_of field_onto allowed repeat_onto counted bytes_before is_first_byte is_word_byte word sheet bad_fill bad_words names_twice keys_twice words_twice annotations_twice something_twice number_of type_map_of
run bytes = decoded bytes

-- the two words that every sheet has, and nothing else
two-words : run (hex 17 0x10243932b9b7bab931b291cd95b1980000) ≡ whole (resource_bytes ∷ self_bytes ∷ []) (record { words = resource_bytes ∷ self_bytes ∷ []; resource = 0; self = 1; types = []; extensions = [] })
unfolding run
two-words = refl

-- that sheet with a zero byte behind it
one_more : run (hex 18 0x10243932b9b7bab931b291cd95b198000000) ≡ turned_back 7
unfolding run
one_more = refl
