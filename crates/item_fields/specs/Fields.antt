-- The fields of an item, out of keys of names.
use Rattle.std.specs.Prelude.{Bool, true, false, List, ◌∷◌, ◌++◌, ℕ}
use Rattle.lists.specs.Lists.{each}
use Rattle.definitions.specs.Bits.{odd, to_bits}
use Rattle.definitions.specs.Records.{Name}
use Rattle.definitions.specs.Packing.{name_bits}
use Rattle.catalogue.specs.Catalogue.{name_of_key, virtual_head, trait_head}

-- The words of a name, 8 bits each.
abbrev pub words_bits : Name → List Bool
words_bits n = each (to_bits 8) n

-- What stands before the parents of a synthesized resource; the last bit of v says whether it is virtual (FORMAT 6.2).
unfoldable pub head_bits : ℕ → ℕ → ℕ → ℕ → List Bool
head_bits key word v parents = false ∷ name_bits (name_of_key key) ++ (to_bits 8 word ++ (odd v ∷ to_bits 5 parents))

-- An extension line, out of the head of its type (FORMAT 6.3).
unfoldable pub line_bits : ℕ → ℕ → ℕ → List Bool
line_bits key head word = true ∷ name_bits (name_of_key key) ++ (virtual_head head ∷ trait_head head ∷ to_bits 8 word)
