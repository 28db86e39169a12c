-- Where the class of a dom and a word stands in a catalogue.
use Rattle.std.specs.Prelude.{Bool, ◌&&◌, not, cond, Option, ℕ, zero, suc, ◌+◌, ◌*◌, ◌/◌, ◌%◌, ltb}
use Rattle.std.specs.Bool.{then_some}
use Rattle.std.specs.Int.Count.{count_trailing_zeros}
use Rattle.catalogue.specs.Catalogue.{is_resource_head}
use Rattle.catalogue.specs.Layout.{head_at, looked}
use Rattle.catalogue.specs.declared.Catalogue.{Catalogue}

-- the place of the type that has a key, or 64; a word past those of the sheet is that of no name
unfoldable pub place_of : Catalogue → ℕ → ℕ
place_of t key = cond (ltb (key / 256) t.width && not (ltb t.width (key % 256))) (count_trailing_zeros 64 (looked t key)) 64

-- a place as code has it: 64 is none
abbrev pub place_if : ℕ → Option ℕ
place_if p = then_some (ltb p 64) p

-- the key of the class of a word and a dom
abbrev pub class_key : ℕ → ℕ → ℕ
class_key word zero = word * 256 + 0
class_key word (suc d) = d * 256 + (word + 1)

unfoldable pub place_in : Catalogue → ℕ → ℕ → ℕ
place_in t word dom = place_of t (class_key word dom)

-- a class that is not declared: kind 4 (FORMAT 8.10)
unfoldable pub unknown_at : Catalogue → ℕ → ℕ → Bool
unknown_at t word dom = not (ltb (place_in t word dom) 64)

-- a declared class of another variant than a resource's: kind 5 (FORMAT 8.10)
unfoldable pub other_at : Catalogue → ℕ → ℕ → Bool
other_at t word dom = ltb (place_in t word dom) 64 && not (is_resource_head (head_at t (place_in t word dom)))
