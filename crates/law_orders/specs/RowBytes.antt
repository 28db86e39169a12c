-- A row of a diagnosis has six bytes.
use Rattle.std.specs.Prelude.{List, [], ◌∷◌, ◌++◌, ◌≡◌, refl, ◌*◌, length}
use Rattle.std.proofs.Common.{arith, length-append}
use Rattle.lists.specs.Lists.{each}
use Rattle.definitions.specs.Records.{Name, Row}
use Rattle.definitions.specs.Packing.{name_bytes, word_byte, row_bytes}

two : (n : Name) → length (name_bytes n) ≡ 2
two [] = refl
two (a ∷ []) = refl
two (a ∷ b ∷ c) = refl

pub six : (r : Row) → length (row_bytes r) ≡ 6
unfolding row_bytes
six r =
    let e = length-append (name_bytes r.subject) (name_bytes r.other ++ (word_byte r.word ∷ [])) in
    let f = length-append (name_bytes r.other) (word_byte r.word ∷ []) in
    omega (arith, e, f, two r.subject, two r.other)

pub bytes-of-rows : (rs : List Row) → length (each row_bytes rs) ≡ 6 * length rs
bytes-of-rows [] = refl
bytes-of-rows (r ∷ rs) = omega (arith, length-append (row_bytes r) (each row_bytes rs), six r, bytes-of-rows rs)
