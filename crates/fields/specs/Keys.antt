-- The key of a name, and the name of a key.
use Rattle.std.specs.Prelude.{ℕ, ◌+◌, ◌*◌, ◌/◌, ◌%◌}
use Rattle.fields.specs.declared.Name.{Name}

-- the key of a name
abbrev pub key_of : Name → ℕ
key_of n = n.first * 256 + (n.second + 1) % 256

-- the words of a key, 255 for one that it lacks
abbrev pub first_of : ℕ → ℕ
first_of key = key / 256 % 256

abbrev pub second_of : ℕ → ℕ
second_of key = (key % 256 + 255) % 256

-- the name of a key
abbrev pub name_with : ℕ → Name
name_with key = record { first = first_of key; second = second_of key }
