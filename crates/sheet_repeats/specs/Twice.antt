-- What is compared for refusal 6.
use Rattle.std.specs.Prelude.{Bool, not, ◌||◌, List, ℕ, ◌≤◌, eqb, take}
use Rattle.lists.specs.Lists.{any, repeats, ascends}
use Rattle.lists.specs.Tabulating.{tabulate}
use Rattle.sheet_same.specs.Repeats.{type_repeats}
use Rattle.sheet_draft.specs.declared.Decoding.{Decoding}
use Rattle.sheet_draft.specs.declared.Draft.{Draft}
use Rattle.sheet_draft.specs.declared.entry.Entry.{Entry}
use Rattle.sheet_draft.specs.Draft.{types_in}
use Rattle.catalogue.specs.declared.Catalogue.{Catalogue}
use Rattle.catalogue.specs.Layout.{extension_key_at}

-- Two entries have two keys.
abbrev pub apart : Entry → Entry → Bool
apart e f = not (eqb e.key f.key)

-- The keys of the first n extension records (FORMAT 2.10).
unfoldable pub keys_in : Catalogue → ℕ → List ℕ
keys_in t n = tabulate (extension_key_at t) n

-- Not more than a sheet can have (FORMAT 2.2).
pub record Few (n : Decoding) : Type 0 where
  pub width : n.width ≤ 255
  pub count : n.count ≤ 64
  pub extensions : n.extensions ≤ 32

-- Two neighbours in name order have one name, two extension records one key, or a type repeats something (FORMAT 2.12).
abbrev pub twice_in : Decoding → List Bool → Draft → List Entry → Catalogue → Bool
twice_in n bs d entries t =
    not (ascends apart (take n.count entries))
    || (repeats eqb (keys_in t n.extensions) || any type_repeats (types_in n.width bs d n.count))
