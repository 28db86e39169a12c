-- Sheets that are relisted, and others, on which the theorems are tried: proofs/Examples.antt.
use Rattle.std.specs.Prelude.{false, List, [], ◌∷◌, refl, ℕ}
use mathlib.Core.List.Permᴰ
use Rattle.definitions.specs.Records.{Name, TypeInfo, domain, Sheet}
use Rattle.definitions.specs.Checks.{resource_bytes, self_bytes}
use Rattle.definitions.specs.Relisted.{end, and, Relisted}
use Rattle.law_orders.specs.Relisting.{relist-parents}

-- a type of which only the name and the parents matter
abbrev pub type : ℕ → List Name → TypeInfo
type w ps = record { name = w ∷ []; variant = domain; virtual = false; trait = false; parents = ps; annotations = []; marks = [] }

-- the words `a`, `b`, `c`, `resource`, `self`, and such types
abbrev pub sheet_with : List TypeInfo → Sheet
sheet_with ts = record { words = (97 ∷ []) ∷ (98 ∷ []) ∷ (99 ∷ []) ∷ resource_bytes ∷ self_bytes ∷ []; types = ts; extensions = [] }

abbrev pub a : Name
a = 0 ∷ []

abbrev pub b : Name
b = 1 ∷ []

abbrev pub c : Name
c = 2 ∷ []

-- `c` under `b` and `a`, `b` under `a`
abbrev pub tower : Sheet
tower = sheet_with (type 2 (b ∷ a ∷ []) ∷ type 1 (a ∷ []) ∷ type 0 [] ∷ [])

-- the records shuffled, the parents of `c` reordered and repeated, that of `b` repeated
abbrev pub relisted : Sheet
relisted = sheet_with (type 0 [] ∷ type 2 (a ∷ b ∷ a ∷ []) ∷ type 1 (a ∷ a ∷ []) ∷ [])

pub tower-relisted : Relisted tower relisted
tower-relisted = record {
  words = refl;
  extensions = refl;
  shuffled = type 0 [] ∷ type 2 (b ∷ a ∷ []) ∷ type 1 (a ∷ []) ∷ [];
  shuffle = Permᴰ.trans (Permᴰ.cons refl (Permᴰ.swap refl refl)) (Permᴰ.swap refl refl);
  types =
      and (relist-parents (type 0 []) [] refl refl)
      (and (relist-parents (type 2 (b ∷ a ∷ [])) (a ∷ b ∷ a ∷ []) refl refl)
      (and (relist-parents (type 1 (a ∷ [])) (a ∷ a ∷ []) refl refl) end));
}
