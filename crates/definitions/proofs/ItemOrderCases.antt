-- The sentences of FORMAT 5.3, read off the order that is declared: each on items that differ in one thing.
use Rattle.std.specs.Prelude.{false, List, [], ◌∷◌, ℕ}
use Rattle.std.proofs.Common.{inl, inr, arith}
use Rattle.std.proofs.Math.Path.{refl}
use Rattle.definitions.specs.Records.{Name, TypeInfo, Extension, Sheet, Item, synthesized, extension}
use Rattle.definitions.specs.Comparisons.{name_before, bytes_before}
use Rattle.definitions.specs.ItemOrder.{Part, PartOf, NamesBefore, ItemBefore}

-- a resource, and an extension line, of a type and a word
abbrev made : Name → ℕ → List Name → Item
made n r ps = synthesized n r false ps []

abbrev line : Name → ℕ → Item
line n r = extension n false false r

-- the words `a` to `d`, and any map over them
abbrev words : List (List ℕ)
words = (97 ∷ []) ∷ (98 ∷ []) ∷ (99 ∷ []) ∷ (100 ∷ []) ∷ []

module _ (types : List TypeInfo) (extensions : List Extension) where
  abbrev s : Sheet
  s = record { words = words; types = types; extensions = extensions }

  -- types by name, one word before two, whatever their words and parts
  by-type : ItemBefore s (line (1 ∷ []) 7) (made (1 ∷ 0 ∷ []) 3 [])
  unfolding name_before bytes_before
  by-type = ItemBefore.type refl

  -- within a type words ascend, whatever their parts
  by-word : ItemBefore s (line (1 ∷ []) 3) (made (1 ∷ []) 7 [])
  by-word = ItemBefore.word refl (omega arith)

  -- within a word by part, whatever the parents
  module _ (ps qs : List Name) where
    own-inherited : PartOf s (made (1 ∷ []) 3 ps) Part.own → PartOf s (made (1 ∷ []) 3 qs) Part.inherited
        → ItemBefore s (made (1 ∷ []) 3 ps) (made (1 ∷ []) 3 qs)
    own-inherited h g = ItemBefore.part refl refl Part.own Part.inherited h g (omega arith)

    inherited-line : PartOf s (made (1 ∷ []) 3 ps) Part.inherited → PartOf s (line (1 ∷ []) 3) Part.line
        → ItemBefore s (made (1 ∷ []) 3 ps) (line (1 ∷ []) 3)
    inherited-line h g = ItemBefore.part refl refl Part.inherited Part.line h g (omega arith)

  -- own resources by the first parent that differs: `2.3` goes before `3`, as names do
  by-parents : (ps qs : List Name) → PartOf s (made (1 ∷ []) 3 ((2 ∷ 3 ∷ []) ∷ ps)) Part.own
      → PartOf s (made (1 ∷ []) 3 ((3 ∷ []) ∷ qs)) Part.own
      → ItemBefore s (made (1 ∷ []) 3 ((2 ∷ 3 ∷ []) ∷ ps)) (made (1 ∷ []) 3 ((3 ∷ []) ∷ qs))
  unfolding name_before bytes_before
  by-parents ps qs h g = ItemBefore.parents refl refl h g (inl refl)

-- a list of names before its extensions
shorter-first : NamesBefore words ((3 ∷ []) ∷ []) ((3 ∷ []) ∷ (0 ∷ []) ∷ [])
shorter-first = inr (refl, tt)

-- the words `a`, `a-b`, `c`, `f`, and any map over them
abbrev hyphens : List (List ℕ)
hyphens = (97 ∷ []) ∷ (97 ∷ 45 ∷ 98 ∷ []) ∷ (99 ∷ []) ∷ (102 ∷ []) ∷ []

module _ (types : List TypeInfo) (extensions : List Extension) where
  abbrev h : Sheet
  h = record { words = hyphens; types = types; extensions = extensions }

  -- types by their spelling: `a-b` before `a.c`, though the word `a` goes before the word `a-b`
  by-spelling : ItemBefore h (line (1 ∷ []) 3) (made (0 ∷ 2 ∷ []) 3 [])
  unfolding name_before bytes_before
  by-spelling = ItemBefore.type refl

  -- own resources so too: `a-b.f` before `a.f`
  parents-by-spelling : (ps qs : List Name) → PartOf h (made (2 ∷ []) 3 ((1 ∷ 3 ∷ []) ∷ ps)) Part.own
      → PartOf h (made (2 ∷ []) 3 ((0 ∷ 3 ∷ []) ∷ qs)) Part.own
      → ItemBefore h (made (2 ∷ []) 3 ((1 ∷ 3 ∷ []) ∷ ps)) (made (2 ∷ []) 3 ((0 ∷ 3 ∷ []) ∷ qs))
  unfolding name_before bytes_before
  parents-by-spelling ps qs f g = ItemBefore.parents refl refl f g (inl refl)
