-- A map with a name of two words: `a`, `b`, `c.file`, `file`. Its names as two arrays, and an empty catalogue.
use Rattle.std.specs.Prelude.{List, ◌∷◌, ◌≡◌, refl, ℕ, ◌<◌, get_or, replicate}
use Rattle.std.proofs.Common.{inl, inr, arith}
use Rattle.lists.specs.Places.{zero-at}
use Rattle.lists.specs.Tests.{never}
use Rattle.definitions.specs.Cases.{run}
use Rattle.fields.specs.Fields.{two_words}
use Rattle.law_orders.specs.Comparisons.{name-same}
use Rattle.law_lines.specs.Statements.{line_map}
use Rattle.law_classes.specs.Sets.{type_at}
use Rattle.law_classes.proofs.Instance.{accepted, four}
use Rattle.catalogue.specs.Layout.{blank}
use Rattle.item_names.specs.Names.{NoSets}
use Rattle.item_names.specs.Named.{WordOrNone, Named}

pub blank-sets : NoSets blank
unfolding blank
blank-sets = record { first = λ w h. zero-at 256 w; second = λ w h. zero-at 256 w }

abbrev firsts : List ℕ
firsts = 0 ∷ 1 ∷ 2 ∷ 3 ∷ replicate 60 0

abbrev seconds : List ℕ
seconds = 255 ∷ 255 ∷ 3 ∷ 255 ∷ replicate 60 0

-- types at two places whose names are equal
abbrev Once : ℕ → ℕ → Type 0
Once a b = (type_at (line_map accepted) a).name ≡ (type_at (line_map accepted) b).name → a ≡ b

pub accepted-named : Named (line_map accepted) 6 firsts seconds
unfolding run
accepted-named = record {
  few = omega arith;
  narrow = omega arith;
  name = four (λ a. (type_at (line_map accepted) a).name ≡ two_words (get_or firsts a 0) (get_or seconds a 0)) refl refl refl refl;
  first = four (λ a. get_or firsts a 0 < 6) (omega arith) (omega arith) (omega arith) (omega arith);
  second = four (λ a. WordOrNone 6 (get_or seconds a 0)) (inl refl) (inl refl) (inr (omega arith)) (inl refl);
  once = λ a b h k.
      four (λ a. Once a b)
      (four (Once 0) (λ e. refl) (λ e. never (name-same e) refl) (λ e. never (name-same e) refl) (λ e. never (name-same e) refl) b k)
      (four (Once 1) (λ e. never (name-same e) refl) (λ e. refl) (λ e. never (name-same e) refl) (λ e. never (name-same e) refl) b k)
      (four (Once 2) (λ e. never (name-same e) refl) (λ e. never (name-same e) refl) (λ e. refl) (λ e. never (name-same e) refl) b k)
      (four (Once 3) (λ e. never (name-same e) refl) (λ e. never (name-same e) refl) (λ e. never (name-same e) refl) (λ e. refl) b k)
      a h;
}
