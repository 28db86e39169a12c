-- The makings of a type, as the code holds them, read as the definitions' items.
use Rattle.std.specs.Prelude.{Bool, not, List, [], ◌≡◌, ℕ, zero, suc, ◌+◌, ◌<◌, length, get_or}
use Rattle.lists.specs.Lists.{any, null}
use Rattle.bounded.specs.declared.UpTo.{UpTo}
use Rattle.rows.specs.declared.Row.{Row}
use Rattle.rows.specs.Rows.{empty}
use Rattle.definitions.specs.Records.{Item, Sheet}
use Rattle.definitions.specs.Comparisons.{dotted}
use Rattle.definitions.specs.Map.{LineMap}
use Rattle.definitions.specs.Making.{declared, same_item}
use Rattle.definitions.specs.Synthesis.{is_duplicate, with_making}
use Rattle.law_lines.specs.Statements.{line_map}
use Rattle.law_classes.specs.Sets.{type_at}
use Rattle.catalogue.specs.declared.Catalogue.{Catalogue}
use Rattle.synth_classes.specs.declared.site.Site.{Site}
use Rattle.synth_classes.specs.declared.Origin.{Origin}
use Rattle.synth_classes.specs.Made.{created}
use Rattle.synth_classes.specs.Known.{Known}
use Rattle.synth_duplicates.specs.declared.Making.{Making}

abbrev pub Makings : Type 0
Makings = UpTo Making 380

-- what a read past the end gives
abbrev pub no_making : Making
no_making = record { word = 0; origin = record { doms = empty; parents = 0 } }

-- the i-th making: its word, its doms, and the direct parents that it comes from
abbrev pub making_at : Makings → ℕ → Making
making_at h i = get_or h.items i no_making

abbrev pub word_at : Makings → ℕ → ℕ
word_at h i = (making_at h i).word

abbrev pub doms_at : Makings → ℕ → Row
doms_at h i = (making_at h i).origin.doms

abbrev pub parents_at : Makings → ℕ → ℕ
parents_at h i = (making_at h i).origin.parents

-- the items of the first n makings, each with its extension line, of which there is one for each word
unfoldable pub held_items : LineMap → ℕ → Makings → ℕ → List Item
held_items m T h zero = []
held_items m T h (suc n) = with_making (type_at m T) (word_at h n) (created m T (word_at h n) (doms_at h n) (parents_at h n)) (held_items m T h n)

-- r has one making more than h
pub record Keeps (h : Makings) (word : ℕ) (doms : Row) (ps : ℕ) (r : Makings) : Type 0 where
  pub count : r.count ≡ h.count + 1
  pub items : (m : LineMap) (T : ℕ) → held_items m T r r.count ≡ with_making (type_at m T) word (created m T word doms ps) (held_items m T h h.count)

-- ---- the answers, right for every sheet whose catalogue it is

-- T.r is declared
pub record Declared (t : Catalogue) (T word : ℕ) (r : Bool) : Type 0 where
  pub right : (s : Sheet) → Known s t → T < length (line_map s).types → r ≡ not (null (declared (line_map s) (dotted (type_at (line_map s) T).name word)))

-- the making x is identical to that of the site's word
pub record SameAs (t : Catalogue) (site : Site) (o : Origin) (x : Making) (r : Bool) : Type 0 where
  pub right : (s : Sheet) → Known s t → site.place < length (line_map s).types
      → r ≡ same_item (created (line_map s) site.place site.word o.doms o.parents) (created (line_map s) site.place x.word x.origin.doms x.origin.parents)

-- one of the first n makings is identical
pub record Made (t : Catalogue) (site : Site) (o : Origin) (h : Makings) (n : ℕ) (r : Bool) : Type 0 where
  pub right : (s : Sheet) → Known s t → site.place < length (line_map s).types
      → r ≡ any (same_item (created (line_map s) site.place site.word o.doms o.parents)) (held_items (line_map s) site.place h n)

-- the making is a duplicate
pub record Repeated (t : Catalogue) (site : Site) (o : Origin) (h : Makings) (n : ℕ) (r : Bool) : Type 0 where
  pub right : (s : Sheet) → Known s t → site.place < length (line_map s).types
      → r ≡ is_duplicate (line_map s) (type_at (line_map s) site.place) site.word (created (line_map s) site.place site.word o.doms o.parents) (held_items (line_map s) site.place h n)
