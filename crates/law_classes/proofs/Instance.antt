-- Two sheets: what the laws ask is no empty demand, and the test by sets decides them.
use Rattle.std.specs.Prelude.{true, false, List, [], ◌∷◌, map, ◌≡◌, refl, ℕ, zero, suc, ◌<◌, replicate}
use Rattle.std.proofs.Common.{◌∙◌, arith}
use mathlib.Core.List.Memᴰ
use Rattle.lists.specs.Lists.{insert, sort}
use Rattle.lists.specs.Tests.{cons-elim}
use Rattle.lists.specs.Members.{map-sorted}
use Rattle.lists.specs.Sorting.{ascends-sorted}
use Rattle.definitions.specs.Comparisons.{name_before, dom_before, bytes_before}
use Rattle.definitions.specs.Map.{LineType, LineMap}
use Rattle.law_orders.specs.Comparisons.{name-strict}
use Rattle.definitions.specs.Records.{Name, Resource, associate, nest_associate, Annotation, makelist_mark, derive_mark, Mark, domain, resource, TypeInfo, Sheet}
use Rattle.definitions.specs.Bits.{bits_of}
use Rattle.definitions.specs.Parse.{done}
use Rattle.definitions.specs.Reading.{sheet}
use Rattle.definitions.specs.Checks.{resource_bytes, self_bytes}
use Rattle.definitions.specs.Items.{items_of}
use Rattle.definitions.specs.Cases.{hex, run}
use Rattle.law_lines.specs.Statements.{Readable, line_map, any_refused}
use Rattle.law_lines.specs.Reading.{read-is-within}
use Rattle.law_lines.specs.Within.{Within}
use Rattle.law_classes.specs.Sets.{masked, named, own_set, given_set, above_set, passed_set, classes_in, made_set, set_items}
use Rattle.law_classes.specs.Refusal.{unmet, has_child, lost_class, taken_name, own_twice, firsts, identical, crosses, set_refused}
use Rattle.law_classes.proofs.SetLaws.{Plain}
use Rattle.law_classes.proofs.RefusalLaws.{refused-by-sets}
use Rattle.law_classes.proofs.ItemLaws.{items-by-sets}

abbrev domain_type : ℕ → List Name → List Annotation → TypeInfo
domain_type w ps as' = record { name = w ∷ []; variant = domain; virtual = false; trait = false; parents = ps; annotations = as'; marks = [] }

abbrev resource_type : Name → List Mark → TypeInfo
resource_type n ms = record { name = n; variant = resource; virtual = false; trait = false; parents = []; annotations = []; marks = ms }

abbrev use' : ℕ → List ℕ → Resource
use' w d = record { word = w; dom = d }

-- ---- an accepted map: `b` under `a`; `a` associates `file` and nests `c.file`, `b` associates `file`. The class `c.file` stands before `file`.
-- Places: a 0, b 1, c.file 2, file 3.

abbrev pub accepted : Sheet
accepted = record {
  words = (97 ∷ []) ∷ (98 ∷ []) ∷ (99 ∷ []) ∷ (102 ∷ 105 ∷ 108 ∷ 101 ∷ []) ∷ resource_bytes ∷ self_bytes ∷ [];
  types =
      domain_type 1 ((0 ∷ []) ∷ []) (associate (use' 3 [] ∷ []) ∷ [])
      ∷ domain_type 0 [] (associate (use' 3 [] ∷ []) ∷ nest_associate (use' 3 (2 ∷ []) ∷ []) ∷ [])
      ∷ resource_type (3 ∷ []) (makelist_mark ∷ [])
      ∷ resource_type (2 ∷ 3 ∷ []) (derive_mark 7 ∷ [])
      ∷ [];
  extensions = [];
}

pub accepted-readable : Readable accepted
unfolding run
accepted-readable = record { words = refl; once = refl }

accepted-read : sheet (bits_of (hex 49 0x1060b085882c6466696c6543932b9b7bab931b291cd95b198200804002440c000004440c840e0400c80040503400307000)) ≡ done accepted (replicate 6 false)
unfolding run
accepted-read = refl

pub accepted-within : Within accepted
accepted-within = read-is-within (bits_of (hex 49 0x1060b085882c6466696c6543932b9b7bab931b291cd95b198200804002440c000004440c840e0400c80040503400307000)) (replicate 6 false) accepted accepted-read

-- by sets no type is refused, so by the definitions none is
accepted-sets : set_refused (line_map accepted) ≡ false
unfolding run unmet has_child lost_class taken_name own_twice firsts identical crosses set_refused named own_set above_set passed_set classes_in made_set given_set
accepted-sets = refl

pub accepted-tested : any_refused (line_map accepted) ≡ false
accepted-tested = refused-by-sets accepted accepted-readable accepted-within ∙ accepted-sets

accepted-items : items_of (line_map accepted) ≡ set_items 6 (line_map accepted)
accepted-items = items-by-sets accepted accepted-readable accepted-within accepted-tested

-- ---- a map refused for two identical makings: `p` nests `q.f`, `t` under `p` associates `p.f`; both classes have the same marks

abbrev pub crossed : Sheet
crossed = record {
  words = (102 ∷ []) ∷ (112 ∷ []) ∷ (113 ∷ []) ∷ resource_bytes ∷ self_bytes ∷ (116 ∷ []) ∷ [];
  types =
      domain_type 5 ((1 ∷ []) ∷ []) (associate (use' 0 (1 ∷ []) ∷ []) ∷ [])
      ∷ domain_type 1 [] (nest_associate (use' 0 (2 ∷ []) ∷ []) ∷ [])
      ∷ resource_type (1 ∷ 0 ∷ []) (makelist_mark ∷ [])
      ∷ resource_type (2 ∷ 0 ∷ []) (makelist_mark ∷ [])
      ∷ [];
  extensions = [];
}

pub crossed-readable : Readable crossed
unfolding run
crossed-readable = record { words = refl; once = refl }

crossed-read : sheet (bits_of (hex 45 0x1060b305c02e287265736f75726365239b2b63305d020280404244020200400284020400600800405004002000)) ≡ done crossed (replicate 6 false)
unfolding run
crossed-read = refl

pub crossed-within : Within crossed
crossed-within = read-is-within (bits_of (hex 45 0x1060b305c02e287265736f75726365239b2b63305d020280404244020200400284020400600800405004002000)) (replicate 6 false) crossed crossed-read

crossed-sets : set_refused (line_map crossed) ≡ true
unfolding run unmet has_child lost_class taken_name own_twice firsts identical crosses set_refused named own_set above_set passed_set classes_in made_set given_set
crossed-sets = refl

pub crossed-tested : any_refused (line_map crossed) ≡ true
crossed-tested = refused-by-sets crossed crossed-readable crossed-within ∙ crossed-sets

-- ---- words with hyphens: `f`, `a.f` and `a-b.f` are the classes of `f` in this order, while `a-b.f` goes before `a.f` by name
-- (FORMAT 1.4, 1.6)

abbrev class_type : Name → LineType
class_type n = record { name = n; variant = resource; virtual = false; trait = false; inherits = λ p. false; annotations = []; marks = [] }

abbrev hyphened : LineMap
hyphened = record {
  words = (97 ∷ []) ∷ (97 ∷ 45 ∷ 98 ∷ []) ∷ (102 ∷ []) ∷ resource_bytes ∷ self_bytes ∷ [];
  resource = 3;
  types = class_type (1 ∷ 2 ∷ []) ∷ class_type (0 ∷ 2 ∷ []) ∷ class_type (2 ∷ []) ∷ [];
  extensions = [];
}

hyphened-plain : Plain hyphened
unfolding name_before bytes_before
hyphened-plain = record {
  short = λ D i. cons-elim i (λ e. rw e refl) (λ j. cons-elim j (λ e. rw e refl) (λ k. cons-elim k (λ e. rw e refl) (λ l. absurd (Memᴰ.not-nil l))));
  ascend =
      map-sorted (λ (a b : Name). name_before hyphened.words a b ≡ true) (λ (D : LineType). D.name) hyphened.types
      (ascends-sorted (name-strict hyphened.words) (map (λ (D : LineType). D.name) hyphened.types) refl);
}

hyphened-classes : map (λ (C : LineType). C.name) (classes_in hyphened (masked 2)) ≡ (2 ∷ []) ∷ (0 ∷ 2 ∷ []) ∷ (1 ∷ 2 ∷ []) ∷ []
unfolding classes_in sort insert dom_before
hyphened-classes = refl

-- what holds at the four places
pub four : (P : ℕ → Type 0) → P 0 → P 1 → P 2 → P 3 → (t : ℕ) → t < 4 → P t
four P a b c d zero h = a
four P a b c d (suc zero) h = b
four P a b c d (suc (suc zero)) h = c
four P a b c d (suc (suc (suc zero))) h = d
four P a b c d (suc (suc (suc (suc t)))) h = absurd (omega arith)
