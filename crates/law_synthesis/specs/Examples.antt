-- For each theorem a concrete instance that meets what it asks, computed; and the two sheets that show why rows and refused
-- types agree only for the whole map.
use Rattle.std.specs.Prelude.{true, false, ◌≡◌, refl, ℕ, ◌≤◌, ltb, length, replicate}
use mathlib.Core.List.Memᴰ
use mathlib.Core.List.{List, [], ◌∷◌, ◌++◌, Permᴰ, map}
use Rattle.std.proofs.Math.Option.{Option, none, some}
use Rattle.std.proofs.Common.{sym, subst}
use Rattle.lists.specs.Lists.{all, each, ascends, filter}
use Rattle.lists.specs.Tests.{never, cons-elim, all_in}
use Rattle.lists.specs.Sorting.{ascends-sorted}
use Rattle.definitions.specs.Records.{Name, Dom, Resource, AssociatedResource, associate, nest_associate, inherit, derive, AnnotationInfo, Annotation, domain, resource, TypeInfo, Sheet, Item, synthesized, extension, Row}
use Rattle.definitions.specs.Bits.{bits_of}
use Rattle.definitions.specs.Parse.{done}
use Rattle.definitions.specs.Reading.{sheet}
use Rattle.definitions.specs.Comparisons.{name_before, dom_before}
use Rattle.definitions.specs.Checks.{resource_bytes, self_bytes}
use Rattle.definitions.specs.Map.{type_map_of}
use Rattle.definitions.specs.Annotations.{intersection, difference}
use Rattle.definitions.specs.Inherited.{InheritedAnnotation, dedup, own_associates, as_associate, under, handed_on}
use Rattle.definitions.specs.Synthesis.{synthesis}
use Rattle.definitions.specs.Items.{items_of}
use Rattle.definitions.specs.Ancestry.{HasOrder}
use Rattle.definitions.specs.Lines.{Refused}
use Rattle.definitions.specs.Cases.{hex, run}
use Rattle.law_orders.specs.Comparisons.{name-strict, dom-strict}
use Rattle.law_orders.proofs.Order.{order-exists}
use Rattle.law_lines.specs.Statements.{line_map, Accepted, is_refused, any_refused}
use Rattle.lists.specs.Members.{map-sorted}
use Rattle.lists.specs.Strict.{number-strict}
use Rattle.law_lines.specs.Reading.{read-is-within}
use Rattle.law_lines.proofs.Refused.{refused-is-tested}
use Rattle.law_synthesis.specs.Statements.{is_plain, Parted, IsAssociate, AllAssociates, Deduped, words_given, Ordered, HandsOn, Inherits, inherited_by, MakesLines}
use Rattle.law_synthesis.specs.Annotations.{parted}
use Rattle.law_synthesis.specs.Dedup.{dedup-merges}
use Rattle.law_synthesis.specs.Again.{merged-again}
use Rattle.law_synthesis.specs.Kinds.{other-kinds-apart}
use Rattle.law_synthesis.specs.Handing.{each-hands-on, handed-step, each-inherits}
use Rattle.law_synthesis.specs.Bounds.{entries-at-most}
use Rattle.law_synthesis.specs.Rows.{rows-are-tested, rows-are-refusals, synthesis-makes-items, synthesis-makes-lines}

-- ---- names

-- the words `a`, `c`, `f`, `g`, `p`, `q`, `resource`, `self`, `zz`
abbrev pub words : List (List ℕ)
words = (97 ∷ []) ∷ (99 ∷ []) ∷ (102 ∷ []) ∷ (103 ∷ []) ∷ (112 ∷ []) ∷ (113 ∷ []) ∷ resource_bytes ∷ self_bytes ∷ (122 ∷ 122 ∷ []) ∷ []

abbrev pub a : ℕ
a = 0

abbrev pub c : ℕ
c = 1

abbrev pub f : ℕ
f = 2

abbrev pub g : ℕ
g = 3

abbrev pub p : ℕ
p = 4

abbrev pub q : ℕ
q = 5

abbrev pub zz : ℕ
zz = 8

abbrev pub one : ℕ → Name
one w = w ∷ []

-- ---- intersection and difference

abbrev uses : ℕ → List Dom → AssociatedResource
uses w ds = record { word = w; doms = ds }

-- f and g beside q.g and p
abbrev left_resources : List AssociatedResource
left_resources = uses f ([] ∷ []) ∷ uses g ([] ∷ []) ∷ []

abbrev right_resources : List AssociatedResource
right_resources = uses g (one q ∷ []) ∷ uses p ([] ∷ []) ∷ []

abbrev some_associate : List AssociatedResource → Option AnnotationInfo
some_associate us = some (associate us)

shares-g : intersection (associate left_resources) (associate right_resources) ≡ some_associate (uses g ([] ∷ one q ∷ []) ∷ [])
unfolding run
shares-g = refl

leaves-f : difference (associate left_resources) (associate right_resources) ≡ some_associate (uses f ([] ∷ []) ∷ [])
unfolding run
leaves-f = refl

leaves-p : difference (associate right_resources) (associate left_resources) ≡ some_associate (uses p ([] ∷ []) ∷ [])
unfolding run
leaves-p = refl

parts-g : Parted (associate left_resources) (associate right_resources)
parts-g = parted (associate left_resources) (associate right_resources)

-- an equal Derive, an equal Inherit stay on both sides; an Associate and a NestAssociate of one word do not part
abbrev tag : AnnotationInfo
tag = derive 7

derive-stays : (intersection tag tag ≡ none) × (difference tag tag ≡ some tag)
unfolding run
derive-stays = (refl, refl)

abbrev named : AnnotationInfo
named = inherit (one p ∷ [])

inherit-stays : (intersection named named ≡ none) × (difference named named ≡ some named)
unfolding run
inherit-stays = (refl, refl)

nested-stays : (intersection (associate left_resources) (nest_associate left_resources) ≡ none)
    × (difference (associate left_resources) (nest_associate left_resources) ≡ some_associate left_resources)
unfolding run
nested-stays = (refl, refl)

-- ---- the dedup

abbrev from : ℕ → List AssociatedResource → InheritedAnnotation
from P us = record { annotation = associate us; parents = one P ∷ [] }

abbrev two_parents : List InheritedAnnotation
two_parents = from q left_resources ∷ from p right_resources ∷ []

-- rest, what is shared, the newcomer's rest
two-merged : dedup words two_parents
    ≡ from q (uses f ([] ∷ []) ∷ []) ∷ record { annotation = associate (uses g ([] ∷ one q ∷ []) ∷ []); parents = one p ∷ one q ∷ [] } ∷ from p (uses p ([] ∷ []) ∷ []) ∷ []
unfolding run
two-merged = refl

-- the form, tested
tested : (us : List AssociatedResource) (ps : List Name) → ascends ltb (map (λ (u : AssociatedResource). u.word) us) ≡ true
    → all (λ (u : AssociatedResource). ascends dom_before u.doms) us ≡ true → ascends (name_before words) ps ≡ true → IsAssociate words (record { annotation = associate us; parents = ps })
tested us ps w d n = record {
  resources = us;
  is = refl;
  words = map-sorted (λ r s. ltb r s ≡ true) (λ (u : AssociatedResource). u.word) us (ascends-sorted number-strict (map (λ (u : AssociatedResource). u.word) us) w);
  doms = λ u i. ascends-sorted dom-strict u.doms (all_in (λ (u : AssociatedResource). ascends dom_before u.doms) d i);
  parents = ascends-sorted (name-strict words) ps n;
}

two-associates : AllAssociates words two_parents
unfolding run
two-associates e i =
    cons-elim i
    (λ x. subst (IsAssociate words) (sym x) (tested left_resources (one q ∷ []) refl refl refl))
    (λ j. cons-elim j (λ x. subst (IsAssociate words) (sym x) (tested right_resources (one p ∷ []) refl refl refl)) (λ k. absurd (Memᴰ.not-nil k)))

two-deduped : Deduped words two_parents (dedup words two_parents)
two-deduped = dedup-merges words two_parents two-associates

two-again : dedup words (two_parents ++ two_parents) ≡ dedup words two_parents
unfolding run
two-again = merged-again words two_parents two_parents two-associates (λ e i. i) f (Memᴰ.head refl)

-- a Derive between them stays where it is, and the Associates are the same without it
abbrev mixed : List InheritedAnnotation
mixed = from q left_resources ∷ record { annotation = tag; parents = one q ∷ [] } ∷ from p right_resources ∷ []

mixed-merged : length (dedup words mixed) ≡ 4
unfolding run
mixed-merged = refl

mixed-apart : filter is_plain (dedup words mixed) ≡ dedup words two_parents
mixed-apart = other-kinds-apart words mixed

-- an Associate without resources stands if nothing else comes: one entry, no word
abbrev no_words : List InheritedAnnotation
no_words = from p [] ∷ []

no-words-stands : (dedup words no_words ≡ no_words) × (words_given no_words ≡ [])
unfolding run
no-words-stands = (refl, refl)

-- and then goes with the next, so without a word to merge again can change the list
no-words-gone : dedup words (no_words ++ no_words) ≡ []
unfolding run
no-words-gone = refl

-- ---- sheets

abbrev pub domain_type : ℕ → List ℕ → List Annotation → TypeInfo
domain_type w ps as' = record { name = one w; variant = domain; virtual = false; trait = false; parents = map one ps; annotations = as'; marks = [] }

abbrev pub resource_type : Name → TypeInfo
resource_type n = record { name = n; variant = resource; virtual = false; trait = false; parents = []; annotations = []; marks = [] }

abbrev pub use' : Dom → ℕ → Resource
use' d w = record { word = w; dom = d }

abbrev pub sheet_of : List TypeInfo → Sheet
sheet_of ts = record { words = words; types = ts; extensions = [] }

-- ---- an accepted map: `a` under `p` and `q`, both under `zz`, which associates `f`; `p` nests `c.f` and associates `g`

abbrev pub type_a : TypeInfo
type_a = domain_type a (q ∷ p ∷ q ∷ []) []

abbrev pub type_p : TypeInfo
type_p = domain_type p (zz ∷ []) (nest_associate (use' (one c) f ∷ []) ∷ associate (use' [] g ∷ []) ∷ [])

abbrev pub type_q : TypeInfo
type_q = domain_type q (zz ∷ []) []

abbrev pub type_zz : TypeInfo
type_zz = domain_type zz [] (associate (use' [] f ∷ []) ∷ [])

abbrev pub diamond : Sheet
diamond = sheet_of (type_a ∷ type_p ∷ type_q ∷ type_zz ∷ resource_type (one f) ∷ resource_type (one g) ∷ resource_type (c ∷ f ∷ []) ∷ [])

diamond-ordered : Ordered diamond
unfolding run
diamond-ordered = record { readable = record { words = refl; once = refl }; order = refl }

diamond-order : HasOrder diamond
unfolding run
diamond-order = (order-exists diamond (record { words = refl; names = refl })).0 refl

-- what `p` hands on: its own associates, the nested one as an Associate, then what it inherits
p-hands : handed_on (type_map_of diamond) type_p
    ≡ from p (uses g ([] ∷ []) ∷ []) ∷ from p (uses f (one c ∷ []) ∷ []) ∷ from p (uses f ([] ∷ []) ∷ []) ∷ []
unfolding run
p-hands = refl

p-hands-on : HandsOn diamond type_p (handed_on (type_map_of diamond) type_p)
p-hands-on = each-hands-on diamond diamond-ordered type_p (Memᴰ.tail (Memᴰ.head refl))

p-hands-step : handed_on (type_map_of diamond) type_p
    ≡ map (λ a. under (one p) (as_associate a)) (own_associates type_p) ++ map (λ (e : InheritedAnnotation). under (one p) e.annotation) (inherited_by (type_map_of diamond) type_p)
p-hands-step = handed-step diamond diamond-ordered type_p (Memᴰ.tail (Memᴰ.head refl))

-- what `a` inherits: `f` from both, with both doms, though only `p` has it nested; `g` from `p`
a-inherits : inherited_by (type_map_of diamond) type_a
    ≡ record { annotation = associate (uses f ([] ∷ one c ∷ []) ∷ []); parents = one p ∷ one q ∷ [] } ∷ from p (uses g ([] ∷ []) ∷ []) ∷ []
unfolding run
a-inherits = refl

a-inherits-above : Inherits diamond type_a (inherited_by (type_map_of diamond) type_a)
a-inherits-above = each-inherits diamond diamond-ordered type_a

diamond-no-rows : (synthesis (type_map_of diamond)).rows ≡ []
unfolding run
diamond-no-rows = refl

diamond-tested : any_refused (line_map diamond) ≡ false
diamond-tested = (rows-are-tested diamond diamond-ordered).0 diamond-no-rows

diamond-accepted : Accepted diamond
diamond-accepted = (rows-are-refusals diamond diamond-ordered.readable diamond-order).0 diamond-no-rows

-- the synthesis makes them ancestors first, the items stand in name order
abbrev makes' : ℕ → ℕ → List Name → List Item
makes' T r ps = synthesized (one T) r false (ps ++ one 6 ∷ []) [] ∷ extension (one T) false false r ∷ []

diamond-made : (synthesis (type_map_of diamond)).items
    ≡ makes' zz f (one f ∷ [])
    ++ (makes' q f ((zz ∷ f ∷ []) ∷ [])
    ++ (makes' p g (one g ∷ [])
    ++ (makes' p f ((zz ∷ f ∷ []) ∷ []) ++ (makes' a f ((p ∷ f ∷ []) ∷ (q ∷ f ∷ []) ∷ []) ++ makes' a g ((p ∷ g ∷ []) ∷ [])))))
unfolding run
diamond-made = refl

diamond-items : items_of (line_map diamond)
    ≡ makes' a f ((p ∷ f ∷ []) ∷ (q ∷ f ∷ []) ∷ [])
    ++ (makes' a g ((p ∷ g ∷ []) ∷ [])
    ++ (makes' p f ((zz ∷ f ∷ []) ∷ []) ++ (makes' p g (one g ∷ []) ++ (makes' q f ((zz ∷ f ∷ []) ∷ []) ++ makes' zz f (one f ∷ [])))))
unfolding run
diamond-items = refl

diamond-same : Permᴰ (synthesis (type_map_of diamond)).items (items_of (line_map diamond))
diamond-same = synthesis-makes-items diamond diamond-ordered diamond-no-rows

diamond-lines : MakesLines diamond (synthesis (type_map_of diamond)).items
diamond-lines = synthesis-makes-lines diamond diamond-ordered.readable diamond-order diamond-no-rows

-- as bytes
abbrev pub diamond_bytes : List ℕ
diamond_bytes = hex 64 0x1090b0858c2cc1670b805c50e4cae6deeae4c6ca473656c6613d3d070001828100a0008010812102809103005008400040004881001100001900000c09000000

diamond-read : sheet (bits_of diamond_bytes) ≡ done diamond (replicate 5 false)
unfolding run
diamond-read = refl

diamond-few : (length (inherited_by (type_map_of diamond) type_p) ≤ 9) × (length (handed_on (type_map_of diamond) type_p) ≤ 21)
diamond-few =
    entries-at-most diamond diamond-ordered (read-is-within (bits_of diamond_bytes) (replicate 5 false) diamond diamond-read) type_p (Memᴰ.tail (Memᴰ.head refl))

-- ---- rows and refused types differ type by type

abbrev row_of : ℕ → ℕ → List Name → ℕ → Row
row_of k T cs r = record { kind = k; subject = one T; other = each (λ n. n) cs; word = r ∷ [] }

-- a refused type without a row: `p` associates `f` and the undeclared `zz`; its child `c` gets nothing from the failed call
abbrev pub type_c : TypeInfo
type_c = domain_type c (p ∷ []) []

abbrev pub failed_parent : Sheet
failed_parent = sheet_of (type_c ∷ domain_type p [] (associate (use' [] f ∷ []) ∷ associate (use' [] zz ∷ []) ∷ []) ∷ resource_type (one f) ∷ [])

failed-ordered : Ordered failed_parent
unfolding run
failed-ordered = record { readable = record { words = refl; once = refl }; order = refl }

failed-rows : (synthesis (type_map_of failed_parent)).rows ≡ row_of 4 p (one zz ∷ []) zz ∷ []
unfolding run
failed-rows = refl

failed-refused : Refused failed_parent type_c
unfolding run is_refused
failed-refused = (refused-is-tested failed_parent failed-ordered.readable type_c).0 refl

-- a row of a type that is not refused: `q` fails, so `p.f` alone stands above a.f, which `a` has already
abbrev type_over : TypeInfo
type_over = domain_type a (p ∷ q ∷ []) (associate (use' (one p) f ∷ []) ∷ [])

abbrev row_unrefused : Sheet
row_unrefused =
    sheet_of
    (type_over
    ∷ resource_type (one f)
    ∷ resource_type (one g)
    ∷ domain_type p [] (nest_associate (use' [] f ∷ []) ∷ [])
    ∷ resource_type (p ∷ f ∷ [])
    ∷ domain_type q [] (nest_associate (use' [] f ∷ []) ∷ associate (use' [] g ∷ []) ∷ [])
    ∷ resource_type (q ∷ g ∷ [])
    ∷ [])

unrefused-ordered : Ordered row_unrefused
unfolding run
unrefused-ordered = record { readable = record { words = refl; once = refl }; order = refl }

unrefused-rows : (synthesis (type_map_of row_unrefused)).rows ≡ row_of 6 q [] g ∷ row_of 6 a [] f ∷ []
unfolding run
unrefused-rows = refl

unrefused : Refused row_unrefused type_over → ⊥
unfolding run is_refused
unrefused h = never ((refused-is-tested row_unrefused unrefused-ordered.readable type_over).1 h) refl
