-- For each theorem a concrete sheet, or two, that meet what it asks: no hypothesis here is empty.
use Rattle.std.specs.Prelude.{true, false, List, [], ◌∷◌, map, ◌≡◌, refl, ℕ, eqb, ltb, leb}
use Rattle.std.proofs.Common.{true≢false, sym, arith, eq-eqb, ltb-true, leb-true}
use mathlib.Core.List.Memᴰ
use mathlib.Core.List.Permᴰ
use Rattle.lists.specs.Lists.{null, any, all, list_before}
use Rattle.lists.specs.Tests.{never, any-not, all_in}
use Rattle.lists.specs.Sorting.{ascends-sorted}
use Rattle.lists.specs.Lexicographic.{list-strict}
use Rattle.definitions.specs.Records.{Name, TypeInfo, Sheet, Row}
use Rattle.definitions.specs.Comparisons.{name_before, bytes_before, dot, hyphen, spelled}
use Rattle.definitions.specs.Map.{type_map_of, line_map_of}
use Rattle.definitions.specs.Order.{last_pass, inherits_self, has_order, organize_type_map}
use Rattle.definitions.specs.OrderRows.{find_cycles_or_bad_types, order_rows}
use Rattle.definitions.specs.Ancestry.{IsSelf, HasOrder, IsOrder}
use Rattle.definitions.specs.Relisted.{end, and, Relisted}
use Rattle.definitions.specs.Cases.{run}
use Rattle.law_orders.specs.Reach.{reach, NoHyphen, reached_before}
use Rattle.law_orders.specs.Statements.{DotFree, AboveDot, Worded, WellNamed, Reaches, start, onward, CycleDiagnosis}
use Rattle.law_orders.proofs.Spelling.{spelling-is-word-order, spelling-is-one-name, above-dot-free, no-hyphen-no-reach, spelling-decides, reached-order}
use Rattle.law_orders.specs.Self.{self-is}
use Rattle.law_orders.proofs.Order.{order-exists, order-is-by-round, order-is-one, order-is-names}
use Rattle.law_orders.specs.Diagnosis.{waiting-has-row, placed-has-no-row, refusal-has-row}
use Rattle.law_orders.specs.Relisting.{relist-parents, relisted-map, relisted-order}
use Rattle.law_orders.specs.Examples.{type, sheet_with, a, b, c, tower, relisted, tower-relisted}

-- ---- the order of names

-- the words `a`, `a0`, `a_z`, `a_`, `ab`, `b`, of which the first is the beginning of four others
abbrev words : List (List ℕ)
words = (97 ∷ []) ∷ (97 ∷ 48 ∷ []) ∷ (97 ∷ 90 ∷ []) ∷ (97 ∷ 95 ∷ []) ∷ (97 ∷ 98 ∷ []) ∷ (98 ∷ []) ∷ []

words-above-dot : AboveDot words
unfolding bytes_before
words-above-dot = record {
  ascend = ascends-sorted list-strict words refl;
  filled = λ w i. any-not null {l = words} refl i;
  above = λ w i b j. ltb-true dot b (all_in (ltb dot) (all_in (all (ltb dot)) {l = words} refl i) j);
}

-- `a.b` goes before `a0` and before `a0.a`, as its words do
words-order :
    (name_before words (0 ∷ 5 ∷ []) (1 ∷ []) ≡ list_before (0 ∷ 5 ∷ []) (1 ∷ []))
    × (name_before words (1 ∷ 0 ∷ []) (0 ∷ 5 ∷ []) ≡ list_before (1 ∷ 0 ∷ []) (0 ∷ 5 ∷ []))
words-order = (
  spelling-is-word-order words words-above-dot (0 ∷ 5 ∷ []) (1 ∷ []) (omega arith, (omega arith, tt)) (omega arith, tt),
  spelling-is-word-order words words-above-dot (1 ∷ 0 ∷ []) (0 ∷ 5 ∷ []) (omega arith, (omega arith, tt)) (omega arith, (omega arith, tt)),
)

words-order-is : (name_before words (0 ∷ 5 ∷ []) (1 ∷ []) ≡ true) × (name_before words (1 ∷ 0 ∷ []) (0 ∷ 5 ∷ []) ≡ false)
unfolding name_before bytes_before
words-order-is = (refl, refl)

words-one : (n : Name) → Worded words n → spelled words n ≡ 97 ∷ 46 ∷ 97 ∷ 48 ∷ [] → n ≡ 0 ∷ 1 ∷ []
words-one n h e = spelling-is-one-name words (above-dot-free words words-above-dot) n (0 ∷ 1 ∷ []) h (omega arith, (omega arith, tt)) e

words-no-hyphen : NoHyphen words
words-no-hyphen w i b j e =
    let l = ltb-true dot b (all_in (ltb dot) (all_in (all (ltb dot)) {l = words} refl i) j) in
    absurd (omega arith)

words-reach : reach words 0 ≡ 0
words-reach = no-hyphen-no-reach words words-no-hyphen 0

-- the words `a`, `a-`, `a--`, `a-b`, `a0`, `a_`, `c`: the three behind `a` go on with a hyphen, and so does `a--` behind `a-`
abbrev hyphens : List (List ℕ)
hyphens = (97 ∷ []) ∷ (97 ∷ 45 ∷ []) ∷ (97 ∷ 45 ∷ 45 ∷ []) ∷ (97 ∷ 45 ∷ 98 ∷ []) ∷ (97 ∷ 48 ∷ []) ∷ (97 ∷ 95 ∷ []) ∷ (99 ∷ []) ∷ []

hyphens-dot-free : DotFree hyphens
unfolding bytes_before
hyphens-dot-free = record {
  ascend = ascends-sorted list-strict hyphens refl;
  filled = λ w i. any-not null {l = hyphens} refl i;
  least = λ w i b j. leb-true hyphen b (all_in (leb hyphen) (all_in (all (leb hyphen)) {l = hyphens} refl i) j);
  no_dot = λ w i b j e. never (eq-eqb b dot e) (any-not (λ b. eqb b dot) (any-not (any (λ b. eqb b dot)) {l = hyphens} refl i) j);
}

-- how far they reach
hyphens-reach : map (reach hyphens) (0 ∷ 1 ∷ 2 ∷ 3 ∷ 4 ∷ 5 ∷ 6 ∷ []) ≡ 3 ∷ 2 ∷ 2 ∷ 3 ∷ 4 ∷ 5 ∷ 6 ∷ []
unfolding reach
hyphens-reach = refl

-- of each pair the first name is spelled before the second one, and not the other way round
abbrev AllBefore : List (List ℕ) → List (Name × Name) → Type 0
AllBefore ws [] = Unit {0}
AllBefore ws (p ∷ l) = (name_before ws p.0 p.1 ≡ true) × ((name_before ws p.1 p.0 ≡ false) × AllBefore ws l)

-- `a` before `a-`, `a-b` before `a.c`, `a-b.c` before `a.c`, `a.c` before `a0`, `a--` before `a-.c`, `a-.c` before `a-b`,
-- `a.a` before `a.a-b`
hyphens-order : AllBefore hyphens
    (
    ((0 ∷ []), (1 ∷ []))
    ∷ ((3 ∷ []), (0 ∷ 6 ∷ []))
    ∷ ((3 ∷ 6 ∷ []), (0 ∷ 6 ∷ []))
    ∷ ((0 ∷ 6 ∷ []), (4 ∷ []))
    ∷ ((2 ∷ []), (1 ∷ 6 ∷ []))
    ∷ ((1 ∷ 6 ∷ []), (3 ∷ []))
    ∷ ((0 ∷ 0 ∷ []), (0 ∷ 3 ∷ []))
    ∷ []
    )
unfolding name_before bytes_before
hyphens-order = (refl, (refl, (refl, (refl, (refl, (refl, (refl, (refl, (refl, (refl, (refl, (refl, (refl, (refl, tt))))))))))))))

-- so by the law as well, where the word numbers alone would say the contrary
hyphens-by-reach : name_before hyphens (3 ∷ []) (0 ∷ 6 ∷ []) ≡ reached_before hyphens (3 ∷ []) (0 ∷ 6 ∷ [])
hyphens-by-reach = reached-order hyphens hyphens-dot-free (3 ∷ []) (0 ∷ 6 ∷ []) (omega arith, tt) (omega arith, omega arith)

hyphens-part : (reached_before hyphens (3 ∷ []) (0 ∷ 6 ∷ []) ≡ true) × (list_before (3 ∷ []) (0 ∷ 6 ∷ []) ≡ false)
unfolding reach
hyphens-part = (refl, refl)

hyphens-one : (n : Name) → Worded hyphens n → spelled hyphens n ≡ 97 ∷ 45 ∷ 46 ∷ 99 ∷ [] → n ≡ 1 ∷ 6 ∷ []
hyphens-one n h e = spelling-is-one-name hyphens hyphens-dot-free n (1 ∷ 6 ∷ []) h (omega arith, (omega arith, tt)) e

hyphens-decide : name_before hyphens (3 ∷ []) (0 ∷ 6 ∷ []) ≡ bytes_before (97 ∷ 45 ∷ 98 ∷ []) (97 ∷ 46 ∷ 99 ∷ [])
hyphens-decide = spelling-decides hyphens hyphens-dot-free (3 ∷ []) (0 ∷ 6 ∷ []) (omega arith, tt) (omega arith, (omega arith, tt))

-- ---- the order

tower-named : WellNamed tower
unfolding run
tower-named = record { words = refl; names = refl }

tower-has : HasOrder tower
unfolding run
tower-has = (order-exists tower tower-named).0 refl

tower-order : IsOrder tower (type 0 [] ∷ type 1 (a ∷ []) ∷ type 2 (b ∷ a ∷ []) ∷ [])
unfolding run
tower-order = order-is-by-round tower tower-named tower-has

-- `a` under `c`, `b` and `c` free: by name `a` would come first
abbrev turned : Sheet
turned = sheet_with (type 0 (c ∷ []) ∷ type 1 [] ∷ type 2 [] ∷ [])

turned-named : WellNamed turned
unfolding run
turned-named = record { words = refl; names = refl }

turned-has : HasOrder turned
unfolding run
turned-has = (order-exists turned turned-named).0 refl

turned-order : IsOrder turned (type 1 [] ∷ type 2 [] ∷ type 0 (c ∷ []) ∷ [])
unfolding run
turned-order = order-is-by-round turned turned-named turned-has

-- the names of whatever list is an order
turned-names : (l : List TypeInfo) → IsOrder turned l → map (λ (T : TypeInfo). T.name) l ≡ b ∷ c ∷ a ∷ []
unfolding run
turned-names l o = sym (order-is-names turned turned-named turned-has l o)

turned-one : (l : List TypeInfo) → IsOrder turned l → l ≡ type 1 [] ∷ type 2 [] ∷ type 0 (c ∷ []) ∷ []
turned-one l o = order-is-one turned l (type 1 [] ∷ type 2 [] ∷ type 0 (c ∷ []) ∷ []) o turned-order

-- `c` under `self` and `a`: every type has a place, and there is no order
abbrev selfish : Sheet
selfish = sheet_with (type 2 ((4 ∷ []) ∷ a ∷ []) ∷ type 0 [] ∷ [])

selfish-named : WellNamed selfish
unfolding run
selfish-named = record { words = refl; names = refl }

selfish-placed : null (last_pass (type_map_of selfish)).waiting ≡ true
unfolding run
selfish-placed = refl

selfish-none : HasOrder selfish → ⊥
unfolding run
selfish-none h = true≢false (sym ((order-exists selfish selfish-named).1 h))

-- ---- relisted sheets

one_map : line_map_of (type_map_of tower) ≡ line_map_of (type_map_of relisted)
one_map = relisted-map tower relisted tower-named.names tower-relisted

one-order : (has_order (type_map_of tower) ≡ has_order (type_map_of relisted)) × (organize_type_map (type_map_of tower) ≡ organize_type_map (type_map_of relisted))
one-order = relisted-order tower relisted tower-named.names tower-relisted

one-order-is : organize_type_map (type_map_of relisted) ≡ a ∷ b ∷ c ∷ []
unfolding run
one-order-is = sym one-order.1

-- `a` under itself and `b`, which is not declared: no order however the two are listed, but other rows
abbrev cyclic : Sheet
cyclic = sheet_with (type 0 (a ∷ b ∷ []) ∷ [])

abbrev cyclic_turned : Sheet
cyclic_turned = sheet_with (type 0 (b ∷ a ∷ a ∷ []) ∷ [])

cyclic-relisted : Relisted cyclic cyclic_turned
cyclic-relisted = record {
  words = refl;
  extensions = refl;
  shuffled = type 0 (a ∷ b ∷ []) ∷ [];
  shuffle = Permᴰ.cons refl Permᴰ.nil;
  types = and (relist-parents (type 0 (a ∷ b ∷ [])) (b ∷ a ∷ a ∷ []) refl refl) end;
}

cyclic-none : has_order (type_map_of cyclic_turned) ≡ false
unfolding run
cyclic-none = sym (relisted-order cyclic cyclic_turned refl cyclic-relisted).0

cyclic-rows : (map (λ (r : Row). r.kind) (order_rows (type_map_of cyclic)) ≡ 2 ∷ []) × (map (λ (r : Row). r.kind) (order_rows (type_map_of cyclic_turned)) ≡ 3 ∷ [])
unfolding run
cyclic-rows = (refl, refl)

-- ---- the diagnosis

-- `a` under `c` and `b`, `b` under `a`, `c` free: `a` and `b` wait for each other
abbrev ring : Sheet
ring = sheet_with (type 0 (c ∷ b ∷ []) ∷ type 1 (a ∷ []) ∷ type 2 [] ∷ [])

ring-named : WellNamed ring
unfolding run
ring-named = record { words = refl; names = refl }

ring-none : HasOrder ring → ⊥
unfolding run
ring-none h = true≢false (sym ((order-exists ring ring-named).1 h))

ring-cycle : CycleDiagnosis (type_map_of ring)
unfolding run
ring-cycle = refl

-- from `a` the walk reaches `b`, which waits, and `c`, which is placed
to-a : Reaches (type_map_of ring) [] (type 0 (c ∷ b ∷ []))
unfolding run
to-a = start (Memᴰ.head refl)

to-b : Reaches (type_map_of ring) (a ∷ []) (type 1 (a ∷ []))
unfolding run
to-b = onward to-a (Memᴰ.tail (Memᴰ.head refl)) refl (Memᴰ.head refl)

to-c : Reaches (type_map_of ring) (a ∷ []) (type 2 [])
unfolding run
to-c = onward to-a (Memᴰ.head refl) refl (Memᴰ.head refl)

b-has-row : null (find_cycles_or_bad_types 2 (type_map_of ring) (a ∷ []) (type 1 (a ∷ []))) ≡ false
unfolding run
b-has-row = waiting-has-row (type_map_of ring) (a ∷ []) (type 1 (a ∷ [])) to-b (Memᴰ.tail (Memᴰ.head refl)) 2 refl

c-has-none : find_cycles_or_bad_types 2 (type_map_of ring) (a ∷ []) (type 2 []) ≡ []
unfolding run
c-has-none = placed-has-no-row ring refl ring-cycle (a ∷ []) (type 2 []) to-c (Memᴰ.head refl) 2

ring-has-row : null (order_rows (type_map_of ring)) ≡ false
unfolding run
ring-has-row = refusal-has-row (type_map_of ring) refl

-- `a` under `self` and `b`, alone: `self` is listed, and the cycle diagnosis still answers, as no type was ready
abbrev alone : Sheet
alone = sheet_with (type 0 ((4 ∷ []) ∷ b ∷ []) ∷ [])

alone-self : IsSelf alone (4 ∷ [])
unfolding run
alone-self = (self-is alone refl (4 ∷ [])).0 refl

alone-lists-self : inherits_self (type_map_of alone) ≡ true
unfolding run
alone-lists-self = refl

alone-cycle : CycleDiagnosis (type_map_of alone)
unfolding run
alone-cycle = refl

alone-has-row : null (order_rows (type_map_of alone)) ≡ false
unfolding run
alone-has-row = refusal-has-row (type_map_of alone) refl
