-- What a catalogue says of a sheet's classes.
use Rattle.std.specs.Prelude.{true, ◌&&◌, cond, List, [], ◌∷◌, ◌≡◌, refl, ℕ, ◌+◌, ◌/◌, ◌%◌, ◌^◌, ◌≤◌, ◌<◌, ltb, length}
use Rattle.std.proofs.Math.Bool.{not, and-true}
use Rattle.std.proofs.Common.{sym, ◌∙◌, subst, arith}
use Rattle.std.proofs.Math.Path.{ap}
use borrow.Author.Tests.{ltb-true, ltb-false, lt-ltb, le-ltb, not-true}
use Rattle.std.specs.Int.Count.{count_trailing_zeros}
use Rattle.std.proofs.lemmas.Nat.{trailing_le}
use Rattle.lists.specs.Lists.{null}
use Rattle.lists.specs.Tests.{by, never, null-nil, and_left, and_right}
use Rattle.lists.specs.Places.{get_d-in}
use Rattle.rows.specs.Rows.{has_bit}
use Rattle.rows.specs.Next.{NextBit}
use Rattle.rows.specs.NextLaws.{next-zeros}
use Rattle.definitions.specs.Records.{Sheet}
use Rattle.definitions.specs.Map.{LineType, LineMap, line_type_of, type_map_of}
use Rattle.definitions.specs.Making.{declared, is_resource, is_resource_variant}
use Rattle.law_orders.specs.Comparisons.{same-name, name-same}
use Rattle.law_lines.specs.Statements.{Readable, line_map}
use Rattle.law_lines.specs.Within.{Within}
use Rattle.law_lines.specs.Declarations.{type-in, name-is, declared-some}
use Rattle.law_classes.specs.Sets.{no_type, type_at}
use Rattle.law_classes.specs.Numbers.{place-of}
use Rattle.law_classes.proofs.ItemLaws.{declared-self}
use Rattle.order_form.specs.Reading as ordering
use Rattle.catalogue.specs.Layout.{key_at, looked}
use Rattle.catalogue.specs.declared.Catalogue.{Catalogue}
use Rattle.catalogue.specs.Catalogue as catalogue
use Rattle.catalogue.specs.Catalogue.{Listed}
use Rattle.sheet_keys.specs.Keys.{name_of_key}
use Rattle.order_parents.specs.Known.{Looks}
use Rattle.order_parents.specs.SheetLaws.{line-count, line_at, KeyWithin, key-within, looks-of}
use Rattle.synth_classes.specs.Classes.{place_of, class_key, place_in, unknown_at, other_at}
use Rattle.synth_classes.specs.ClassLaws.{class-key}
use Rattle.synth_classes.specs.Made.{class_name}

-- The catalogue has the types of the sheet's map.
pub record Known (s : Sheet) (t : Catalogue) : Type 0 where
  pub readable : Readable s
  pub within : Within s
  pub listed : Listed s t

-- The type at a place below 64, or none.
abbrev pub type_if : LineMap → ℕ → List LineType
type_if m p = cond (ltb p 64) (type_at m p ∷ []) []

module _ (s : Sheet) (t : Catalogue) (k : Known s t) where
  abbrev m : LineMap
  m = line_map s

  abbrev n : ℕ
  n = length m.types

  -- the name of the type at a place is that of its key
  pub name-known : (a : ℕ) → a < n → name_of_key (key_at t a % 65536) ≡ (type_at m a).name
  unfolding name_of_key catalogue.name_of_key
  name-known a h =
      let e = k.listed.entry a h in
      let q : key_at t a % 65536 ≡ key_at t a = omega (arith, e.key) in
      ap name_of_key q ∙ e.name

  -- ---- the type that has a key

  -- no type has a name with a word past those of the sheet
  undeclared : (key : ℕ) → (KeyWithin (length s.words) key → ⊥) → declared m (name_of_key key) ≡ []
  undeclared key h =
      by (null (declared m (name_of_key key)))
      (λ e. null-nil (declared m (name_of_key key)) e)
      (λ e.
      let d = declared-some s k.readable (name_of_key key) e in
      absurd (h (key-within (length s.words) key (subst (λ c. Rattle.law_lines.specs.Within.NameWithin (length s.words) c) d.2 (k.within.type d.0 d.1).name))))

  module _ (key : ℕ) (w : KeyWithin (length s.words) key) where
    abbrev set : ℕ
    set = looked t key

    abbrev p : ℕ
    p = count_trailing_zeros 64 set

    looks : Looks (type_map_of s) t key
    looks = looks-of s t key k.within k.listed w

    walked : NextBit set 0 p
    walked =
        let e : set / 2 ^ 0 ≡ set = omega arith in
        let a : 0 + count_trailing_zeros 64 set ≡ p = omega arith in
        subst (NextBit set 0) (ap (λ (y : ℕ). 0 + count_trailing_zeros 64 y) e ∙ a) (next-zeros set 0 (omega (arith, trailing_le 64 (set / 2 ^ 0))))

    -- where a bit stands, a type has that name
    named-bit : (b : ℕ) → has_bit set b ≡ true → (b < n) × ((type_at m b).name ≡ name_of_key key)
    named-bit b e =
        let q = sym (looks.bits b) ∙ e in
        let l = ltb-true b (length (type_map_of s).types) (and_left _ _ q) in
        let c = same-name (name_of_key key) (ordering.type_at (type_map_of s) b).name (and_right (ltb b (length (type_map_of s).types)) _ q) in
        (omega (arith, line-count s, l), ap (λ (D : LineType). D.name) (line_at s b l) ∙ name-is (ordering.type_at (type_map_of s) b) ∙ sym c)

    bit-named : (b : ℕ) → b < n → (type_at m b).name ≡ name_of_key key → has_bit set b ≡ true
    bit-named b h e =
        let l : b < length (type_map_of s).types = omega (arith, line-count s) in
        let c : name_of_key key ≡ (ordering.type_at (type_map_of s) b).name = sym e ∙ ap (λ (D : LineType). D.name) (line_at s b l) ∙ name-is (ordering.type_at (type_map_of s) b) in
        looks.bits b ∙ rw (lt-ltb b (length (type_map_of s).types) l) (name-same c)

    found : p < 64 → (p < n) × (declared m (name_of_key key) ≡ type_at m p ∷ [])
    found h =
        let q = named-bit p (walked.some h) in
        (q.0, ap (declared m) (sym q.1) ∙ declared-self s k.readable k.within (get_d-in m.types no_type p q.0))

    missing : 64 ≤ p → declared m (name_of_key key) ≡ []
    missing h =
        by (null (declared m (name_of_key key)))
        (λ e. null-nil (declared m (name_of_key key)) e)
        (λ e.
        let d = declared-some s k.readable (name_of_key key) e in
        let i = place-of no_type (line_type_of d.0) m.types (type-in s d.1) in
        let b = bit-named i.0 i.1 (ap (λ (D : LineType). D.name) i.2 ∙ name-is d.0 ∙ d.2) in
        never b (walked.none i.0 (omega arith) (omega (arith, i.1, k.listed.few))))

  pub type-known : (key : ℕ) → declared m (name_of_key key) ≡ type_if m (place_of t key)
  unfolding place_of
  type-known key =
      let width = k.listed.width in
      by (ltb (key / 256) t.width && not (ltb t.width (key % 256)))
      (λ e.
      let a = ltb-true (key / 256) t.width (and_left _ _ e) in
      let b = ltb-false t.width (key % 256) (not-true _ (and_right (ltb (key / 256) t.width) _ e)) in
      let w : KeyWithin (length s.words) key = record { first = omega (arith, width, a); second = omega (arith, width, b) } in
      rw e
      (by (ltb (count_trailing_zeros 64 (looked t key)) 64)
      (λ q. rw q (found key w (ltb-true _ _ q)).1)
      (λ q. rw q (missing key w (ltb-false _ _ q)))))
      (λ e.
      rw e
      (undeclared key
      (λ w. never (rw (lt-ltb (key / 256) t.width (omega (arith, width, w.first)), le-ltb t.width (key % 256) (omega (arith, width, w.second))) refl) e)))

  pub place-known : (key : ℕ) → place_of t key < 64 → place_of t key < n
  unfolding place_of
  place-known key h =
      let width = k.listed.width in
      by (ltb (key / 256) t.width && not (ltb t.width (key % 256)))
      (λ e.
      let a = ltb-true (key / 256) t.width (and_left _ _ e) in
      let b = ltb-false t.width (key % 256) (not-true _ (and_right (ltb (key / 256) t.width) _ e)) in
      let w : KeyWithin (length s.words) key = record { first = omega (arith, width, a); second = omega (arith, width, b) } in
      rw e (found key w (rw e at h)).0)
      (λ e. absurd (omega (arith, rw e at h)))

  -- ---- the class of a dom and a word

  pub class-known : (word dom : ℕ) → word < 255 → declared m (class_name word dom) ≡ type_if m (place_in t word dom)
  unfolding place_in
  class-known word dom h = ap (declared m) (sym (class-key word dom h)) ∙ type-known (class_key word dom)

  pub class_low : (word dom : ℕ) → place_in t word dom < 64 → place_in t word dom < n
  unfolding place_in
  class_low word dom h = place-known (class_key word dom) h

  pub unknown-known : (word dom : ℕ) → word < 255 → unknown_at t word dom ≡ null (declared m (class_name word dom))
  unfolding unknown_at
  unknown-known word dom h =
      rw (class-known word dom h)
      (by (ltb (place_in t word dom) 64) (λ e. rw e) (λ e. rw e))

  pub other-known : (word dom : ℕ) → word < 255 → other_at t word dom ≡ not (is_resource m (class_name word dom))
  unfolding other_at
  other-known word dom h =
      rw (class-known word dom h)
      (by (ltb (place_in t word dom) 64)
      (λ e.
      let l = class_low word dom (ltb-true _ _ e) in
      rw (e, (k.listed.entry (place_in t word dom) l).is_resource) (ap not (sym (and-true (is_resource_variant (type_at m (place_in t word dom)).variant)))))
      (λ e. rw e))
