-- Each construct of a sheet is read from the bits that it is written in, within 01's limits, and from no others.
use Rattle.std.proofs.Math.Bool.{Bool, true, false}
use Rattle.std.specs.Prelude.{◌&&◌, ◌||◌, ◌≡◌, refl, eqb, leb, length, get_or}
use mathlib.Core.List.{List, [], ◌∷◌, ◌++◌, append-nil}
use Rattle.std.proofs.Common.{⊎_elim, ap}
use Prim.Native.Nat.{ℕ, zero, suc, ◌-◌, ◌≤◌, ◌<◌}
use native.Mathlib.Omega.{arith}
use borrow.Author.Tests.{lt-ltb, ltb-true, le-leb, leb-true, eq-eqb, eqb-true}
use Rattle.std.proofs.Math.Dec.{ltb}
use Rattle.lists.specs.Lists.{each}
use Rattle.lists.specs.Tests.{and_left, and_right, and_both, or_cases, or_left, or_right}
use Rattle.definitions.specs.Bits.{to_bits}
use Rattle.definitions.specs.Records.{Name, make_list, associate, nest_associate, alias, inherit, derive, no_derive, Annotation, Variant, domain, resource, other, Mark, makelist_mark, derive_mark, TypeInfo, Sheet}
use Rattle.definitions.specs.Comparisons.{hyphen}
use Rattle.definitions.specs.Parse.{not_allowed, ◌>>=◌, pure, refuse, choose, field, allowed, counted}
use Rattle.definitions.specs.Reading.{is_first_byte, is_word_byte, word, word_field, word_if_flag, name, associated, associated_list, kinds, annotation, mark, variant, type_info, extension, sheet}
use Rattle.definitions.specs.Packing.{counted_bits, word_if_flag_bits, name_bits, mark_bits}
use Rattle.definitions.specs.Legal.{Every, Counted, LegalFirst, upper, lower, digit, underscore, LegalByte, begins, joins, LegalWord, LegalWordIfAny, LegalName, LegalResource, LegalResources, LegalAnnotation, LegalMark, LegalType, LegalExtension, WithinLimits}
use Rattle.definitions.specs.Encoding.{word_bits, resource_bits, content_bits, annotation_bits, variant_bits, type_bits, extension_bits, sheet_bits}
use Rattle.law_reading.specs.Parsers.{Reads, Only, Exact, Codes, reads-pure, reads_end, reads-next, reads-last, only-pure, only-refuse, only-choose, only_next, only-last, field_codes, allowed-codes, codes_same, between-codes, flag-codes, repeat-codes, counted-codes}

-- ---- words

first-legal : (b : ℕ) → is_first_byte b ≡ true → LegalFirst b
unfolding is_first_byte
first-legal b e =
    ⊎_elim
    (λ h. upper (leb-true 65 b (and_left (leb 65 b) (leb b 90) h)) (leb-true b 90 (and_right (leb 65 b) (leb b 90) h)))
    (λ e.
    ⊎_elim
    (λ h. lower (leb-true 97 b (and_left (leb 97 b) (leb b 122) h)) (leb-true b 122 (and_right (leb 97 b) (leb b 122) h)))
    (λ e.
    ⊎_elim
    (λ h. digit (leb-true 48 b (and_left (leb 48 b) (leb b 57) h)) (leb-true b 57 (and_right (leb 48 b) (leb b 57) h)))
    (λ h. underscore (eqb-true b 95 h))
    (or_cases (leb 48 b && leb b 57) (eqb b 95) e))
    (or_cases (leb 97 b && leb b 122) ((leb 48 b && leb b 57) || eqb b 95) e))
    (or_cases (leb 65 b && leb b 90) ((leb 97 b && leb b 122) || ((leb 48 b && leb b 57) || eqb b 95)) e)

legal-first : (b : ℕ) → LegalFirst b → is_first_byte b ≡ true
unfolding is_first_byte
legal-first b (upper h k) = or_left ((leb 97 b && leb b 122) || ((leb 48 b && leb b 57) || eqb b 95)) (and_both (le-leb 65 b h) (le-leb b 90 k))
legal-first b (lower h k) = or_right (leb 65 b && leb b 90) (or_left ((leb 48 b && leb b 57) || eqb b 95) (and_both (le-leb 97 b h) (le-leb b 122 k)))
legal-first b (digit h k) = or_right (leb 65 b && leb b 90) (or_right (leb 97 b && leb b 122) (or_left (eqb b 95) (and_both (le-leb 48 b h) (le-leb b 57 k))))
legal-first b (underscore e) = or_right (leb 65 b && leb b 90) (or_right (leb 97 b && leb b 122) (or_right (leb 48 b && leb b 57) (eq-eqb b 95 e)))

first_small : (b : ℕ) → LegalFirst b → b < 256
first_small b (upper h k) = omega arith
first_small b (lower h k) = omega arith
first_small b (digit h k) = omega arith
first_small b (underscore e) = omega arith

byte-legal : (b : ℕ) → is_word_byte b ≡ true → LegalByte b
unfolding is_word_byte
byte-legal b e = ⊎_elim (λ h. begins (first-legal b h)) (λ h. joins (eqb-true b hyphen h)) (or_cases (is_first_byte b) (eqb b hyphen) e)

legal-byte : (b : ℕ) → LegalByte b → is_word_byte b ≡ true
unfolding is_word_byte
legal-byte b (begins h) = or_left (eqb b hyphen) (legal-first b h)
legal-byte b (joins e) = or_right (is_first_byte b) (eq-eqb b hyphen e)

byte_small : (b : ℕ) → LegalByte b → b < 256
byte_small b (begins h) = first_small b h
byte_small b (joins e) = omega arith

first-codes : Codes (allowed 8 is_first_byte) (to_bits 8) LegalFirst
first-codes = codes_same LegalFirst (λ b h. first-legal b h.1) (λ b h. (first_small b h, legal-first b h)) (allowed-codes 8 is_first_byte)

byte-codes : Codes (allowed 8 is_word_byte) (to_bits 8) LegalByte
byte-codes = codes_same LegalByte (λ b h. byte-legal b h.1) (λ b h. (byte_small b h, legal-byte b h)) (allowed-codes 8 is_word_byte)

pub word-codes : Codes word word_bits LegalWord
unfolding word word_bits
word-codes = record { back = back; only = only }
  where
    back : (w : List ℕ) → LegalWord w → Reads word w (word_bits w)
    back [] h = absurd h
    back (b ∷ w) h =
        let few = h.1.few in
        reads-next (between-codes 5 1 31 (omega arith)) _ (suc (length w)) (b ∷ w) (to_bits 8 b ++ each (to_bits 8) w) (omega arith, omega arith)
        (reads-next first-codes _ b (b ∷ w) (each (to_bits 8) w) h.0
        (reads-last (repeat-codes byte-codes (suc (length w) - 1)) (λ bs. b ∷ bs) w (omega arith, h.1.every)))

    written : (n b : ℕ) (w : List ℕ) → (1 ≤ n) × (n ≤ 31) → LegalFirst b → (length w ≡ n - 1) × Every LegalByte w
        → Exact word_bits LegalWord (b ∷ w) (to_bits 5 n ++ (to_bits 8 b ++ each (to_bits 8) w))
    written n b w k h t =
        let e : n ≡ suc (length w) = omega (arith, k.0, t.0) in (
          ap (λ (m : ℕ). to_bits 5 m ++ (to_bits 8 b ++ each (to_bits 8) w)) e,
          (h, record { enough = omega arith; few = omega (arith, k.1); every = t.1 }),
        )

    only : Only word (Exact word_bits LegalWord)
    only =
        only_next (between-codes 5 1 31 (omega arith)) _ (Exact word_bits LegalWord)
        (λ n k.
        only_next first-codes _ (λ w ys. Exact word_bits LegalWord w (to_bits 5 n ++ ys))
        (λ b h.
        only-last (repeat-codes byte-codes (n - 1)) (λ bs. b ∷ bs) (λ w ys. Exact word_bits LegalWord w (to_bits 5 n ++ (to_bits 8 b ++ ys)))
        (λ w t. written n b w k h t)))

-- ---- marks and variants

pub mark-codes : Codes mark mark_bits LegalMark
unfolding mark mark_bits
mark-codes = record { back = back; only = only_next flag-codes _ (Exact mark_bits LegalMark) (λ b u. go b) }
  where
    back : (a : Mark) → LegalMark a → Reads mark a (mark_bits a)
    back makelist_mark h = reads-next flag-codes _ false makelist_mark [] tt (reads-pure makelist_mark)
    back (derive_mark t) h = reads-next flag-codes _ true (derive_mark t) (to_bits 8 t) tt (reads-last (field_codes 8) (λ t. derive_mark t) t h)

    go : (b : Bool) → Only (choose b (field 8 >>= λ t. pure (derive_mark t)) (pure makelist_mark)) (λ a ys. Exact mark_bits LegalMark a (b ∷ ys))
    go true = only-last (field_codes 8) (λ t. derive_mark t) (λ a ys. Exact mark_bits LegalMark a (true ∷ ys)) (λ t h. (refl, h))
    go false = only-pure (λ a ys. Exact mark_bits LegalMark a (false ∷ ys)) makelist_mark (refl, tt)

pub variant-codes : Codes variant variant_bits (λ v. Unit {0})
unfolding variant variant_bits
variant-codes = record { back = back; only = only_next (field_codes 2) _ (Exact variant_bits (λ v. Unit {0})) (λ k h. go k) }
  where
    back : (v : Variant) → Unit {0} → Reads variant v (variant_bits v)
    back domain u = reads_end (field 2) _ 0 domain (to_bits 2 0) ((field_codes 2).back 0 (omega arith)) (reads-pure domain)
    back resource u = reads_end (field 2) _ 1 resource (to_bits 2 1) ((field_codes 2).back 1 (omega arith)) (reads-pure resource)
    back other u = reads_end (field 2) _ 2 other (to_bits 2 2) ((field_codes 2).back 2 (omega arith)) (reads-pure other)

    go : (k : ℕ) → Only (get_or (pure domain ∷ pure resource ∷ pure other ∷ []) k (refuse not_allowed)) (λ v ys. Exact variant_bits (λ v. Unit {0}) v (to_bits 2 k ++ ys))
    go zero = only-pure (λ v ys. Exact variant_bits (λ v. Unit {0}) v (to_bits 2 0 ++ ys)) domain (append-nil (to_bits 2 0), tt)
    go (suc zero) = only-pure (λ v ys. Exact variant_bits (λ v. Unit {0}) v (to_bits 2 1 ++ ys)) resource (append-nil (to_bits 2 1), tt)
    go (suc (suc zero)) = only-pure (λ v ys. Exact variant_bits (λ v. Unit {0}) v (to_bits 2 2 ++ ys)) other (append-nil (to_bits 2 2), tt)
    go (suc (suc (suc k))) = only-refuse (λ v ys. Exact variant_bits (λ v. Unit {0}) v (to_bits 2 (suc (suc (suc k))) ++ ys))

-- ---- names and what holds them

module _ (W : ℕ) (small : W ≤ 256) where
  pub word_field-codes : Codes (word_field W) (to_bits 8) (λ w. w < W)
  unfolding word_field
  word_field-codes = codes_same (λ w. w < W) (λ w h. ltb-true w W h.1) (λ w h. (omega arith, lt-ltb w W h)) (allowed-codes 8 (λ w. ltb w W))

  pub word_if_flag-codes : Codes (word_if_flag W) word_if_flag_bits (LegalWordIfAny W)
  unfolding word_if_flag
  word_if_flag-codes = record { back = back; only = only_next flag-codes _ (Exact word_if_flag_bits (LegalWordIfAny W)) (λ b u. go b) }
    where
      back : (l : List ℕ) → LegalWordIfAny W l → Reads (word_if_flag W) l (word_if_flag_bits l)
      back [] h = reads-next flag-codes _ false [] [] tt (reads-pure [])
      back (w ∷ []) h = reads-next flag-codes _ true (w ∷ []) (to_bits 8 w) tt (reads-last word_field-codes (λ w. w ∷ []) w h)
      back (w ∷ v ∷ l) h = absurd h

      go : (b : Bool) → Only (choose b (word_field W >>= λ w. pure (w ∷ [])) (pure [])) (λ a ys. Exact word_if_flag_bits (LegalWordIfAny W) a (b ∷ ys))
      go true = only-last word_field-codes (λ w. w ∷ []) (λ a ys. Exact word_if_flag_bits (LegalWordIfAny W) a (true ∷ ys)) (λ w h. (refl, h))
      go false = only-pure (λ a ys. Exact word_if_flag_bits (LegalWordIfAny W) a (false ∷ ys)) [] (refl, tt)

  pub name-codes : Codes (name W) name_bits (LegalName W)
  unfolding name name_bits
  name-codes = record {
    back = back;
    only =
        only_next word_field-codes _ (Exact name_bits (LegalName W))
        (λ a h. only-last word_if_flag-codes (λ b. a ∷ b) (λ n ys. Exact name_bits (LegalName W) n (to_bits 8 a ++ ys)) (λ b g. (refl, (h, g))));
  }
    where
      back : (n : Name) → LegalName W n → Reads (name W) n (name_bits n)
      back [] h = absurd h
      back (a ∷ b) h = reads-next word_field-codes _ a (a ∷ b) (word_if_flag_bits b) h.0 (reads-last word_if_flag-codes (λ b. a ∷ b) b h.1)

  pub associated-codes : Codes (associated W) resource_bits (LegalResource W)
  unfolding associated resource_bits
  associated-codes = record {
    back = λ r h.
        reads-next word_field-codes _ r.word r (word_if_flag_bits r.dom) h.word
        (reads-last word_if_flag-codes (λ d. record { word = r.word; dom = d }) r.dom h.dom);
    only =
        only_next word_field-codes _ (Exact resource_bits (LegalResource W))
        (λ w h.
        only-last word_if_flag-codes (λ d. record { word = w; dom = d }) (λ r ys. Exact resource_bits (LegalResource W) r (to_bits 8 w ++ ys))
        (λ d g. (refl, record { word = h; dom = g })));
  }

  pub associated_list-codes : Codes (associated_list W) (counted_bits 4 resource_bits) (LegalResources W)
  unfolding associated_list
  associated_list-codes = counted-codes associated-codes 4 0 15 (omega arith)

  names-codes : (least most : ℕ) → most < 16 → Codes (counted 4 least most (name W)) (counted_bits 4 name_bits) (Counted least most (LegalName W))
  names-codes least most h = counted-codes name-codes 4 least most h

  -- ---- annotations

  module _ (n : Name) where
    ExactAnnotation : Annotation → List Bool → Type 0
    ExactAnnotation a xs = Exact annotation_bits (LegalAnnotation W n) a xs

    kind-reads : (a : Annotation) → LegalAnnotation W n a → Reads (annotation W (eqb (length n) 1)) a (annotation_bits a)
    unfolding annotation annotation_bits content_bits kinds
    kind-reads make_list h = reads-next (field_codes 3) _ 0 make_list [] (omega arith) (reads-pure make_list)
    kind-reads (associate rs) h =
        reads-next (field_codes 3) _ 1 (associate rs) (counted_bits 4 resource_bits rs) (omega arith) (reads-last associated_list-codes (λ rs. associate rs) rs h)
    kind-reads (nest_associate rs) h =
        reads-next (field_codes 3) _ 2 (nest_associate rs) (counted_bits 4 resource_bits rs) (omega arith)
        (rw (eq-eqb (length n) 1 h.0) (reads-last associated_list-codes (λ rs. nest_associate rs) rs h.1))
    kind-reads (alias w) h = reads-next (field_codes 3) _ 3 (alias w) (to_bits 8 w) (omega arith) (reads-last word_field-codes (λ w. alias w) w h)
    kind-reads (inherit ns) h =
        reads-next (field_codes 3) _ 4 (inherit ns) (counted_bits 4 name_bits ns) (omega arith) (reads-last (names-codes 0 15 (omega arith)) (λ ns. inherit ns) ns h)
    kind-reads (derive t) h = reads-next (field_codes 3) _ 5 (derive t) (to_bits 8 t) (omega arith) (reads-last (field_codes 8) (λ t. derive t) t h)
    kind-reads no_derive h = reads-next (field_codes 3) _ 6 no_derive [] (omega arith) (reads-pure no_derive)

    kind-only : (k : ℕ) → Only (get_or (kinds W (eqb (length n) 1)) k (refuse not_allowed)) (λ a ys. ExactAnnotation a (to_bits 3 k ++ ys))
    unfolding annotation_bits content_bits kinds ExactAnnotation
    kind-only zero = only-pure (λ a ys. ExactAnnotation a (to_bits 3 0 ++ ys)) make_list (refl, tt)
    kind-only (suc zero) = only-last associated_list-codes (λ rs. associate rs) (λ a ys. ExactAnnotation a (to_bits 3 1 ++ ys)) (λ rs h. (refl, h))
    kind-only (suc (suc zero)) =
        only-choose (eqb (length n) 1) (associated_list W >>= λ rs. pure (nest_associate rs)) (refuse not_allowed) (λ a ys. ExactAnnotation a (to_bits 3 2 ++ ys))
        (λ e. only-last associated_list-codes (λ rs. nest_associate rs) (λ a ys. ExactAnnotation a (to_bits 3 2 ++ ys)) (λ rs h. (refl, (eqb-true (length n) 1 e, h))))
        (λ e. only-refuse (λ a ys. ExactAnnotation a (to_bits 3 2 ++ ys)))
    kind-only (suc (suc (suc zero))) = only-last word_field-codes (λ w. alias w) (λ a ys. ExactAnnotation a (to_bits 3 3 ++ ys)) (λ w h. (refl, h))
    kind-only (suc (suc (suc (suc zero)))) =
        only-last (names-codes 0 15 (omega arith)) (λ ns. inherit ns) (λ a ys. ExactAnnotation a (to_bits 3 4 ++ ys)) (λ ns h. (refl, h))
    kind-only (suc (suc (suc (suc (suc zero))))) = only-last (field_codes 8) (λ t. derive t) (λ a ys. ExactAnnotation a (to_bits 3 5 ++ ys)) (λ t h. (refl, h))
    kind-only (suc (suc (suc (suc (suc (suc zero)))))) = only-pure (λ a ys. ExactAnnotation a (to_bits 3 6 ++ ys)) no_derive (refl, tt)
    kind-only (suc (suc (suc (suc (suc (suc (suc k))))))) = only-refuse (λ a ys. ExactAnnotation a (to_bits 3 (suc (suc (suc (suc (suc (suc (suc k))))))) ++ ys))

    pub annotation-codes : Codes (annotation W (eqb (length n) 1)) annotation_bits (LegalAnnotation W n)
    unfolding annotation ExactAnnotation
    annotation-codes = record { back = kind-reads; only = only_next (field_codes 3) _ (Exact annotation_bits (LegalAnnotation W n)) (λ k h. kind-only k) }

  -- ---- types and extensions

  marks-codes : Codes (counted 3 0 7 mark) (counted_bits 3 mark_bits) (Counted 0 7 LegalMark)
  marks-codes = counted-codes mark-codes 3 0 7 (omega arith)

  annotations-codes : (n : Name) → Codes (counted 4 0 12 (annotation W (eqb (length n) 1))) (counted_bits 4 annotation_bits) (Counted 0 12 (LegalAnnotation W n))
  annotations-codes n = counted-codes (annotation-codes n) 4 0 12 (omega arith)

  pub type-codes : Codes (type_info W) type_bits (LegalType W)
  unfolding type_info type_bits
  type-codes = record {
    back = λ T h.
        let ms = counted_bits 3 mark_bits T.marks in
        let as' = counted_bits 4 annotation_bits T.annotations ++ ms in
        let ps = counted_bits 4 name_bits T.parents ++ as' in
        reads-next name-codes _ T.name T _ h.name
        (reads-next variant-codes _ T.variant T (T.virtual ∷ T.trait ∷ ps) tt
        (reads-next flag-codes _ T.virtual T (T.trait ∷ ps) tt
        (reads-next flag-codes _ T.trait T ps tt
        (reads-next (names-codes 0 8 (omega arith)) _ T.parents T as' h.parents
        (reads-next (annotations-codes T.name) _ T.annotations T ms h.annotations
        (reads-last marks-codes
        (λ ms. record { name = T.name; variant = T.variant; virtual = T.virtual; trait = T.trait; parents = T.parents; annotations = T.annotations; marks = ms })
        T.marks h.marks))))));
    only =
        let S : TypeInfo → List Bool → Type 0 = Exact type_bits (LegalType W) in
        only_next name-codes _ S
        (λ n h.
        let S1 : TypeInfo → List Bool → Type 0 = λ T ys. S T (name_bits n ++ ys) in
        only_next variant-codes _ S1
        (λ v u.
        let S2 : TypeInfo → List Bool → Type 0 = λ T ys. S1 T (variant_bits v ++ ys) in
        only_next flag-codes _ S2
        (λ virtual u.
        only_next flag-codes _ (λ T ys. S2 T (virtual ∷ ys))
        (λ trait u.
        let S3 : TypeInfo → List Bool → Type 0 = λ T ys. S2 T (virtual ∷ trait ∷ ys) in
        only_next (names-codes 0 8 (omega arith)) _ S3
        (λ ps hp.
        let S4 : TypeInfo → List Bool → Type 0 = λ T ys. S3 T (counted_bits 4 name_bits ps ++ ys) in
        only_next (annotations-codes n) _ S4
        (λ as' ha.
        only-last marks-codes
        (λ ms. record { name = n; variant = v; virtual = virtual; trait = trait; parents = ps; annotations = as'; marks = ms })
        (λ T ys. S4 T (counted_bits 4 annotation_bits as' ++ ys))
        (λ ms hm. (refl, record { name = h; parents = hp; annotations = ha; marks = hm }))))))));
  }

  pub extension-codes : Codes (extension W) extension_bits (LegalExtension W)
  unfolding extension extension_bits
  extension-codes = record {
    back = λ e h.
        reads-next name-codes _ e.name e (to_bits 8 e.word ++ counted_bits 4 name_bits e.parents) h.name
        (reads-next word_field-codes _ e.word e (counted_bits 4 name_bits e.parents) h.word
        (reads-last (names-codes 1 8 (omega arith)) (λ ps. record { name = e.name; word = e.word; parents = ps }) e.parents h.parents));
    only =
        only_next name-codes _ (Exact extension_bits (LegalExtension W))
        (λ n h.
        only_next word_field-codes _ (λ e ys. Exact extension_bits (LegalExtension W) e (name_bits n ++ ys))
        (λ w g.
        only-last (names-codes 1 8 (omega arith)) (λ ps. record { name = n; word = w; parents = ps })
        (λ e ys. Exact extension_bits (LegalExtension W) e (name_bits n ++ (to_bits 8 w ++ ys)))
        (λ ps k. (refl, record { name = h; word = g; parents = k }))));
  }

-- ---- the sheet

words-codes : Codes (counted 8 2 200 word) (counted_bits 8 word_bits) (Counted 2 200 LegalWord)
words-codes = counted-codes word-codes 8 2 200 (omega arith)

types-codes : (W : ℕ) → W ≤ 256 → Codes (counted 7 0 64 (type_info W)) (counted_bits 7 type_bits) (Counted 0 64 (LegalType W))
types-codes W h = counted-codes (type-codes W h) 7 0 64 (omega arith)

extensions-codes : (W : ℕ) → W ≤ 256 → Codes (counted 6 0 32 (extension W)) (counted_bits 6 extension_bits) (Counted 0 32 (LegalExtension W))
extensions-codes W h = counted-codes (extension-codes W h) 6 0 32 (omega arith)

version-codes : Codes (allowed 4 (λ v. eqb v 1)) (to_bits 4) (λ v. v ≡ 1)
version-codes = codes_same (λ v. v ≡ 1) (λ v h. eqb-true v 1 h.1) (λ v h. (omega arith, eq-eqb v 1 h)) (allowed-codes 4 (λ v. eqb v 1))

pub sheet-codes : Codes sheet sheet_bits WithinLimits
unfolding sheet sheet_bits
sheet-codes = record {
  back = λ s h.
      let few : length s.words ≤ 256 = omega (arith, h.words.few) in
      reads-next version-codes _ 1 s _ refl
      (reads-next words-codes _ s.words s _ h.words
      (reads-next (types-codes (length s.words) few) _ s.types s _ h.types
      (reads-last (extensions-codes (length s.words) few) (λ es. record { words = s.words; types = s.types; extensions = es }) s.extensions h.extensions)));
  only =
      let S : Sheet → List Bool → Type 0 = Exact sheet_bits WithinLimits in
      only_next version-codes _ S
      (λ v hv.
      let S1 : Sheet → List Bool → Type 0 = λ s ys. S s (to_bits 4 v ++ ys) in
      only_next words-codes _ S1
      (λ ws hw.
      let few : length ws ≤ 256 = omega (arith, hw.few) in
      let S2 : Sheet → List Bool → Type 0 = λ s ys. S1 s (counted_bits 8 word_bits ws ++ ys) in
      only_next (types-codes (length ws) few) _ S2
      (λ ts ht.
      only-last (extensions-codes (length ws) few) (λ es. record { words = ws; types = ts; extensions = es })
      (λ s ys. S2 s (counted_bits 7 type_bits ts ++ ys))
      (λ es he. (rw hv, record { words = hw; types = ht; extensions = he })))));
}
