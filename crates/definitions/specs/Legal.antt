-- When a map is legal: limits and rules on its lists and fields, without a parser or a test (FORMAT 2.13).
use Rattle.std.specs.Prelude.{true, List, [], ◌∷◌, map, ◌↔◌, ◌≡◌, ℕ, ◌≤◌, ◌<◌, length}
use Rattle.lists.specs.Lists.{In, Sorted}
use Rattle.definitions.specs.Records.{Name, Resource, make_list, associate, nest_associate, alias, inherit, derive}
use Rattle.definitions.specs.Records.{no_derive, Annotation, Mark, makelist_mark, derive_mark, TypeInfo, Extension, Sheet}
use Rattle.definitions.specs.Comparisons.{bytes_before, hyphen}
use Rattle.definitions.specs.Checks.{resource_bytes, self_bytes, resources_of}

-- P of each element.
abbrev pub Every : {A : Type 0} → (A → Type 0) → List A → Type 0
Every P [] = Unit {0}
Every P (x ∷ l) = P x × Every P l

-- A list of `least` to `most` entries, P of each (FORMAT 2.3).
pub record Counted {A : Type 0} (least most : ℕ) (P : A → Type 0) (l : List A) : Type 0 where
  pub enough : least ≤ length l
  pub few : length l ≤ most
  pub every : Every P l

-- ---- fields

-- A byte that a word may begin with (FORMAT 1.1).
pub data LegalFirst (b : ℕ) : Type 0 where
  upper : 65 ≤ b → b ≤ 90 → LegalFirst b
  lower : 97 ≤ b → b ≤ 122 → LegalFirst b
  digit : 48 ≤ b → b ≤ 57 → LegalFirst b
  underscore : b ≡ 95 → LegalFirst b

-- A byte of a word behind its first: such a one, or the hyphen (FORMAT 1.1).
pub data LegalByte (b : ℕ) : Type 0 where
  begins : LegalFirst b → LegalByte b
  joins : b ≡ hyphen → LegalByte b

-- A word: a byte that it may begin with, and at most 30 more (FORMAT 1.1).
abbrev pub LegalWord : List ℕ → Type 0
LegalWord [] = ⊥
LegalWord (b ∷ w) = LegalFirst b × Counted 0 30 LegalByte w

-- No word, or one whose number is below W (FORMAT 2.5).
abbrev pub LegalWordIfAny : ℕ → List ℕ → Type 0
LegalWordIfAny W [] = Unit {0}
LegalWordIfAny W (w ∷ []) = w < W
LegalWordIfAny W (w ∷ v ∷ l) = ⊥

-- A name: one word or two, below W (FORMAT 1.3).
abbrev pub LegalName : ℕ → Name → Type 0
LegalName W [] = ⊥
LegalName W (a ∷ b) = (a < W) × LegalWordIfAny W b

-- A resource of an associate (FORMAT 2.8).
pub record LegalResource (W : ℕ) (r : Resource) : Type 0 where
  pub word : r.word < W
  pub dom : LegalWordIfAny W r.dom

-- The resources of an associate, at most 15 (FORMAT 2.8).
abbrev pub LegalResources : ℕ → List Resource → Type 0
LegalResources W rs = Counted 0 15 (LegalResource W) rs

-- An annotation of the type with name n, kind by kind; a NestAssociate only in a type of one word (FORMAT 2.7).
abbrev pub LegalAnnotation : ℕ → Name → Annotation → Type 0
LegalAnnotation W n make_list = Unit {0}
LegalAnnotation W n (associate rs) = LegalResources W rs
LegalAnnotation W n (nest_associate rs) = (length n ≡ 1) × LegalResources W rs
LegalAnnotation W n (alias w) = w < W
LegalAnnotation W n (inherit ns) = Counted 0 15 (LegalName W) ns
LegalAnnotation W n (derive t) = t < 256
LegalAnnotation W n no_derive = Unit {0}

-- A mark; a tag is below 256 (FORMAT 2.9).
abbrev pub LegalMark : Mark → Type 0
LegalMark makelist_mark = Unit {0}
LegalMark (derive_mark t) = t < 256

-- ---- nothing twice

-- The words of an associate.
abbrev pub words_of : List Resource → List ℕ
words_of rs = map (λ (u : Resource). u.word) rs

-- Two associates have one set of words, whatever the doms (FORMAT 2.12).
abbrev pub SameWords : List Resource → List Resource → Type 0
SameWords rs qs = (w : ℕ) → In w (words_of rs) ↔ In w (words_of qs)

-- Two annotations are of one kind and equal (FORMAT 2.12).
pub data Equal : Annotation → Annotation → Type 0 where
  two_make_list : Equal make_list make_list
  two_associate : {rs qs : List Resource} → SameWords rs qs → Equal (associate rs) (associate qs)
  two_nest_associate : {rs qs : List Resource} → SameWords rs qs → Equal (nest_associate rs) (nest_associate qs)
  two_alias : {w v : ℕ} → w ≡ v → Equal (alias w) (alias v)
  two_inherit : {ns ms : List Name} → ns ≡ ms → Equal (inherit ns) (inherit ms)
  two_derive : {t u : ℕ} → t ≡ u → Equal (derive t) (derive u)
  two_no_derive : Equal no_derive no_derive

-- No word stands twice in an associate (FORMAT 2.12).
abbrev pub WordsOnce : Annotation → Type 0
WordsOnce a = Sorted (λ (u v : Resource). u.word ≡ v.word → ⊥) (resources_of a)

-- ---- records

-- A type record (FORMAT 2.6).
pub record LegalType (W : ℕ) (T : TypeInfo) : Type 0 where
  pub name : LegalName W T.name
  pub parents : Counted 0 8 (LegalName W) T.parents
  pub annotations : Counted 0 12 (LegalAnnotation W T.name) T.annotations
  pub marks : Counted 0 7 LegalMark T.marks

-- An extension record (FORMAT 2.10).
pub record LegalExtension (W : ℕ) (e : Extension) : Type 0 where
  pub name : LegalName W e.name
  pub word : e.word < W
  pub parents : Counted 1 8 (LegalName W) e.parents

-- Every count and field of a sheet within its limits (FORMAT 2.2).
pub record WithinLimits (s : Sheet) : Type 0 where
  pub words : Counted 2 200 LegalWord s.words
  pub types : Counted 0 64 (LegalType (length s.words)) s.types
  pub extensions : Counted 0 32 (LegalExtension (length s.words)) s.extensions

-- The words ascend strictly by bytes, with `resource` and `self` among them (FORMAT 1.2).
pub record GoodWords (ws : List (List ℕ)) : Type 0 where
  pub ascend : Sorted (λ v w. bytes_before v w ≡ true) ws
  pub has_resource : In resource_bytes ws
  pub has_self : In self_bytes ws

-- No name, key, word of an associate or annotation stands twice (FORMAT 2.12).
pub record NothingTwice (s : Sheet) : Type 0 where
  pub names : Sorted (λ (T U : TypeInfo). T.name ≡ U.name → ⊥) s.types
  pub keys : Sorted (λ (e f : Extension). (e.name ≡ f.name) × (e.word ≡ f.word) → ⊥) s.extensions
  pub words : (T : TypeInfo) → In T s.types → (a : Annotation) → In a T.annotations → WordsOnce a
  pub annotations : (T : TypeInfo) → In T s.types → Sorted (λ (a b : Annotation). Equal a b → ⊥) T.annotations

-- A legal map (FORMAT 2.13).
pub record Legal (s : Sheet) : Type 0 where
  pub limits : WithinLimits s
  pub words : GoodWords s.words
  pub once : NothingTwice s
