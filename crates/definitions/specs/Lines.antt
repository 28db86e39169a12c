-- Which lines a map has, from ancestors alone, and when a type is refused (FORMAT 4 and 5). Nothing here computes but the
-- comparisons of names and doms and the spelling of `resource`.
use Rattle.std.specs.Prelude.{Bool, true, List, [], ◌∷◌, ◌++◌, ◌⊎◌, ◌↔◌, ◌≡◌, ℕ}
use Rattle.lists.specs.Lists.{In, At, Sorted}
use Rattle.definitions.specs.Records.{Name, Dom, Resource, associate, nest_associate, Variant, Mark, TypeInfo, Extension}
use Rattle.definitions.specs.Records.{Sheet, Item, synthesized, extension}
use Rattle.definitions.specs.Comparisons.{name_before, dom_before}
use Rattle.definitions.specs.Checks.{resource_bytes}
use Rattle.definitions.specs.Ancestry.{Parent, Ancestor}

-- ---- associating

-- An own annotation of A has the resource, nested or not (FORMAT 4.1).
pub data Gives (A : TypeInfo) (u : Resource) : Type 0 where
  plainly : (rs : List Resource) → In (associate rs) A.annotations → In u rs → Gives A u
  nested : (rs : List Resource) → In (nest_associate rs) A.annotations → In u rs → Gives A u

-- A associates the word r (FORMAT 4.1).
pub record Associates (A : TypeInfo) (r : ℕ) : Type 0 where
  pub resource : Resource
  pub gives : Gives A resource
  pub word : resource.word ≡ r

-- A proper ancestor of T gives r the dom d (FORMAT 4.4).
pub record GivenAbove (s : Sheet) (T : TypeInfo) (r : ℕ) (d : Dom) : Type 0 where
  pub by : TypeInfo
  pub above : Ancestor s by T
  pub resource : Resource
  pub gives : Gives by resource
  pub word : resource.word ≡ r
  pub dom : resource.dom ≡ d

-- A proper ancestor of T associates r (FORMAT 4.4).
pub record AssociatedAbove (s : Sheet) (T : TypeInfo) (r : ℕ) : Type 0 where
  pub by : TypeInfo
  pub above : Ancestor s by T
  pub associates : Associates by r

-- The resource at place j of the own Associate at place i (FORMAT 4.3).
pub record OwnResource (T : TypeInfo) (i j : ℕ) (u : Resource) : Type 0 where
  pub resources : List Resource
  pub annotation : At (associate resources) i T.annotations
  pub resource : At u j resources

-- r has a making for T: an own Associate has it, or a proper ancestor associates it (FORMAT 4.8).
pub data HasMaking (s : Sheet) (T : TypeInfo) (r : ℕ) : Type 0 where
  own : (i j : ℕ) (u : Resource) → OwnResource T i j u → u.word ≡ r → HasMaking s T r
  inherited : AssociatedAbove s T r → HasMaking s T r

-- ---- the fields of a resource T.r

-- Each name of the second list is the words at its place in the first, followed by r (FORMAT 4.2, 4.4).
pub data Dotted (r : ℕ) : List Dom → List Name → Type 0 where
  end : Dotted r [] []
  and : {d : Dom} {ds : List Dom} {c : Name} {cs : List Name} → c ≡ d ++ (r ∷ []) → Dotted r ds cs → Dotted r (d ∷ ds) (c ∷ cs)

-- The parents that the extension record of T and r adds; none where there is no record (FORMAT 4.5).
pub data ExtensionParents (s : Sheet) (T : TypeInfo) (r : ℕ) (ps : List Name) : Type 0 where
  record' : (e : Extension) → In e s.extensions → e.name ≡ T.name → e.word ≡ r → ps ≡ e.parents
      → ExtensionParents s T r ps
  no_record : ((e : Extension) → In e s.extensions → e.name ≡ T.name → e.word ≡ r → ⊥) → ps ≡ []
      → ExtensionParents s T r ps

-- The marks of the classes in turn, repeats kept (FORMAT 4.7).
pub data Marks (s : Sheet) : List Name → List Mark → Type 0 where
  end : Marks s [] []
  and : {c : Name} {cs : List Name} {ms rest : List Mark} (D : TypeInfo) → In D s.types → D.name ≡ c → Marks s cs rest
      → ms ≡ D.marks ++ rest → Marks s (c ∷ cs) ms

-- T and all its classes are virtual (FORMAT 4.6).
pub record AllVirtual (s : Sheet) (T : TypeInfo) (classes : List Name) : Type 0 where
  pub type : T.virtual ≡ true
  pub every : (c : Name) (D : TypeInfo) → In c classes → In D s.types → D.name ≡ c → D.virtual ≡ true

-- The resource T.r with its classes and its first parents, behind which `resource` and the extension's parents follow (FORMAT
-- 4.5 to 4.7).
pub record Makes (s : Sheet) (T : TypeInfo) (r : ℕ) (classes firsts : List Name) (i : Item) : Type 0 where
  pub resource : ℕ
  pub is_resource : At resource_bytes resource s.words
  pub added : List Name
  pub is_added : ExtensionParents s T r added
  pub virtual : Bool
  pub is_virtual : (virtual ≡ true) ↔ AllVirtual s T classes
  pub marks : List Mark
  pub is_marks : Marks s classes marks
  pub item : i ≡ synthesized T.name r virtual (firsts ++ (resource ∷ []) ∷ added) marks

-- ---- the makings

-- An own resource makes T.r, whose class is its only first parent (FORMAT 4.3).
pub record OwnMaking (s : Sheet) (T : TypeInfo) (i j : ℕ) (x : Item) : Type 0 where
  pub from : Resource
  pub own : OwnResource T i j from
  pub class : Name
  pub is_class : class ≡ from.dom ++ (from.word ∷ [])
  pub makes : Makes s T from.word (class ∷ []) (class ∷ []) x

-- The doms that proper ancestors give r, none first, then ascending (FORMAT 4.4).
pub record DomsAbove (s : Sheet) (T : TypeInfo) (r : ℕ) (ds : List Dom) : Type 0 where
  pub sorted : Sorted (λ d e. dom_before d e ≡ true) ds
  pub exactly : (d : Dom) → In d ds ↔ GivenAbove s T r d

-- P associates r, or has a proper ancestor that does (FORMAT 4.4).
abbrev pub Passes : Sheet → TypeInfo → ℕ → Type 0
Passes s P r = Associates P r ⊎ AssociatedAbove s P r

-- The names of the direct parents that pass r, ascending, each once (FORMAT 4.4).
pub record ParentsAbove (s : Sheet) (T : TypeInfo) (r : ℕ) (Ps : List Name) : Type 0 where
  pub sorted : Sorted (λ P Q. name_before s.words P Q ≡ true) Ps
  pub exactly : (p : Name) → In p Ps ↔ ((P : TypeInfo) × Parent s P T × Passes s P r × (P.name ≡ p))

-- A word that a proper ancestor associates makes one T.r (FORMAT 4.4).
pub record InheritedMaking (s : Sheet) (T : TypeInfo) (r : ℕ) (x : Item) : Type 0 where
  pub associated : AssociatedAbove s T r
  pub doms : List Dom
  pub is_doms : DomsAbove s T r doms
  pub classes : List Name
  pub is_classes : Dotted r doms classes
  pub parents : List Name
  pub is_parents : ParentsAbove s T r parents
  pub firsts : List Name
  pub is_firsts : Dotted r parents firsts
  pub makes : Makes s T r classes firsts x

-- Where a making comes from: an own resource, by the places of its annotation and of itself; or an inherited word.
pub data Source : Type 0 where
  own : (i j : ℕ) → Source
  inherited : (r : ℕ) → Source

-- x is made for T from this source.
pub data Making (s : Sheet) (T : TypeInfo) (from : Source) (x : Item) : Type 0 where
  own : (i j : ℕ) → from ≡ Source.own i j → OwnMaking s T i j x → Making s T from x
  inherited : (r : ℕ) → from ≡ Source.inherited r → InheritedMaking s T r x → Making s T from x

-- ---- the lines

-- The extension line of T and a word with a making, with the flags of T (FORMAT 4.8).
pub record ExtensionLine (s : Sheet) (T : TypeInfo) (x : Item) : Type 0 where
  pub word : ℕ
  pub made : HasMaking s T word
  pub item : x ≡ extension T.name T.virtual T.trait word

-- A line of the map: what is made for one of its types, or an extension line of one (FORMAT 5.2).
pub data LineOf (s : Sheet) (x : Item) : Type 0 where
  resource : (T : TypeInfo) (from : Source) → In T s.types → Making s T from x → LineOf s x
  line : (T : TypeInfo) → In T s.types → ExtensionLine s T x → LineOf s x

-- ---- refused types

-- c is a class of one of T's makings (FORMAT 4.2).
pub data ClassOf (s : Sheet) (T : TypeInfo) (c : Name) : Type 0 where
  own : (i j : ℕ) (u : Resource) → OwnResource T i j u → c ≡ u.dom ++ (u.word ∷ []) → ClassOf s T c
  inherited : (r : ℕ) (d : Dom) → GivenAbove s T r d → c ≡ d ++ (r ∷ []) → ClassOf s T c

-- T is refused: a class of one of its makings has no declaration, or one that is not a resource; the name of what is made is
-- taken by a type; or one item is made from two sources (FORMAT 4.9).
pub data Refused (s : Sheet) (T : TypeInfo) : Type 0 where
  undeclared : (c : Name) → ClassOf s T c → ((D : TypeInfo) → In D s.types → D.name ≡ c → ⊥) → Refused s T
  no-resource : (c : Name) (D : TypeInfo) → ClassOf s T c → In D s.types → D.name ≡ c
      → (D.variant ≡ Variant.resource → ⊥) → Refused s T
  declared : (r : ℕ) (D : TypeInfo) → HasMaking s T r → In D s.types → D.name ≡ T.name ++ (r ∷ []) → Refused s T
  identical : (a b : Source) (x : Item) → (a ≡ b → ⊥) → Making s T a x → Making s T b x → Refused s T
