-- The records of a sheet, of a schedule and of a diagnosis.
use Rattle.std.specs.Prelude.{Bool, List, ℕ}

-- A name is the list of its word numbers: one or two in a sheet, up to three in a parent of a schedule (FORMAT 1.3).
abbrev pub Name : Type 0
Name = List ℕ

-- The dom of a resource: no word, or one (FORMAT 2.8).
abbrev pub Dom : Type 0
Dom = List ℕ

-- A resource of an associate, as read: its word and its dom (FORMAT 2.8).
pub record Resource : Type 0 where
  pub word : ℕ
  pub dom : Dom

-- A resource in the synthesis, where equal words are joined: the doms ascend, each once (FORMAT 8.8).
pub record AssociatedResource : Type 0 where
  pub word : ℕ
  pub doms : List Dom

-- The seven kinds of annotations, in their order; R is the form of a resource (FORMAT 2.7).
pub data AnnotationOf (R : Type 0) : Type 0 where
  make_list : AnnotationOf R
  associate : List R → AnnotationOf R
  nest_associate : List R → AnnotationOf R
  alias : ℕ → AnnotationOf R
  inherit : List Name → AnnotationOf R
  derive : ℕ → AnnotationOf R
  no_derive : AnnotationOf R

-- An annotation as read.
abbrev pub Annotation : Type 0
Annotation = AnnotationOf Resource

-- An annotation in the synthesis, its resources ascending by word; `AnnotationInfo` of the Rust.
abbrev pub AnnotationInfo : Type 0
AnnotationInfo = AnnotationOf AssociatedResource

-- The three variants of a type (FORMAT 2.6).
pub data Variant : Type 0 where
  domain resource other : Variant

-- A mark: makelist, or derive with its tag (FORMAT 2.9).
pub data Mark : Type 0 where
  makelist_mark : Mark
  derive_mark : ℕ → Mark

-- A type record, its parents as listed (FORMAT 2.6); `TypeInfo` of the Rust.
pub record TypeInfo : Type 0 where
  pub name : Name
  pub variant : Variant
  pub virtual : Bool
  pub trait : Bool
  pub parents : List Name
  pub annotations : List Annotation
  pub marks : List Mark

-- An extension record: parents to be added to the resource of a type and a word (FORMAT 2.10).
pub record Extension : Type 0 where
  pub name : Name
  pub word : ℕ
  pub parents : List Name

-- A sheet: its three lists (FORMAT 2.2). A word is its bytes.
pub record Sheet : Type 0 where
  pub words : List (List ℕ)
  pub types : List TypeInfo
  pub extensions : List Extension

-- An item of a schedule: a synthesized resource (FORMAT 6.2), or an extension line (FORMAT 6.3).
pub data Item : Type 0 where
  synthesized : (type : Name) (word : ℕ) (virtual : Bool) (parents : List Name) (marks : List Mark) → Item
  extension : (type : Name) (virtual trait : Bool) (word : ℕ) → Item

-- What a schedule holds: the types' names in order, and the items (FORMAT 6.1). The order-only call's has no items.
pub record Schedule : Type 0 where
  pub order : List Name
  pub items : List Item

-- A row of a diagnosis (FORMAT 8.1). An absent name or word is the empty list.
pub record Row : Type 0 where
  pub kind : ℕ
  pub subject : Name
  pub other : Name
  pub word : List ℕ
