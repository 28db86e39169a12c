-- What the quick tests of annotations tell.
use Rattle.std.specs.Prelude.{Bool, true, false, List, map, ◌⊎◌, ◌≡◌, ℕ, ◌+◌, ◌/◌, ◌≤◌, ◌<◌, eqb, length, drop, get_or, Option, IfSome}
use Rattle.lists.specs.Lists.{In, any, repeats}
use Rattle.lists.specs.Tabulating.{tabulate}
use Rattle.definitions.specs.Parse.{done, repeat}
use Rattle.definitions.specs.Reading.{name, annotation}
use Rattle.definitions.specs.Records.{Resource, Annotation, associate, nest_associate}
use Rattle.definitions.specs.Checks.{resources_of, same_annotation}
use Rattle.sheet_records.specs.Annotations.{resource_of}
use Rattle.sheet_same.specs.Repeats.{same_word, repeats_word, repeats_in}
use Rattle.sheet_notes.specs.Notes.{notes}
use Rattle.sheet_draft.specs.Draft.{notes_of}
use Rattle.sheet_types.specs.Rows.{is_done}
use Rattle.rows.specs.declared.Row.{Row}
use Rattle.rows.specs.Rows.{has, empty}
use Rattle.rows.specs.RowLaws.{Small}
use Rattle.sheet_within.specs.declared.Once.{Once}
use Rattle.sheet_within.specs.declared.Up.{Up}

-- The first words of n names that are held as keys (FORMAT 2.5).
unfoldable pub words_in : List ℕ → ℕ → List ℕ
words_in k n = tabulate (λ i. get_or k i 0 / 256) n

-- Where the answer is yes, n names that can be read at a place repeat no word (FORMAT 2.12).
pub record PlainNames (W : ℕ) (bs : List Bool) (p n : ℕ) (r : Bool) : Type 0 where
  pub plain : r ≡ true → (rows : List (List ℕ)) (rest : List Bool) → repeat (name W) n (drop p bs) ≡ done rows rest → repeats same_word (map resource_of rows) ≡ false

-- Where the answer is yes, annotations that can be read at a place repeat nothing (FORMAT 2.12).
pub record PlainNotes (W : ℕ) (one : Bool) (bs : List Bool) (p : ℕ) (r : Bool) : Type 0 where
  pub plain : r ≡ true → is_done (notes W one (drop p bs)) ≡ true → repeats_in (notes_of (notes W one (drop p bs))).annotations ≡ false

-- n names at a place, whose first words ascend from `low` on.
pub record UpNames (W : ℕ) (bs : List Bool) (p n low : ℕ) (r : Up) : Type 0 where
  pub rows : List (List ℕ)
  pub read : repeat (name W) n (drop p bs) ≡ done rows (drop r.at bs)
  pub once : repeats same_word (map resource_of rows) ≡ false
  pub from : (u : Resource) → In u (map resource_of rows) → low ≤ u.word
  pub below : (u : Resource) → In u (map resource_of rows) → u.word < r.top
  pub up : low ≤ r.top

-- Where there is an answer, such names stand there.
pub record NamesUp (W : ℕ) (bs : List Bool) (p n low : ℕ) (r : Option Up) : Type 0 where
  pub names : IfSome r (UpNames W bs p n low)

-- An associate of these resources, nested or not.
abbrev pub AssociateOf : List Resource → Annotation → Type 0
AssociateOf us x = (x ≡ associate us) ⊎ (x ≡ nest_associate us)

-- An associate stands at a place: whatever n names stand behind its first 7 bits are its resources (FORMAT 2.7).
pub record Counted (W : ℕ) (one : Bool) (bs : List Bool) (p n : ℕ) : Type 0 where
  pub fits : p + 7 ≤ length bs
  pub of : (rows : List (List ℕ)) (left : List Bool) → repeat (name W) n (drop (p + 7) bs) ≡ done rows left
      → (x : Annotation) × (annotation W one (drop p bs) ≡ done x left) × AssociateOf (map resource_of rows) x

-- Where there is an answer, such an associate stands there.
pub record CountAt (W : ℕ) (one : Bool) (bs : List Bool) (p : ℕ) (r : Option ℕ) : Type 0 where
  pub count : IfSome r (Counted W one bs p)

-- The words of an associate are below a number.
abbrev pub Low : ℕ → Annotation → Type 0
Low n x = (u : Resource) → In u (resources_of x) → u.word < n

-- An associate at a place that repeats no word, and is none of those with words below `low` (FORMAT 2.12).
pub record UpAssociate (W : ℕ) (one : Bool) (bs : List Bool) (p low : ℕ) (r : Up) : Type 0 where
  pub x : Annotation
  pub read : annotation W one (drop p bs) ≡ done x (drop r.at bs)
  pub once : repeats_word x ≡ false
  pub other : (y : Annotation) → Low low y → same_annotation y x ≡ false
  pub below : Low r.top x
  pub up : low ≤ r.top

-- Where there is an answer, such an associate stands there.
pub record NextUp (W : ℕ) (one : Bool) (bs : List Bool) (p low : ℕ) (r : Option Up) : Type 0 where
  pub associate : IfSome r (UpAssociate W one bs p low)

-- Where the answer is yes, n annotations that can be read at a place repeat nothing (FORMAT 2.12).
pub record PlainEach (W : ℕ) (one : Bool) (bs : List Bool) (p n : ℕ) (r : Bool) : Type 0 where
  pub plain : r ≡ true → (as' : List Annotation) (rest : List Bool) → repeat (annotation W one) n (drop p bs) ≡ done as' rest → repeats_in as' ≡ false

-- The words of resources, and no others, stand in a row.
pub record WordsAre (us : List Resource) (r : Row) : Type 0 where
  pub small : Small r
  pub at : (w : ℕ) → has r w ≡ any (eqb w) (map (λ (u : Resource). u.word) us)

-- n names at a place, whose first words differ.
pub record OnceNames (W : ℕ) (bs : List Bool) (p n : ℕ) (r : Once) : Type 0 where
  pub rows : List (List ℕ)
  pub read : repeat (name W) n (drop p bs) ≡ done rows (drop r.at bs)
  pub once : repeats same_word (map resource_of rows) ≡ false
  pub words : WordsAre (map resource_of rows) r.words

-- Where there is an answer, such names stand there.
pub record NamesOnce (W : ℕ) (bs : List Bool) (p n : ℕ) (r : Option Once) : Type 0 where
  pub names : IfSome r (OnceNames W bs p n)

-- An associate at a place that repeats no word, and its words (FORMAT 2.12).
pub record OnceAssociate (W : ℕ) (one : Bool) (bs : List Bool) (p : ℕ) (r : Once) : Type 0 where
  pub x : Annotation
  pub read : annotation W one (drop p bs) ≡ done x (drop r.at bs)
  pub kind : AssociateOf (resources_of x) x
  pub once : repeats_word x ≡ false
  pub words : WordsAre (resources_of x) r.words

-- Where there is an answer, such an associate stands there.
pub record NextOnce (W : ℕ) (one : Bool) (bs : List Bool) (p : ℕ) (r : Option Once) : Type 0 where
  pub associate : IfSome r (OnceAssociate W one bs p)

-- Where the answer is no, none of the first n rows is this one.
pub record NoneIs (sets : List Row) (n : ℕ) (r : Row) (b : Bool) : Type 0 where
  pub none : b ≡ false → (j : ℕ) → j < n → get_or sets j empty ≡ r → ⊥
