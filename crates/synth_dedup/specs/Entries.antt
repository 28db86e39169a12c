-- Inherited entries as rows of bits, and their dedup.
use Rattle.std.specs.Prelude.{Bool, true, false, not, List, [], ◌∷◌, ◌++◌, ◌≡◌, ℕ, ◌<◌}
use Rattle.std.specs.Int.Bits.{bit_or}
use Rattle.std.proofs.Common.{refl, ap₂}
use mathlib.Core.Sum.{⊎_set}
use denote.Struct.Props.{props}
use Rattle.lists.specs.Lists.{any, all, filter}
use Rattle.rows.specs.declared.Row.{Row}
use Rattle.rows.specs.Rows.{common, without, none, has, empty}
use Rattle.rows.specs.RowLaws.{Small}
use Rattle.definitions.specs.Annotations.{Overlap, nothing, whole, by_word}
use Rattle.sheet_records.specs.declared.Kind.TheVariants.{Associate}
use Rattle.bounded.specs.declared.UpTo.{UpTo}
use Rattle.bounded.specs.Items.{items_of}
use Rattle.synth_annotations.specs.Reading.{overlap_at}
use Rattle.synth_dedup.specs.declared.Entry.{Entry}

-- the words that two entries share: none; all, if they are equal; those that both have
abbrev pub shared_by : Overlap → Row → Row → Row
shared_by nothing x y = empty
shared_by whole x y = x
shared_by by_word x y = common x y

-- the words that are left of the first: all; none, if they are equal; those that the other has not
abbrev pub left_by : Overlap → Row → Row → Row
left_by nothing x y = x
left_by whole x y = empty
left_by by_word x y = without x y

-- what two entries share, by their kinds, under the parents of both
unfoldable pub inter : Entry → Entry → Entry
inter x y =
    record { kind = x.kind; words = shared_by (overlap_at x.kind y.kind) x.words y.words; parents = bit_or x.parents y.parents }

-- what is left of x, by their kinds
unfoldable pub diff : Entry → Entry → Entry
diff x y = record { kind = x.kind; words = left_by (overlap_at x.kind y.kind) x.words y.words; parents = x.parents }

-- an entry without words is none
abbrev pub stands : Entry → Bool
stands e = not (none e.words)

unfoldable pub unless_empty : Entry → List Entry
unless_empty e = filter stands (e ∷ [])

-- a newcomer joins: each earlier entry is split into its rest and what it shares; the newcomer's own rest goes last
-- (FORMAT 8.9)
unfoldable pub merge : List Entry → Entry → List Entry
merge [] n = unless_empty n
merge (a ∷ l) n = unless_empty (diff a n) ++ (unless_empty (inter a n) ++ merge l (diff n a))

-- the first of a list stays as it is, an associate without resources as well
unfoldable pub join : List Entry → Entry → List Entry
join [] n = n ∷ []
join (a ∷ l) n = merge (a ∷ l) n

unfoldable pub join_all : List Entry → List Entry → List Entry
join_all l [] = l
join_all l (n ∷ ns) = join_all (join l n) ns

abbrev pub Entries : Type 0
Entries = UpTo Entry 201

unfoldable pub entries_of : Entries → List Entry
entries_of l = items_of l

-- ---- lists of entries that are apart

-- it is an Associate, and its words are below 200
pub record Sound (e : Entry) : Type 0 where
  pub kind : e.kind ≡ Associate
  pub small : Small e.words
  pub words : (w : ℕ) → has e.words w ≡ true → w < 200

-- whether an entry has the word
abbrev pub covers : List Entry → ℕ → Bool
covers l w = any (λ (e : Entry). has e.words w) l

-- no two share a word
pub data Apart : List Entry → Type 0 where
  nil : Apart []
  cons : {e : Entry} {l : List Entry} → Sound e → ((w : ℕ) → has e.words w ≡ true → covers l w ≡ false) → Apart l → Apart (e ∷ l)

-- which has one proof at most, so that it may be a ghost field
one-alone : (e : Entry) (l : List Entry) → IsProp (Sound e × ((w : ℕ) → has e.words w ≡ true → covers l w ≡ false))
one-alone e l = Prim.hlevel (props, ⊎_set)

pub Apart-prop : (l : List Entry) → IsProp (Apart l)
Apart-prop [] nil nil = refl
Apart-prop (e ∷ l) (cons s f a) (cons t g b) =
    ap₂ (λ (x : Sound e × ((w : ℕ) → has e.words w ≡ true → covers l w ≡ false)) (y : Apart l). cons x.0 x.1 y) (one-alone e l (s, f) (t, g)) (Apart-prop l a b)

-- each has a word
abbrev pub Full : List Entry → Type 0
Full l = all stands l ≡ true
