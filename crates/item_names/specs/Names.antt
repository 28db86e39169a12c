-- What the code puts into the catalogue of the names of the types. A name is two bytes, 255 for no second word.
use Rattle.std.specs.Prelude.{cond, not, ◌&&◌, List, ◌≡◌, ℕ, ◌+◌, ◌*◌, ◌%◌, ◌/◌, ◌≤◌, ◌<◌, eqb, ltb, length, get_or, set}
use Rattle.std.specs.Int.Bits.{bit_and, bit_or}
use Rattle.std.specs.Int.Count.{count_trailing_zeros}
use Rattle.lists.specs.Tabulating.{tabulate}
use Rattle.rows.specs.Rows.{has_bit}
use Rattle.order_form.specs.Lists.{below}
use Rattle.bitsets.specs.Bitsets.{more}
use Rattle.catalogue.specs.Layout.{key_at, word_at, mask_at, owner_at, first_at, second_at}
use Rattle.catalogue.specs.declared.Catalogue.{Catalogue}

-- ---- keys

-- The number of a second word: 0 for none, one more than the word else (FORMAT 1.4).
abbrev pub second_of : ℕ → ℕ
second_of second = (second + 1) % 256

-- The key of a name (FORMAT 1.4).
abbrev pub key_of : ℕ → ℕ → ℕ
key_of first second = first * 256 + second_of second

-- The keys of the first n types stand in the catalogue.
pub record KeysPut (firsts seconds : List ℕ) (n : ℕ) (old new : Catalogue) : Type 0 where
  pub key : (a : ℕ) → a < n → key_at new a ≡ key_of (get_or firsts a 0) (get_or seconds a 0)
  pub small : (a : ℕ) → a < n → key_at new a < 65536
  pub kept : new ≡ record old { keys = new.keys }

-- ---- the sets of words

-- Type a joins the set of its first word, and that of its second or of the names of one word.
abbrev pub name_marked : Catalogue → ℕ → ℕ → ℕ → Catalogue
name_marked t a first second = record t {
  firsts = set t.firsts first (more (first_at t first) a);
  seconds = set t.seconds (second_of second) (more (second_at t (second_of second)) a);
}

-- One type was put into its sets. That the columns are long enough is said for a caller that reads none of them.
pub record NameMarked (a first second : ℕ) (old new : Catalogue) : Type 0 where
  pub sets : new ≡ name_marked old a first second
  pub long : (length old.firsts ≡ 256) × (length old.seconds ≡ 256)
  pub small : first < 256

-- The sets are empty.
pub record NoSets (t : Catalogue) : Type 0 where
  pub first : (w : ℕ) → w < 256 → first_at t w ≡ 0
  pub second : (w : ℕ) → w < 256 → second_at t w ≡ 0

-- The first n types stand in the sets of their words, and in no other.
pub record SetsPut (firsts seconds : List ℕ) (n : ℕ) (old new : Catalogue) : Type 0 where
  pub first : (w : ℕ) → w < 256 → (a : ℕ) → has_bit (first_at new w) a ≡ (ltb a n && eqb (get_or firsts a 0) w)
  pub second : (w : ℕ) → w < 256 → (a : ℕ) → has_bit (second_at new w) a ≡ (ltb a n && eqb (second_of (get_or seconds a 0)) w)
  pub kept : new ≡ record old { firsts = new.firsts; seconds = new.seconds }

-- ---- the words

-- The types whose last word is w: those of the one word w, and those whose second word it is.
abbrev pub mask_of : Catalogue → ℕ → ℕ
mask_of t w = bit_or (bit_and (first_at t w) (second_at t 0)) (second_at t (w + 1))

-- One word with its set behind the first n, if the set is not empty.
pub record WordPut (n w mask : ℕ) (old new : Catalogue) (r : ℕ) : Type 0 where
  pub none : mask ≡ 0 → (r ≡ n) × (new ≡ old)
  pub some : (mask ≡ 0 → ⊥) → (r ≡ n + 1) × (new ≡ record old { words = set old.words n (record { word = w; types = mask }) })

-- There is room for the words with a set that is not empty.
pub record FewWords (width : ℕ) (t : Catalogue) : Type 0 where
  pub small : width < 256
  pub few : length (below (λ w. not (eqb (mask_of t w) 0)) width) ≤ 64

-- The words below the width with a set that is not empty, ascending, each with its set.
pub record WordsPut (width : ℕ) (old new : Catalogue) (n : ℕ) : Type 0 where
  pub words : tabulate (word_at new) n ≡ below (λ w. not (eqb (mask_of old w) 0)) width
  pub masks : (k : ℕ) → k < n → mask_at new k ≡ mask_of old (word_at new k)
  pub kept : new ≡ record old { words = new.words }

-- ---- owners

-- The lowest type of the set, 64 where it is empty or the name has one word.
abbrev pub owner_of : ℕ → ℕ → ℕ
owner_of key types = cond (eqb (key % 256) 0) 64 (count_trailing_zeros 64 types)

-- The keys have two bytes.
pub record KeysSmall (n : ℕ) (t : Catalogue) : Type 0 where
  pub few : n ≤ 64
  pub small : (a : ℕ) → a < n → key_at t a < 65536

-- Each of the first n types has its owner: the type whose only word is the first word of its name.
pub record OwnersPut (n : ℕ) (old new : Catalogue) : Type 0 where
  pub owner : (a : ℕ) → a < n → owner_at new a ≡ owner_of (key_at old a) (bit_and (first_at old (key_at old a / 256)) (second_at old 0))
  pub kept : new ≡ record old { owners = new.owners }

-- ---- all of it

-- All of n names stands in the catalogue: keys, sets of words, owners, and r last words. All else stays.
pub record NamesPut (firsts seconds : List ℕ) (n width : ℕ) (old new : Catalogue) (r : ℕ) : Type 0 where
  pub key : (a : ℕ) → a < n → key_at new a ≡ key_of (get_or firsts a 0) (get_or seconds a 0)
  pub first : (w : ℕ) → w < 256 → (a : ℕ) → has_bit (first_at new w) a ≡ (ltb a n && eqb (get_or firsts a 0) w)
  pub second : (w : ℕ) → w < 256 → (a : ℕ) → has_bit (second_at new w) a ≡ (ltb a n && eqb (second_of (get_or seconds a 0)) w)
  pub owner : (a : ℕ) → a < n → owner_at new a ≡ owner_of (key_at new a) (bit_and (first_at new (key_at new a / 256)) (second_at new 0))
  pub words : tabulate (word_at new) r ≡ below (λ w. not (eqb (mask_of new w) 0)) width
  pub masks : (k : ℕ) → k < r → mask_at new k ≡ mask_of new (word_at new k)
  pub kept : new ≡ record old {
    keys = new.keys;
    firsts = new.firsts;
    seconds = new.seconds;
    owners = new.owners;
    words = new.words;
  }
