-- What the answers about the words of a sheet mean, for the bits bs of the sheet.
use mathlib.Core.Bool.{Bool, ◌&&◌, cond}
use Rattle.std.specs.Prelude.{List, ◌∷◌, ◌≡◌, ℕ, ◌+◌, ◌-◌, ◌*◌, ◌≤◌, ◌<◌, eqb, length, drop, get_or, Result, Ok, Err}
use Rattle.lists.specs.Lists.{same_list}
use Rattle.definitions.specs.Bits.{bits_of, num, pack_to}
use Rattle.definitions.specs.Checks.{resource_bytes, self_bytes, bad_words}
use Rattle.definitions.specs.Comparisons.{bytes_before}
use Rattle.definitions.specs.Map.{number_of}
use Rattle.definitions.specs.Parse.{Parsed, done, refused, Parser, next, ◌>>=◌, pure, allowed, repeat}
use Rattle.definitions.specs.Reading.{is_first_byte, is_word_byte, word}
use Rattle.fields.specs.declared.Fault.{Fault}
use Rattle.fields.specs.Fields.{fault_of}
use Rattle.law_orders.specs.Reach.{reach}
use Rattle.sheet_reach.specs.declared.Reach.{Reach}
use Rattle.sheet_reach.specs.Reach.{Reaches}
use Rattle.sheet_words.specs.declared.spelt.Source.{Source}
use Rattle.sheet_words.specs.declared.spelt.Spelt.{Spelt}
use Rattle.sheet_words.specs.declared.Found.{Found}
use Rattle.sheet_words.specs.declared.WordsRead.{WordsRead}

-- ---- one word

-- The bits of a sheet.
abbrev pub bits_in : Source → List Bool
bits_in s = bits_of s.bytes.now

-- The bytes of a word, where they stand in the sheet (FORMAT 2.4).
abbrev pub bytes_of : Spelt → List ℕ
bytes_of w = pack_to w.count (drop w.at (bits_in w.source))

-- The n bytes of a word, the first of which is none that stands behind it only (FORMAT 2.4).
abbrev pub word_bytes : ℕ → Parser (List ℕ)
word_bytes n = do
  b ← allowed 8 is_first_byte
  bs ← repeat (allowed 8 is_word_byte) (n - 1)
  pure (b ∷ bs)

-- A word as the definitions' parser gives it (FORMAT 2.4).
abbrev pub of_spelt : List Bool → Result Spelt Fault → Parsed (List ℕ)
of_spelt bs (Ok w) = done (bytes_of w) (drop (w.at + 8 * w.count) bs)
of_spelt bs (Err r) = refused (fault_of r)

-- The answer for the word at bit p (FORMAT 2.4).
abbrev pub Spelled : List Bool → ℕ → Result Spelt Fault → Type 0
Spelled bs p r = of_spelt bs r ≡ word (drop p bs)

-- At bit p stands a length n that is not 0, and behind it the 48 bits x (FORMAT 2.4).
pub record Begun (bs : List Bool) (p n x : ℕ) : Type 0 where
  pub there : p + 53 ≤ length bs
  pub length-is : n ≡ num 5 (drop p bs)
  pub some : 0 < n
  pub bits : x ≡ num 48 (drop (p + 5) bs)

-- ---- the words

-- The places with the i-th of n words (FORMAT 1.2).
pub record Named (t : Found) (u : Bool) (w : Spelt) (i n : ℕ) (r : Found) : Type 0 where
  pub rising : r.up ≡ u
  pub plain : r.plain ≡ (t.plain && w.plain)
  pub class : r.resource ≡ cond (same_list eqb resource_bytes (bytes_of w) && eqb t.resource n) i t.resource
  pub self : r.own ≡ cond (same_list eqb self_bytes (bytes_of w) && eqb t.own n) i t.own

-- What is found with it, where v is the word before (FORMAT 1.2).
abbrev pub With : Found → Spelt → Spelt → ℕ → ℕ → Found → Type 0
With t v w i n r = Named t (t.up && bytes_before (bytes_of v) (bytes_of w)) w i n r

-- What a list of words tells: its length, refusal 5, the numbers of `resource` and `self` (FORMAT 1.2).
pub record Telling : Type 0 where
  pub count : ℕ
  pub bad : Bool
  pub resource : ℕ
  pub own : ℕ

-- What the words ws tell (FORMAT 1.2).
abbrev pub telling_of : List (List ℕ) → Telling
telling_of ws = record { count = length ws; bad = bad_words ws; resource = number_of resource_bytes ws; own = number_of self_bytes ws }

-- What the words that a parser gives tell, and the bits behind them.
abbrev pub told : Parsed (List (List ℕ)) → Parsed Telling
told x = next x (λ ws. pure (telling_of ws))

-- The answer about all words, as the definitions' parser gives it (FORMAT 2.2).
abbrev pub of_words_read : List Bool → Result WordsRead Fault → Parsed Telling
of_words_read bs (Ok r) = done (record { count = r.count; bad = r.bad; resource = r.resource; own = r.own }) (drop r.at bs)
of_words_read bs (Err r) = refused (fault_of r)

-- ---- how far they reach

-- The first n numbers are the reach of the words.
abbrev pub EachReach : List (List ℕ) → ℕ → List ℕ → Type 0
EachReach ws n last = (w : ℕ) → w < n → get_or last w 0 ≡ reach ws w

-- Of the words that a parser gives it has the reach.
abbrev pub Reached : Parsed (List (List ℕ)) → Reach → Type 0
Reached x r = (ws : List (List ℕ)) (rest : List Bool) → x ≡ done ws rest → Reaches ws r
