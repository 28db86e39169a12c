-- A listing that was lent for some bits.
use Rattle.std.specs.Prelude.{Bool, false, cond, List, ◌≡◌, ℕ, ltb, length}
use Rattle.definitions.specs.Bits.{size, pack}
use Rattle.definitions.specs.Answer.{overwrite}
use Rattle.answers.specs.Answers.{Answer, parts, answer_of}

-- It was too short and is untouched, and the answer is 10; or it has the bytes and then what was there. The size is theirs
-- (FORMAT 7.4).
pub record Listing (entry exit : List ℕ) (bs : List Bool) (r : Answer) : Type 0 where
  pub answer : answer_of r ≡ parts (cond (ltb (length entry) (size (length bs))) 10 0) (size (length bs)) 0 false
  pub listing : exit ≡ cond (ltb (length entry) (size (length bs))) entry (overwrite (pack bs) entry)
