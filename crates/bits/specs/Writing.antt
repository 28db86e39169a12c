-- What writing bits at a position does.
use Rattle.std.specs.Prelude.{Bool, List, [], ◌∷◌, ◌++◌, ◌≡◌, ℕ, ◌+◌, ◌/◌, ◌%◌, length, get_or, set, take}
use Rattle.definitions.specs.Bits.{to_bits, num}

-- the bytes after bit b is written at bit p: in its byte the bits before p stay, and those behind it are 0
unfoldable pub put_bit : List ℕ → ℕ → Bool → List ℕ
put_bit buf p b = set buf (p / 8) (num 8 (take (p % 8) (to_bits 8 (get_or buf (p / 8) 0)) ++ (b ∷ [])))

-- the bytes after the bits bs are written from bit p on
unfoldable pub put : List ℕ → ℕ → List Bool → List ℕ
put buf p [] = buf
put buf p (b ∷ bs) = put (put_bit buf p b) (p + 1) bs

-- the bits bs were written from bit p on, and q is the bit behind them
pub record Wrote (before after : List ℕ) (p q : ℕ) (bs : List Bool) : Type 0 where
  pub holds : after ≡ put before p bs
  pub next : q ≡ p + length bs

-- what is left to write of the bits bs, which begin at p of a
pub record Left (a : List ℕ) (p : ℕ) (bs : List Bool) (b : List ℕ) (q : ℕ) (rest : List Bool) : Type 0 where
  pub same : put b q rest ≡ put a p bs
  pub end : q + length rest ≡ p + length bs
  pub long : length b ≡ length a
