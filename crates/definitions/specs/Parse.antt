-- Parsers of bits: from the bits that are left, a value and the bits behind it, or what is wrong with a field (FORMAT 2.1).
use Rattle.std.specs.Prelude.{Bool, true, false, ◌&&◌, List, [], ◌∷◌, ◌++◌, ℕ, zero, suc, ◌+◌, ◌*◌, eqb, leb}
use Rattle.definitions.specs.Bits.{bit}

-- What can be wrong with a field: it passes the end, or its value is not allowed (FORMAT 2.1).
pub data Fault : Type 0 where
  past not_allowed : Fault

-- What a parser gives: a value with the bits behind it, or the fault of a field (FORMAT 2.1).
pub data Parsed (A : Type 0) : Type 0 where
  done : A → List Bool → Parsed A
  refused : Fault → Parsed A

-- A parser takes the bits that are left.
abbrev pub Parser : Type 0 → Type 0
Parser A = List Bool → Parsed A

-- A fault ends the reading; a value is handed on with the bits behind it.
abbrev pub next : {A B : Type 0} → Parsed A → (A → Parser B) → Parsed B
next (done a rest) k = k a rest
next (refused f) k = refused f

-- One parser after the other, which is what the lines of `do` stand for.
infixl 20 ◌>>=◌
abbrev pub ◌>>=◌ : {A B : Type 0} → Parser A → (A → Parser B) → Parser B
◌>>=◌ m k bs = next (m bs) k

-- A value, no bits read.
abbrev pub pure : {A : Type 0} → A → Parser A
pure a bs = done a bs

-- A fault, whatever the bits are.
abbrev pub refuse : {A : Type 0} → Fault → Parser A
refuse f bs = refused f

-- One of two parsers, by a test.
abbrev pub choose : {A : Type 0} → Bool → Parser A → Parser A → Parser A
choose true x y = x
choose false x y = y

-- n bits, most significant first, behind the value v of the bits before them; a fault where they pass the end (FORMAT 2.1).
unfoldable pub field_onto : ℕ → ℕ → Parser ℕ
field_onto v zero bs = done v bs
field_onto v (suc n) [] = refused past
field_onto v (suc n) (b ∷ bs) = field_onto (2 * v + bit b) n bs

-- A field of n bits.
abbrev pub field : ℕ → Parser ℕ
field n = field_onto 0 n

-- A field of n bits of which `ok` holds; any other value is a fault (FORMAT 2.1).
unfoldable pub allowed : ℕ → (ℕ → Bool) → Parser ℕ
allowed n ok = do
  v ← field n
  choose (ok v) (pure v) (refuse not_allowed)

-- A field of n bits from `least` to `most`.
abbrev pub between : ℕ → ℕ → ℕ → Parser ℕ
between n least most = allowed n (λ v. leb least v && leb v most)

-- A field of one bit.
abbrev pub flag : Parser Bool
flag = do
  v ← field 1
  pure (eqb v 1)

-- m, n times; its values go behind those in xs.
unfoldable pub repeat_onto : {A : Type 0} → List A → Parser A → ℕ → Parser (List A)
repeat_onto xs m zero = pure xs
repeat_onto xs m (suc n) = do
  x ← m
  repeat_onto (xs ++ (x ∷ [])) m n

-- m, n times.
abbrev pub repeat : {A : Type 0} → Parser A → ℕ → Parser (List A)
repeat m n = repeat_onto [] m n

-- A count of n bits from `least` to `most`, and directly behind it so many entries (FORMAT 2.3).
unfoldable pub counted : {A : Type 0} → ℕ → ℕ → ℕ → Parser A → Parser (List A)
counted n least most m = do
  k ← between n least most
  repeat m k
