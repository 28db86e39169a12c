-- On a sheet that was read the order of names is that of their word numbers, but for the words that go on with a hyphen; where
-- there are none, it is that of the word numbers (FORMAT 1.4).
use Rattle.std.specs.Prelude.{true, ◌≡◌, refl, ℕ, length}
use mathlib.Core.List.Memᴰ
use mathlib.Core.List.{List, [], ◌∷◌}
use Rattle.std.proofs.Common.{sym, ◌∙◌, arith}
use Rattle.lists.specs.Lists.{In, Sorted, list_before}
use Rattle.lists.specs.Members.{sorted-map}
use Rattle.lists.specs.Sorting.{ascends-sorted, sorted-imp}
use Rattle.definitions.specs.Records.{Name, TypeInfo, Sheet}
use Rattle.definitions.specs.Comparisons.{name_before}
use Rattle.definitions.specs.Map.{LineType, type_map_of, line_type_of, line_map_of}
use Rattle.definitions.specs.Legal.{Every, LegalName}
use Rattle.law_orders.specs.Comparisons.{bytes-strict, types-is}
use Rattle.law_orders.specs.Self.{words-ascend}
use Rattle.law_orders.specs.Reach.{NoHyphen, reached_before}
use Rattle.law_orders.specs.Statements.{DotFree, AboveDot, Worded}
use Rattle.law_orders.proofs.Spelling.{not_null, dot-free-above-dot, spelling-is-word-order, reached-order}
use Rattle.law_lines.specs.Statements.{Readable, line_map}
use Rattle.law_lines.specs.Within.{NameWithin, Within}
use Rattle.law_lines.specs.Declarations.{types-ascending}

every-of : {A : Type 0} (P : A → Type 0) (l : List A) → ((x : A) → In x l → P x) → Every P l
every-of P [] h = tt
every-of P (x ∷ l) h = (h x (Memᴰ.head refl), every-of P l (λ y i. h y (Memᴰ.tail i)))

pub worded : (ws : List (List ℕ)) (n : Name) → NameWithin (length ws) n → Worded ws n
worded ws n h = every-of _ n h.below

legal-name : (W : ℕ) (n : Name) → NameWithin W n → LegalName W n
legal-name W [] h = absurd (omega (arith, h.least))
legal-name W (a ∷ []) h = (h.below a (Memᴰ.head refl), tt)
legal-name W (a ∷ b ∷ []) h = (h.below a (Memᴰ.head refl), h.below b (Memᴰ.tail (Memᴰ.head refl)))
legal-name W (a ∷ b ∷ c ∷ n) h = let m = h.most in absurd (omega arith)

module _ (s : Sheet) (ok : Readable s) (within : Within s) where
  pub dot-free : DotFree s.words
  dot-free = record {
    ascend = ascends-sorted bytes-strict s.words (words-ascend s.words ok.words);
    filled = λ w i. not_null w (within.word w i).filled;
    least = λ w i. (within.word w i).least;
    no_dot = λ w i. (within.word w i).no_dot;
  }

  -- two names over the words, by the numbers of these and how far they reach
  pub by-reach : (a b : Name) → NameWithin (length s.words) a → NameWithin (length s.words) b → name_before s.words a b ≡ reached_before s.words a b
  by-reach a b h g = reached-order s.words dot-free a b (legal-name (length s.words) a h) (legal-name (length s.words) b g)

-- without hyphens by the numbers alone
module _ (s : Sheet) (ok : Readable s) (within : Within s) (plain : NoHyphen s.words) where
  pub above-dot : AboveDot s.words
  above-dot = dot-free-above-dot s.words (dot-free s ok within) plain

  -- two names over the words
  pub by-number : (a b : Name) → NameWithin (length s.words) a → NameWithin (length s.words) b → name_before s.words a b ≡ list_before a b
  by-number a b h g = spelling-is-word-order s.words above-dot a b (worded s.words a h) (worded s.words b g)

  -- two types of the sheet
  pub types-by-number : (T U : TypeInfo) → In T s.types → In U s.types → name_before s.words T.name U.name ≡ list_before T.name U.name
  types-by-number T U i j = by-number T.name U.name (within.type T i).name (within.type U j).name

  pub types-numbered : Sorted (λ (T U : TypeInfo). list_before T.name U.name ≡ true) (type_map_of s).types
  types-numbered =
      sorted-imp (type_map_of s).types (λ T U i j h. sym (types-by-number T U ((types-is s T).0 i) ((types-is s U).0 j)) ∙ h) (types-ascending s ok)

  pub declarations-numbered : Sorted (λ (P Q : LineType). list_before P.name Q.name ≡ true) (line_map s).types
  unfolding line_map_of line_type_of
  declarations-numbered = sorted-map (λ (P Q : LineType). list_before P.name Q.name ≡ true) line_type_of (type_map_of s).types types-numbered
