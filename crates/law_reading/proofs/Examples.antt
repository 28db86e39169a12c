-- What is read is legal: the worked example, every construct, every count at its limit.
use Rattle.std.specs.Prelude.{false, [], ◌∷◌, ◌≡◌, refl, eqb, replicate}
use mathlib.Core.List.Memᴰ
use Rattle.std.proofs.Common.{eq-eqb}
use Rattle.lists.specs.Lists.{any, set_of, include}
use Rattle.lists.specs.Tests.{never, any-not}
use Rattle.definitions.specs.Records.{Sheet}
use Rattle.definitions.specs.Comparisons.{bytes_before, hyphen}
use Rattle.definitions.specs.Checks.{bad_words, names_twice, keys_twice, words_twice, same_annotation, annotations_twice, something_twice}
use Rattle.definitions.specs.Legal.{Legal}
use Rattle.definitions.specs.Encoding.{sheet_bits, encode}
use Rattle.law_orders.specs.Reach.{NoHyphen}
use Rattle.law_orders.specs.Statements.{DotFree, AsByNumber}
use Rattle.law_orders.proofs.Spelling.{legal-dot-free, no-hyphen-no-move}
use Rattle.law_reading.specs.Packed.{fill, pack-bytes}
use Rattle.law_reading.proofs.RoundTrip.{fill-good, nothing-illegal-is-read}
use Rattle.law_reading.specs.Examples.{ReadBack, worked, worked-read, everything, everything-read, at_limits, at_limits-read}

read-legal : (s : Sheet) → ReadBack s → bad_words s.words ≡ false → something_twice s ≡ false → Legal s
unfolding encode
read-legal s e w t = (nothing-illegal-is-read (encode s) s (replicate (fill (sheet_bits s)) false) (pack-bytes (sheet_bits s)) e (fill-good (sheet_bits s)) w t).0

pub worked-legal : Legal worked
unfolding set_of include bad_words bytes_before names_twice keys_twice words_twice same_annotation annotations_twice something_twice
worked-legal = read-legal worked worked-read refl refl

pub everything-legal : Legal everything
unfolding set_of include bad_words bytes_before names_twice keys_twice words_twice same_annotation annotations_twice something_twice
everything-legal = read-legal everything everything-read refl refl

pub at_limits-legal : Legal at_limits
unfolding set_of include bad_words bytes_before names_twice keys_twice words_twice same_annotation annotations_twice something_twice
at_limits-legal = read-legal at_limits at_limits-read refl refl

-- the worked example has no hyphen, so that the words' numbers alone decide; in the other one a word has two of them
worked-plain : NoHyphen worked.words
worked-plain w i b j e = never (eq-eqb b hyphen e) (any-not (λ b. eqb b hyphen) (any-not (any (λ b. eqb b hyphen)) {l = worked.words} refl i) j)

worked-by-number : AsByNumber worked
worked-by-number = no-hyphen-no-move worked worked-legal worked-plain

everything-dot-free : DotFree everything.words
everything-dot-free = legal-dot-free everything everything-legal

everything-hyphens : NoHyphen everything.words → ⊥
everything-hyphens plain = plain (65 ∷ 45 ∷ 95 ∷ 57 ∷ 45 ∷ []) (Memᴰ.head refl) hyphen (Memᴰ.tail (Memᴰ.head refl)) refl
