-- When bytes are decoded, and when and why they are turned back.
use Rattle.std.specs.Prelude.{Bool, true, false, List, [], ◌≡◌, refl, ℕ}
use Rattle.std.proofs.Common.{sym, ap, ◌∙◌}
use Rattle.lists.specs.Tests.{by, never}
use Rattle.definitions.specs.Bits.{bits_of}
use Rattle.definitions.specs.Parse.{Fault, Parsed, done, refused}
use Rattle.definitions.specs.Records.{Sheet}
use Rattle.definitions.specs.Reading.{sheet}
use Rattle.definitions.specs.Checks.{bad_fill, bad_words, something_twice}
use Rattle.definitions.specs.Map.{TypeMap}
use Rattle.definitions.specs.Answer.{sheet_fault}
use Rattle.law_decoding.specs.Decoding.{Decoding, turned_back, whole, whole_of, tested, of_parsed, decoded}
use Rattle.law_decoding.specs.Statements.{HeldIsWhole, Held, WholeIsHeld, Why, unread, fill, words, twice, TurnedBackWhy}

-- ---- two forms

is_whole : Decoding → Bool
is_whole (turned_back n) = false
is_whole (whole ws m) = true

number_in : Decoding → ℕ
number_in (turned_back n) = n
number_in (whole ws m) = 0

words_in : Decoding → List (List ℕ)
words_in (turned_back n) = []
words_in (whole ws m) = ws

map_in : TypeMap → Decoding → TypeMap
map_in d (turned_back n) = d
map_in d (whole ws m) = m

not-whole : {C : Type 0} {n : ℕ} {ws : List (List ℕ)} {m : TypeMap} → turned_back n ≡ whole ws m → C
unfolding is_whole
not-whole e = never {b = true} refl (sym (ap is_whole e))

-- ---- decoded as tested

pub was_read : (bytes : List ℕ) (s : Sheet) (rest : List Bool) → sheet (bits_of bytes) ≡ done s rest → decoded bytes ≡ tested s rest
unfolding decoded
was_read bytes s rest e = ap of_parsed e

pub not-read : (bytes : List ℕ) (f : Fault) → sheet (bits_of bytes) ≡ refused f → decoded bytes ≡ turned_back (sheet_fault f)
unfolding decoded
not-read bytes f e = ap of_parsed e

module _ (s : Sheet) (rest : List Bool) where
  pub seven : bad_fill rest ≡ true → tested s rest ≡ turned_back 7
  seven a = rw a

  pub five : bad_fill rest ≡ false → bad_words s.words ≡ true → tested s rest ≡ turned_back 5
  five a b = rw (a, b)

  pub six : bad_fill rest ≡ false → bad_words s.words ≡ false → something_twice s ≡ true → tested s rest ≡ turned_back 6
  six a b c = rw (a, b, c)

  pub passed : bad_fill rest ≡ false → bad_words s.words ≡ false → something_twice s ≡ false → tested s rest ≡ whole_of s
  passed a b c = rw (a, b, c)

pub held-is-whole : HeldIsWhole
held-is-whole bytes s h = was_read bytes s h.rest h.read ∙ passed s h.rest h.fill h.words h.once

pub whole-is-held : WholeIsHeld
unfolding decoded words_in map_in
whole-is-held bytes ws m short = go (sheet (bits_of bytes)) refl
  where
    go : (p : Parsed Sheet) → sheet (bits_of bytes) ≡ p → of_parsed p ≡ whole ws m → Held bytes ws m
    go (refused f) q e = not-whole e
    go (done s rest) q e =
        by (bad_fill rest) (λ a. not-whole (sym (seven s rest a) ∙ e)) (λ a.
        by (bad_words s.words) (λ b. not-whole (sym (five s rest a b) ∙ e)) (λ b.
        by (something_twice s) (λ c. not-whole (sym (six s rest a b c) ∙ e)) (λ c.
        let f = sym (passed s rest a b c) ∙ e in
        record {
          s = s;
          holds = record { rest = rest; short = short; read = q; fill = a; words = b; once = c };
          words = ap words_in f;
          map = ap (map_in m) f;
        })))

pub turned-back-why : TurnedBackWhy
unfolding decoded number_in
turned-back-why bytes n = go (sheet (bits_of bytes)) refl
  where
    go : (p : Parsed Sheet) → sheet (bits_of bytes) ≡ p → of_parsed p ≡ turned_back n → Why bytes n
    go (refused f) q e = unread f q (sym (ap number_in e))
    go (done s rest) q e =
        by (bad_fill rest) (λ a. fill s rest q a (ap number_in (sym e ∙ seven s rest a))) (λ a.
        by (bad_words s.words) (λ b. words s rest q a b (ap number_in (sym e ∙ five s rest a b))) (λ b.
        by (something_twice s) (λ c. twice s rest q a b c (ap number_in (sym e ∙ six s rest a b c))) (λ c.
        not-whole (sym e ∙ passed s rest a b c))))
