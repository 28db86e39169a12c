-- What a type inherits, entry after entry. No two share a word, so that they make at most 200 resources.
use Rattle.std.specs.Prelude.{List, [], ◌∷◌, ◌++◌, ◌≡◌, refl, ℕ, zero, suc, ◌+◌, ◌≤◌, ◌<◌, length, take, get_or}
use Rattle.std.proofs.Common.{sym, ap, ◌∙◌, add-one, not-suc-le-zero, le_of_suc-le-suc, arith}
use Rattle.std.proofs.Math.Seq
use Rattle.lists.specs.Appending.{map-append}
use Rattle.rows.specs.declared.Row.{Row}
use Rattle.rows.specs.Rows.{has}
use Rattle.definitions.specs.Records.{Name}
use Rattle.definitions.specs.Checks.{resources_of}
use Rattle.definitions.specs.Inherited.{InheritedAnnotation}
use Rattle.synth_dedup.specs.declared.Entry.{Entry}
use Rattle.synth_dedup.specs.Lists.{many, many-or, many-most}
use Rattle.synth_dedup.specs.Entries.{Sound, covers, Apart, cons}
use Rattle.synth_dedup.specs.EntryLaws.{zeros}
use Rattle.synth_dedup.specs.Reading.{resources_at, names_at, read, read_all}
use Rattle.synth_dedup.specs.ReadingLaws.{read_is}
use Rattle.synth_interpreting.specs.Entry.{size}

-- ---- one entry

pub read-resources : (names : List Name) (D : ℕ → Row) (e : Entry) → Sound e → resources_of (read names D e).annotation ≡ resources_at D e.words
read-resources names D e s = ap (λ (x : InheritedAnnotation). resources_of x.annotation) (read_is names D e s)

pub read-parents : (names : List Name) (D : ℕ → Row) (e : Entry) → (read names D e).parents ≡ names_at names e.parents
unfolding read
read-parents names D e = refl

-- ---- how many words the entries have

unfoldable pub total : List Entry → ℕ
total [] = 0
total (e ∷ l) = size e + total l

pub total-none : total [] ≡ 0
unfolding total
total-none = refl

many-none : (n : ℕ) → many (covers []) n ≡ 0
unfolding many
many-none zero = refl
many-none (suc n) = omega (arith, many-none n)

total-apart : (l : List Entry) → Apart l → total l ≡ many (covers l) 200
unfolding total
total-apart [] f = sym (many-none 200)
total-apart (e ∷ l) (cons s h f) = omega (arith, total-apart l f, many-or (has e.words) (covers l) 200 h)

total-step : (l : List Entry) (i : ℕ) → i < length l → total (take (suc i) l) ≡ total (take i l) + size (get_or l i zeros)
unfolding total
total-step [] i h = absurd (not-suc-le-zero h)
total-step (e ∷ l) zero h = omega arith
total-step (e ∷ l) (suc i) h = omega (arith, total-step l i (le_of_suc-le-suc h))

total-upto : (l : List Entry) (i : ℕ) → total (take i l) ≤ total l
unfolding total
total-upto [] zero = omega arith
total-upto [] (suc i) = omega arith
total-upto (e ∷ l) zero = omega arith
total-upto (e ∷ l) (suc i) = omega (arith, total-upto l i)

pub total-most : (l : List Entry) → Apart l → total l ≤ 200
total-most l f = omega (arith, total-apart l f, many-most (covers l) 200)

-- one more of the first n entries of an array
pub total-more : (l : List Entry) (i : ℕ) → i < length l → total (take i l) + size (get_or l i zeros) ≡ total (take (i + 1) l)
total-more l i h = sym (total-step l i h) ∙ ap (λ (k : ℕ). total (take k l)) (sym (add-one i))

pub total-room : (l : List Entry) (i : ℕ) → Apart l → i < length l → total (take i l) + size (get_or l i zeros) ≤ 200
total-room l i f h = omega (arith, total-more l i h, total-upto l (i + 1), total-most l f)

pub read_step : (names : List Name) (D : ℕ → Row) (l : List Entry) (i : ℕ) → i < length l →
    read_all names D (take i l) ++ (read names D (get_or l i zeros) ∷ []) ≡ read_all names D (take (i + 1) l)
read_step names D l i h = sym (map-append (read names D) (take i l) (get_or l i zeros ∷ [])) ∙ rw (add-one i, Seq.take-suc l i zeros h)
