-- Which tariffs are refused, and with which number.
use Rattle.std.specs.Prelude.{Bool, true, false, not, ◌&&◌, ◌||◌, List, [], ◌∷◌, ◌++◌, ◌↔◌, ◌≡◌, refl, ℕ, zero, suc, ◌+◌, ◌*◌, ◌%◌, ◌≤◌, ◌<◌, eqb, leb, ltb, ℤ, pos, negsuc, neg_ℤ, nat_abs, length}
use mathlib.Core.List.Memᴰ
use Rattle.std.proofs.Common.{append-nil, sym, ap, ◌∙◌, subst, le_antisymm, arith, ltb-true, ltb-false, leb-true, eqb-true, le-leb, eq-eqb}
use Rattle.std.proofs.lemmas.Bool.{not-false}
use Rattle.lists.specs.Lists.{In, Sorted, any, all, repeats}
use Rattle.lists.specs.Tests.{by, never, not_so, cons-elim, and_left, and_right, and_both, or_elim, or_left, or_right, neither, or-false-both, any-in, any_of}
use Rattle.definitions.specs.Legal.{Every}
use Rattle.definitions.specs.Parse.{Parsed, done, refused}
use Rattle.definitions.specs.ScheduleFields.{packed, unwritten}
use Rattle.law_records.proofs.Refused.{three-numbers}
use Rattle.tariff_definitions.specs.Tariff.{TariffRow, rows_of, most_rate, within, same, allowed_row, same_key, tariff_number, Charged, values_in, charged_for, charged}
use Rattle.law_tariff.specs.Statements.{LegalKey, real, virtual, line, LegalRow, SameKey, KeyTwice, first, behind, numbers_of, LegalRows, LegalTariff, Refusals, TariffNumbers, TariffAccepted, SixNumbers, RefusalsChargeNothing}
use Rattle.law_tariff.proofs.Charged.{good-tariff, bad-tariff, numbers-of-schedule}

-- ---- numbers

-- Two numbers each at most the other are one.
pub same-equal : (x z : ℤ) → same x z ≡ true → x ≡ z
same-equal (pos a) (pos b) e =
    ap pos (le_antisymm (leb-true a b (and_left (leb a b) (leb b a) e)) (leb-true b a (and_right (leb a b) (leb b a) e)))
same-equal (pos a) (negsuc b) e = never e refl
same-equal (negsuc a) (pos b) e = never e refl
same-equal (negsuc a) (negsuc b) e =
    ap negsuc (le_antisymm (leb-true a b (and_right (leb b a) (leb a b) e)) (leb-true b a (and_left (leb b a) (leb a b) e)))

self-same : (x : ℤ) → same x x ≡ true
self-same (pos a) = and_both (le-leb a a (omega arith)) (le-leb a a (omega arith))
self-same (negsuc a) = and_both (le-leb a a (omega arith)) (le-leb a a (omega arith))

equal-same : {x z : ℤ} → x ≡ z → same x z ≡ true
equal-same {x} e = subst (λ z. same x z ≡ true) e (self-same x)

-- A number between two that are not negative.
within-pos : (a b : ℕ) (z : ℤ) → within (pos a) (pos b) z ≡ true → (n : ℕ) × (z ≡ pos n) × (a ≤ n) × (n ≤ b)
within-pos a b (pos n) e = (n, refl, leb-true a n (and_left (leb a n) (leb n b) e), leb-true n b (and_right (leb a n) (leb n b) e))
within-pos a b (negsuc n) e = never e refl

pos-within : (a b n : ℕ) (z : ℤ) → z ≡ pos n → a ≤ n → n ≤ b → within (pos a) (pos b) z ≡ true
pos-within a b n z e l m = subst (λ y. within (pos a) (pos b) y ≡ true) (sym e) (and_both (le-leb a n l) (le-leb n b m))

-- A rate, whatever its sign (FORMAT 13.1).
rate-within : (z : ℤ) → within (neg_ℤ most_rate) most_rate z ≡ true → nat_abs z ≤ 99999
rate-within (pos n) e = leb-true n 99999 e
rate-within (negsuc n) e = omega (arith, leb-true n 99998 (and_left (leb n 99998) true e))

within-rate : (z : ℤ) → nat_abs z ≤ 99999 → within (neg_ℤ most_rate) most_rate z ≡ true
within-rate (pos n) h = le-leb n 99999 h
within-rate (negsuc n) h = and_both (le-leb n 99998 (omega arith)) refl

-- ---- a row

resource-key : (k p : ℕ) {s n : ℤ} → s ≡ pos k → k ≤ 1 → n ≡ pos p → 2 ≤ p → p ≤ 17 → LegalKey s n
resource-key zero p e l f m o = real p e f m o
resource-key (suc zero) p e l f m o = virtual p e f m o
resource-key (suc (suc k)) p e l f m o = absurd (omega arith)

-- The tests of a row's sort and number (FORMAT 13.1).
abbrev resource_test : TariffRow → Bool
resource_test r = within (pos 0) (pos 1) r.sort && within (pos 2) (pos 17) r.number

abbrev line_test : TariffRow → Bool
line_test r = same (pos 2) r.sort && same (pos 0) r.number

key-legal : (r : TariffRow) → (resource_test r || line_test r) ≡ true → LegalKey r.sort r.number
key-legal r e =
    or_elim (resource_test r) (line_test r) e
    (λ h.
    let s = within-pos 0 1 r.sort (and_left _ (within (pos 2) (pos 17) r.number) h) in
    let n = within-pos 2 17 r.number (and_right (within (pos 0) (pos 1) r.sort) _ h) in
    resource-key s.0 n.0 s.1 s.3 n.1 n.2 n.3)
    (λ h.
    line (sym (same-equal (pos 2) r.sort (and_left _ (same (pos 0) r.number) h)))
    (sym (same-equal (pos 0) r.number (and_right (same (pos 2) r.sort) _ h))))

legal-key : (r : TariffRow) → LegalKey r.sort r.number → (resource_test r || line_test r) ≡ true
legal-key r (real p e f l m) =
    or_left (line_test r) (and_both (pos-within 0 1 0 r.sort e (omega arith) (omega arith)) (pos-within 2 17 p r.number f l m))
legal-key r (virtual p e f l m) =
    or_left (line_test r) (and_both (pos-within 0 1 1 r.sort e (omega arith) (omega arith)) (pos-within 2 17 p r.number f l m))
legal-key r (line e f) = or_right (resource_test r) (and_both (equal-same (sym e)) (equal-same (sym f)))

-- A row is allowed exactly if it is legal.
pub row-legal : (r : TariffRow) → (allowed_row r ≡ true) ↔ LegalRow r
unfolding allowed_row
row-legal r = (
  λ e.
      let a = within (neg_ℤ most_rate) most_rate r.rate in
      let b = resource_test r || line_test r in
      record { key = key-legal r (and_right a b e); rate = rate-within r.rate (and_left a b e) },
  λ h. and_both (within-rate r.rate h.rate) (legal-key r h.key),
)

-- ---- rows

pub rows-legal : (l : List TariffRow) → all allowed_row l ≡ true → Every LegalRow l
rows-legal [] e = tt
rows-legal (r ∷ l) e = ((row-legal r).0 (and_left (allowed_row r) (all allowed_row l) e), rows-legal l (and_right (allowed_row r) (all allowed_row l) e))

legal-rows : (l : List TariffRow) → Every LegalRow l → all allowed_row l ≡ true
legal-rows [] h = refl
legal-rows (r ∷ l) h = and_both ((row-legal r).1 h.0) (legal-rows l h.1)

repeats-twice : (l : List TariffRow) → repeats same_key l ≡ true → KeyTwice l
repeats-twice [] e = never e refl
repeats-twice (r ∷ l) e =
    or_elim (any (same_key r) l) (repeats same_key l) e
    (λ h.
    let t = any_of (same_key r) l h in
    let q = t.0 in
    let a = same r.sort q.sort in
    let b = same r.number q.number in
    first q t.1 (same-equal r.sort q.sort (and_left a b t.2), same-equal r.number q.number (and_right a b t.2)))
    (λ h. behind (repeats-twice l h))

twice-repeats : {l : List TariffRow} → KeyTwice l → repeats same_key l ≡ true
twice-repeats (first {r = r} {l = l} q i s) = or_left (repeats same_key l) (any-in (same_key r) i (and_both (equal-same s.0) (equal-same s.1)))
twice-repeats (behind {r = r} {l = l} k) = or_right (any (same_key r) l) (twice-repeats k)

-- Keys differ exactly if none stands twice.
not-twice : (l : List TariffRow) → (KeyTwice l → ⊥) → Sorted (λ r q. SameKey r q → ⊥) l
not-twice [] h = tt
not-twice (r ∷ l) h = (λ q i s. h (first q i s), not-twice l (λ k. h (behind k)))

apart-once : {l : List TariffRow} → Sorted (λ r q. SameKey r q → ⊥) l → KeyTwice l → ⊥
apart-once a (first q i s) = a.0 q i s
apart-once a (behind k) = apart-once a.1 k

pub keys-apart : (l : List TariffRow) → (repeats same_key l ≡ false) ↔ Sorted (λ r q. SameKey r q → ⊥) l
keys-apart l = (λ e. not-twice l (λ k. never (twice-repeats k) e), λ a. not_so (λ e. apart-once a (repeats-twice l e)))

-- ---- the numbers of rows

pub length-numbers : (rows : List TariffRow) (broken : List ℤ) → length (numbers_of rows ++ broken) ≡ 3 * length rows + length broken
unfolding numbers_of
length-numbers [] broken = omega arith
length-numbers (r ∷ l) broken = omega (arith, length-numbers l broken)

pub rows_back : (rows : List TariffRow) (broken : List ℤ) → length broken < 3 → rows_of (numbers_of rows ++ broken) ≡ rows
unfolding numbers_of rows_of
rows_back [] [] h = refl
rows_back [] (a ∷ []) h = refl
rows_back [] (a ∷ b ∷ []) h = refl
rows_back [] (a ∷ b ∷ c ∷ l) h = absurd (omega arith)
rows_back (r ∷ l) broken h = ap (λ k. r ∷ k) (rows_back l broken h)

whole-rows : (t : List ℤ) → length t % 3 ≡ 0 → t ≡ numbers_of (rows_of t)
unfolding numbers_of rows_of
whole-rows [] h = refl
whole-rows (a ∷ []) h = absurd (omega arith)
whole-rows (a ∷ b ∷ []) h = absurd (omega arith)
whole-rows (a ∷ b ∷ c ∷ t) h = ap (λ l. a ∷ b ∷ c ∷ l) (whole-rows t (omega arith))

-- A tariff is whole legal rows of one kind only.
one-rows : {t : List ℤ} {rows : List TariffRow} → LegalRows t rows → rows_of t ≡ rows
one-rows {rows = rows} h = ap rows_of (h.whole ∙ sym (append-nil (numbers_of rows))) ∙ rows_back rows [] (omega arith)

-- A legal tariff has no key twice, whatever rows it is taken for.
other-rows : {t : List ℤ} {rows : List TariffRow} → LegalTariff t → LegalRows t rows → KeyTwice rows → ⊥
other-rows g h k = apart-once g.apart (subst KeyTwice (sym (one-rows h) ∙ one-rows g.legal) k)

-- ---- the tests of a tariff

-- The test for 15 (FORMAT 13.2).
abbrev bad_rows : List ℤ → Bool
bad_rows t = not (eqb (length t % 3) 0) || not (all allowed_row (rows_of t))

good-rows : (t : List ℤ) → bad_rows t ≡ false → LegalRows t (rows_of t)
good-rows t e =
    let n = neither (not (eqb (length t % 3) 0)) (not (all allowed_row (rows_of t))) e in
    record {
      whole = whole-rows t (eqb-true (length t % 3) 0 (not-false (eqb (length t % 3) 0) n.0));
      legal = rows-legal (rows_of t) (not-false (all allowed_row (rows_of t)) n.1);
    }

rows-good : {t : List ℤ} {rows : List TariffRow} → LegalRows t rows → bad_rows t ≡ false
rows-good {t} {rows} h =
    let n : length t % 3 ≡ 0 = omega (arith, ap length (h.whole ∙ sym (append-nil (numbers_of rows))), length-numbers rows []) in
    or-false-both (ap not (eq-eqb (length t % 3) 0 n)) (ap not (ap (all allowed_row) (one-rows h) ∙ legal-rows rows h.legal))

-- What the tests of a tariff find, with the number n; where they find nothing, P of it.
data Tested (P : ℕ → Type 0) (t : List ℤ) (n : ℕ) : Type 0 where
  long : n ≡ 14 → 99 < length t → Tested P t n
  broken : n ≡ 15 → length t ≤ 99 → (((rows : List TariffRow) × LegalRows t rows) → ⊥) → Tested P t n
  twice : n ≡ 16 → length t ≤ 99 → (rows : List TariffRow) → LegalRows t rows → KeyTwice rows → Tested P t n
  good : P n → LegalTariff t → Tested P t n

tested : (t : List ℤ) → Tested (λ n. n ≡ 0) t (tariff_number t)
unfolding tariff_number
tested t =
    by (ltb 99 (length t))
    (λ a. long (rw a refl) (ltb-true 99 (length t) a))
    (λ a.
    let f = ltb-false 99 (length t) a in
    by (bad_rows t)
    (λ b. broken (rw (a, b) refl) f (λ h. never b (rows-good h.1)))
    (λ b.
    by (repeats same_key (rows_of t))
    (λ c. twice (rw (a, b, c) refl) f (rows_of t) (good-rows t b) (repeats-twice (rows_of t) c))
    (λ c.
    good (rw (a, b, c) refl)
    (record { few = f; rows = rows_of t; legal = good-rows t b; apart = (keys-apart (rows_of t)).0 c }))))

pub tariff-accepted : TariffAccepted
tariff-accepted t = go (tested t)
  where
    go : Tested (λ n. n ≡ 0) t (tariff_number t) → (tariff_number t ≡ 0) ↔ LegalTariff t
    go (long e l) = (λ q. absurd (omega arith), λ g. absurd (omega (arith, g.few)))
    go (broken e l h) = (λ q. absurd (omega arith), λ g. absurd (h (g.rows, g.legal)))
    go (twice e l rows h k) = (λ q. absurd (omega arith), λ g. absurd (other-rows g h k))
    go (good e g) = (λ q. g, λ h. e)

-- The rows of a tariff that is not refused are legal, and their keys differ.
pub legal-parts : (t : List ℤ) → tariff_number t ≡ 0 → Every LegalRow (rows_of t) × Sorted (λ r q. SameKey r q → ⊥) (rows_of t)
legal-parts t e =
    let g = (tariff-accepted t).0 e in
    let q = one-rows g.legal in
    rw q (g.legal.legal, g.apart)

-- ---- the number answered

abbrev number_of : Charged → ℕ
number_of c = c.number

-- What a schedule is answered by (FORMAT 12.3).
abbrev of_schedule : List ℕ
of_schedule = 0 ∷ 11 ∷ 12 ∷ []

answered : (t : List ℤ) (W : ℕ) (bytes : List ℕ) → Tested (λ n. In n of_schedule) t (charged t W bytes).number
answered t W bytes = go (tested t)
  where
    go : Tested (λ n. n ≡ 0) t (tariff_number t) → Tested (λ n. In n of_schedule) t (charged t W bytes).number
    go (long e l) = long (ap number_of (bad-tariff t W bytes 13 e)) l
    go (broken e l h) = broken (ap number_of (bad-tariff t W bytes 14 e)) l h
    go (twice e l rows h k) = twice (ap number_of (bad-tariff t W bytes 15 e)) l rows h k
    go (good e g) = good (subst (λ n. In n of_schedule) (sym (numbers-of-schedule t W bytes e)) (three-numbers packed unwritten W bytes [])) g

small : {n : ℕ} → In n of_schedule → n ≤ 12
small i =
    cons-elim i (λ e. omega arith)
    (λ j. cons-elim j (λ e. omega arith) (λ k. cons-elim k (λ e. omega arith) (λ h. absurd (Memᴰ.not-nil h))))

yes_both : {A B : Type 0} → A → B → A ↔ B
yes_both a b = (λ x. b, λ y. a)

no_both : {A B : Type 0} → (A → ⊥) → (B → ⊥) → A ↔ B
no_both f g = (λ x. absurd (f x), λ y. absurd (g y))

refusals-of : (t : List ℤ) (n : ℕ) → Tested (λ n. In n of_schedule) t n → Refusals t n
refusals-of t n (long e l) = record {
  fourteen = yes_both e l;
  fifteen = no_both (λ q. omega arith) (λ h. omega (arith, h.0));
  sixteen = no_both (λ q. omega arith) (λ h. omega (arith, h.0));
}
refusals-of t n (broken e l h) = record {
  fourteen = no_both (λ q. omega arith) (λ k. omega arith);
  fifteen = yes_both e (l, h);
  sixteen = no_both (λ q. omega arith) (λ k. h (k.1.0, k.1.1));
}
refusals-of t n (twice e l rows h k) = record {
  fourteen = no_both (λ q. omega arith) (λ k. omega arith);
  fifteen = no_both (λ q. omega arith) (λ j. j.1 (rows, h));
  sixteen = yes_both e (l, (rows, h, k));
}
refusals-of t n (good i g) = record {
  fourteen = no_both (λ q. omega (arith, small i)) (λ l. omega (arith, g.few));
  fifteen = no_both (λ q. omega (arith, small i)) (λ h. h.1 (g.rows, g.legal));
  sixteen = no_both (λ q. omega (arith, small i)) (λ h. other-rows g h.1.1 h.1.2);
}

pub tariff-numbers : TariffNumbers
tariff-numbers t W bytes = refusals-of t (charged t W bytes).number (answered t W bytes)

pub six-numbers : SixNumbers
six-numbers t W bytes = go (answered t W bytes)
  where
    go : Tested (λ n. In n of_schedule) t (charged t W bytes).number → In (charged t W bytes).number (of_schedule ++ (14 ∷ 15 ∷ 16 ∷ []))
    go (long e l) = Memᴰ.append_right of_schedule (Memᴰ.head e)
    go (broken e l h) = Memᴰ.append_right of_schedule (Memᴰ.tail (Memᴰ.head e))
    go (twice e l rows h k) = Memᴰ.append_right of_schedule (Memᴰ.tail (Memᴰ.tail (Memᴰ.head e)))
    go (good i g) = Memᴰ.append_left (14 ∷ 15 ∷ 16 ∷ []) i

pub refusals-charge-nothing : RefusalsChargeNothing
refusals-charge-nothing t W bytes h = go (tariff_number t) refl (values_in W bytes) refl
  where
    go : (n : ℕ) → tariff_number t ≡ n → (p : Parsed (List ℕ)) → values_in W bytes ≡ p → (charged t W bytes).total ≡ pos 0
    go (suc n) e p v = ap (λ (c : Charged). c.total) (bad-tariff t W bytes n e)
    go zero e (refused f) v = ap (λ (c : Charged). c.total) (good-tariff t W bytes e ∙ ap (charged_for (rows_of t)) v)
    go zero e (done vs rest) v = absurd (h (ap number_of (good-tariff t W bytes e ∙ ap (charged_for (rows_of t)) v)))
