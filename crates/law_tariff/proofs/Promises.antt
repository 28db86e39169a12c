-- The order of the rows and that of the items do not matter, nor does how a sheet is listed.
use Rattle.std.specs.Prelude.{false, ◌≡◌, ℕ, zero, suc, ◌<◌, ℤ, ◌+ℤ◌}
use mathlib.Core.List.{List, ◌++◌, Permᴰ}
use Rattle.std.proofs.Math.Path.{refl}
use Rattle.std.proofs.Common.{sym, ap, ap₂, ◌∙◌, subst, arith}
use Rattle.std.proofs.Math.IntN.{+ℤ_assoc, +ℤ_comm}
use Rattle.std.proofs.Math.ListN.{length}
use Rattle.lists.specs.Lists.{all, repeats}
use Rattle.lists.specs.Tests.{by, never, all_same}
use Rattle.lists.specs.Sorting.{perm_in, perm-length, perm-sorted}
use Rattle.lists.specs.Appending.{map_same}
use Rattle.lists.specs.Permutations.{perm-map, perm-filter, distinct-perm}
use Rattle.definitions.specs.Records.{Sheet, Item}
use Rattle.definitions.specs.Parse.{Parsed, done, refused}
use Rattle.definitions.specs.Map.{type_map_of}
use Rattle.definitions.specs.Lines.{LineOf}
use Rattle.definitions.specs.Answer.{schedule, schedule_of}
use Rattle.law_reading.specs.Parsers.{done-value}
use Rattle.law_schedule.proofs.Listed.{listed-exactly}
use Rattle.law_relisting.proofs.Alike.{answers-alike}
use Rattle.tariff_definitions.specs.Decoded.{schedule_from}
use Rattle.tariff_definitions.specs.Tariff.{TariffRow, rows_of, allowed_row, same_key, tariff_number, charges, sum, charge, total_of, charged_for, values_in, charged}
use Rattle.law_tariff.specs.Statements.{SameKey, numbers_of, AnyRowOrder, FromTheSheet, RelistedTotals}
use Rattle.law_tariff.proofs.Charged.{good-tariff, bad-tariff, legal-sum}
use Rattle.law_tariff.proofs.Tariffs.{keys-apart, length-numbers, rows_back}

-- ---- sums

sum-shuffled : {l k : List ℤ} → Permᴰ l k → sum l ≡ sum k
unfolding sum
sum-shuffled mathlib.Core.List.Permᴰ.nil = refl
sum-shuffled (mathlib.Core.List.Permᴰ.cons e p) = ap₂ (λ x y. x +ℤ y) e (sum-shuffled p)
sum-shuffled (mathlib.Core.List.Permᴰ.swap {a = a} {b = b} {l = l} e f) =
    sym (+ℤ_assoc a b (sum l)) ∙ ap (λ z. z +ℤ sum l) (+ℤ_comm a b) ∙ +ℤ_assoc b a (sum l) ∙ ap₂ (λ x y. x +ℤ (y +ℤ sum l)) f e
sum-shuffled (mathlib.Core.List.Permᴰ.trans p q) = sum-shuffled p ∙ sum-shuffled q

-- The rows in another order charge as much, and so they do for the items in another order.
rows-shuffled : {rows shuffled : List TariffRow} → Permᴰ rows shuffled → (xs : List Item) → total_of rows xs ≡ total_of shuffled xs
unfolding total_of charge
rows-shuffled {rows} {shuffled} p xs =
    ap sum (map_same (charge rows) (charge shuffled) xs (λ x i. sum-shuffled (perm-map (λ (r : TariffRow). r.rate) (perm-filter (charges x) p))))

items-shuffled : (rows : List TariffRow) {xs ys : List Item} → Permᴰ xs ys → total_of rows xs ≡ total_of rows ys
unfolding total_of
items-shuffled rows p = sum-shuffled (perm-map (charge rows) p)

-- ---- the tests of a tariff

once-shuffled : {l k : List TariffRow} → Permᴰ l k → repeats same_key l ≡ false → repeats same_key k ≡ false
once-shuffled {l} {k} p e = (keys-apart k).1 (perm-sorted (λ r q. SameKey r q → ⊥) (λ r q n s. n (sym s.0, sym s.1)) p ((keys-apart l).0 e))

repeats-shuffled : {l k : List TariffRow} → Permᴰ l k → repeats same_key l ≡ repeats same_key k
repeats-shuffled {l} {k} p =
    by (repeats same_key l)
    (λ a. by (repeats same_key k) (λ b. a ∙ sym b) (λ b. never a (once-shuffled (mathlib.Core.List.Permᴰ.symm p) b)))
    (λ a. a ∙ sym (once-shuffled p a))

module _ (rows shuffled : List TariffRow) (broken : List ℤ) (p : Permᴰ rows shuffled) (few : length broken < 3) where
  abbrev t : List ℤ
  t = numbers_of rows ++ broken

  abbrev t' : List ℤ
  t' = numbers_of shuffled ++ broken

  -- What depends on the rows, but not on their order, is the same of both tariffs.
  of-rows : {B : Type 0} (f : List TariffRow → B) → f rows ≡ f shuffled → f (rows_of t) ≡ f (rows_of t')
  of-rows f e = ap f (rows_back rows broken few) ∙ e ∙ sym (ap f (rows_back shuffled broken few))

  tariff-shuffled : tariff_number t ≡ tariff_number t'
  unfolding tariff_number
  tariff-shuffled =
      let n : length t ≡ length t' = omega (arith, length-numbers rows broken, length-numbers shuffled broken, perm-length p) in
      rw (
        n,
        of-rows (all allowed_row) (all_same allowed_row rows shuffled (λ x. (perm_in p, perm_in (mathlib.Core.List.Permᴰ.symm p)))),
        of-rows (repeats same_key) (repeats-shuffled p),
      )
      refl

  charged-shuffled : (W : ℕ) (bytes : List ℕ) → charged t W bytes ≡ charged t' W bytes
  charged-shuffled W bytes = go (tariff_number t') tariff-shuffled refl
    where
      all-items : (r : Parsed (List ℕ)) → charged_for (rows_of t) r ≡ charged_for (rows_of t') r
      all-items (done vs rest) = of-rows (λ l. charged_for l (done vs rest)) (ap (λ z. record { number = 0; total = z }) (rows-shuffled p (schedule_from vs).items))
      all-items (refused f) = refl

      go : (n : ℕ) → tariff_number t ≡ n → tariff_number t' ≡ n → charged t W bytes ≡ charged t' W bytes
      go zero e f = good-tariff t W bytes e ∙ all-items (values_in W bytes) ∙ sym (good-tariff t' W bytes f)
      go (suc n) e f = bad-tariff t W bytes n e ∙ sym (bad-tariff t' W bytes n f)

pub any-row-order : AnyRowOrder
any-row-order rows shuffled broken W bytes p few = charged-shuffled rows shuffled broken p few W bytes

-- ---- sheets

pub from-the-sheet : FromTheSheet
from-the-sheet t i s xs e q n h m =
    let l = listed-exactly i q n in
    let c = schedule_of schedule (type_map_of l.s) in
    let one : l.s ≡ s = done-value l.s s l.holds.rest h.rest (sym l.holds.read ∙ h.read) in
    let lines = l.items.in_order.ordered.lines in
    let p : Permᴰ c.items xs =
    distinct-perm c.items xs l.items.once m.once
    (λ x. (λ j. (m.lines x).1 (subst (λ u. LineOf u x) one ((lines x).0 j)), λ j. (lines x).1 (subst (λ u. LineOf u x) (sym one) ((m.lines x).0 j)))) in
    ap₂ (λ (u : Sheet) b. charged t (length u.words) b) (sym one) l.bytes.packed
    ∙ legal-sum t (length l.s.words) c e l.bytes.legal
    ∙ ap (λ z. record { number = 0; total = z }) (items-shuffled (rows_of t) p)

pub relisted-totals : RelistedTotals
relisted-totals t i j r e = ap₂ (λ ws b. charged t (length ws) b) r.relisted.words ((answers-alike i j r).written e)
