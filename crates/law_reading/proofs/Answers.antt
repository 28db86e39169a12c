-- Each refusal is answered exactly on its condition.
use Rattle.std.specs.Prelude.{true, false, ◌++◌, ◌≡◌, refl, ◌*◌, ◌≤◌, eqb, ltb, length}
use Rattle.std.proofs.Common.{sym, ap, ◌∙◌, subst, arith, le-ltb, ltb-false, ne_eqb, length-take}
use Rattle.std.proofs.lemmas.Bool.{eqb-false}
use Rattle.lists.specs.Tests.{never, or-false-left, or-false-right, or-false-both}
use Rattle.definitions.specs.Records.{Sheet}
use Rattle.definitions.specs.Bits.{bits_of}
use Rattle.definitions.specs.Parse.{past, not_allowed, Parsed, done, refused}
use Rattle.definitions.specs.Reading.{sheet}
use Rattle.definitions.specs.Checks.{bad_fill}
use Rattle.definitions.specs.Encoding.{encode}
use Rattle.definitions.specs.Relisted.{Holds}
use Rattle.definitions.specs.Answer.{most_rows, Input, refused_by, rest_of, sheet_of, early_refusals, reading_refusals, content_refusals, late_refusals, read_in, type_map_in, sheet_refusals, refusals, outcome}
use Rattle.law_orders.specs.Alike.{not-long, not-refused, not-filled, good-words, nothing-twice}
use Rattle.law_reading.specs.Statements.{EachOnItsCondition, AcceptedExactly, test17, test2, SheetTestsExactly, LimitExactly, AllFit, PastSheetTests, HeldPasses, PassedIsHeld, LegalPassesSheetTests, OnlyLegalPassesSheetTests, CutShort, MoreBytes}
use Rattle.law_reading.specs.Refusals.{Numbered, answered, none-answered, passed, none-append, all_pass}
use Rattle.law_reading.proofs.RoundTrip.{cut-short-read, more-read, nothing-legal-is-refused, nothing-illegal-is-read}

-- the eleven numbers differ
numbered : (i : Input) → Numbered (refusals i)
unfolding refusals
numbered i = record { positive = refl; apart = refl }

pub each-on-its-condition : EachOnItsCondition
unfolding outcome
each-on-its-condition i n h = answered i n (refusals i) (ne_eqb 0 n (λ e. omega arith)) (numbered i)

pub accepted-exactly : AcceptedExactly
unfolding outcome
accepted-exactly i = none-answered i (refusals i) (numbered i).positive

-- a parser gives one fault
one-fault : {A : Type 0} (r : Parsed A) → refused_by not_allowed r ≡ true → refused_by past r ≡ false
one-fault (done a rest) e = refl
one-fault (refused past) e = never refl (sym e)
one-fault (refused not_allowed) e = refl

pub sheet-tests-exactly : SheetTestsExactly
unfolding refusals
sheet-tests-exactly i =
    let e1 = each-on-its-condition i 1 (omega arith) in
    let e4 = each-on-its-condition i 4 (omega arith) in
    record {
      one = (λ h. (e1.0 h).1, λ h. e1.1 (tt, h));
      seventeen = each-on-its-condition i 17 (omega arith);
      two = each-on-its-condition i 2 (omega arith);
      three = each-on-its-condition i 3 (omega arith);
      four = (
        λ h. let t = e4.0 h in ((t.0.0, (t.0.1.0, (t.0.1.1.0, tt))), t.1),
        λ h. e4.1 ((h.0.0, (h.0.1.0, (h.0.1.1.0, (one-fault (read_in i) h.1, tt)))), h.1),
      );
      seven = each-on-its-condition i 7 (omega arith);
      five = each-on-its-condition i 5 (omega arith);
      six = each-on-its-condition i 6 (omega arith);
    }

-- ---- 17 and 2

pub limit-exactly : LimitExactly
limit-exactly s =
    let n = s.rows in (
      λ e.
          let z = eqb-false n 0 (or-false-left (eqb n 0) (ltb most_rows n) e) in
          let f = ltb-false most_rows n (or-false-right (eqb n 0) (ltb most_rows n) e) in
          (omega (arith, z), f),
      λ h. or-false-both (ne_eqb n 0 (λ e. omega (arith, h.0, e))) (le-ltb most_rows n h.1),
    )

module _ (i : Input) where
  pub limit-passes : AllFit i → test17 i ≡ false
  limit-passes f = (limit-exactly i.settings).1 (f.some, f.few)

  pub room-passes : AllFit i → test2 i ≡ false
  room-passes f = le-ltb (length i.diagnosis) (6 * i.settings.rows) f.room

  pub rows-fit : test17 i ≡ false → test2 i ≡ false → AllFit i
  rows-fit l e =
      let x = (limit-exactly i.settings).0 l in
      record { some = x.0; few = x.1; room = ltb-false (length i.diagnosis) (6 * i.settings.rows) e }

-- ---- the tests before the order

pub held-passes : HeldPasses
held-passes i s h =
    let t = h.held in
    let early = early_refusals i in
    let reading = reading_refusals (read_in i) in
    none-append (early ++ reading) (content_refusals (sheet_of (read_in i)))
    (none-append early reading
    (not-long t, (limit-passes i h.fit, (room-passes i h.fit, tt)))
    (not-refused t past, (not-refused t not_allowed, (not-filled t, tt))))
    (good-words t, (nothing-twice t, tt))

-- what has no fault is read
read_done : (r : Parsed Sheet) → refused_by past r ≡ false → refused_by not_allowed r ≡ false → r ≡ done (sheet_of r) (rest_of r)
read_done (done s rest) p q = refl
read_done (refused past) p q = never refl p
read_done (refused not_allowed) p q = never refl q

pub passed-is-held : PassedIsHeld
passed-is-held i h =
    let r = read_in i in
    let l = sheet_refusals i in
    record {
      held = record {
        rest = rest_of r;
        short = ltb-false 40960 (length i.sheet) (passed 1 l h);
        read = read_done r (passed 3 l h) (passed 4 l h);
        fill = passed 7 l h;
        words = passed 5 l h;
        once = passed 6 l h;
      };
      fit = rows-fit i (passed 17 l h) (passed 2 l h);
    }

-- ---- legal maps

pub legal-passes-sheet-tests : LegalPassesSheetTests
unfolding outcome refusals
legal-passes-sheet-tests i s h e d =
    let t : PastSheetTests i s = record { held = subst (λ l. Holds l s) (sym e) (nothing-legal-is-refused s h).0; fit = d } in
    all_pass i (sheet_refusals i) (late_refusals i (type_map_in i)) (held-passes i s t)

pub only-legal-passes-sheet-tests : OnlyLegalPassesSheetTests
only-legal-passes-sheet-tests i b h =
    let t = passed-is-held i h in
    let r = t.held in
    let x = nothing-illegal-is-read i.sheet (sheet_of (read_in i)) r.rest b r.read r.fill r.words r.once in
    (sheet_of (read_in i), x.0, x.1, t.fit)

-- ---- sheets that are cut short, or go on

pub cut-short-is-3 : CutShort
cut-short-is-3 i s k h l e d =
    let r : read_in i ≡ refused past = ap (λ l. sheet (bits_of l)) e ∙ cut-short-read s k h l in
    let n : length i.sheet ≤ 40960 = omega (arith, ap length e, length-take k (encode s), (nothing-legal-is-refused s h).0.short) in
    (sheet-tests-exactly i).three.1 (
      (le-ltb 40960 (length i.sheet) n, (limit-passes i d, (room-passes i d, tt))),
      ap (refused_by past) r,
    )

pub more-bytes-is-7 : MoreBytes
more-bytes-is-7 i s b more h e n d =
    let t = more-read s b more h in
    let r : read_in i ≡ done s t.0 = ap (λ l. sheet (bits_of l)) e ∙ t.1 in
    (sheet-tests-exactly i).seven.1 (
      (le-ltb 40960 (length i.sheet) n, (limit-passes i d, (room-passes i d, (ap (refused_by past) r, (ap (refused_by not_allowed) r, tt))))),
      ap (λ p. bad_fill (rest_of p)) r ∙ t.2,
    )
