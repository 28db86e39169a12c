use native.Mathlib.Omega.{arith}
use mathlib.Core.Path.{◌≡◌, sym, ap₂, ◌∙◌}
use mathlib.Core.Bool.{Bool}
use mathlib.Core.List.{List}
use Prim.Native.Nat.{ℕ, ◌+◌, ◌-◌, ◌*◌, ◌/◌, ◌%◌}
use lib.ListN.{drop}
use Rattle.lists.specs.Lists.{all}
use Rattle.definitions.specs.Bits.{pack_to}
use Rattle.bits.specs.NumberLaws.{num-lt}
use Rattle.sheet_words.specs.Bytes.{may_stand}
use Rattle.sheet_words.specs.Words.{bits_in}
use Rattle.sheet_words.specs.WordLaws.{text-last, text-six, text-not, text-none}
use Rattle.sheet_words.proofs.is_text.Goals as goal

-- the same test of as many bytes from the same place on
same : (inner : Bool) (bs : List Bool) (n m p q : ℕ) → n ≡ m → p ≡ q → all (may_stand inner) (pack_to n (drop p bs)) ≡ all (may_stand inner) (pack_to m (drop q bs))
same inner bs n m p q e f = ap₂ (λ (i j : ℕ). all (may_stand inner) (pack_to i (drop j bs))) e f

pub loop-i-init : goal.loop-i-init
loop-i-init c = let a = c.args in same a.inner (bits_in a.s) a.n (a.n - 6 * 0) a.at (a.at + 48 * 0) (omega arith) (omega arith)

pub is_spelt-requires : goal.is_spelt-requires
is_spelt-requires c = (omega arith, rw c.wide.ensures (num-lt 48 (drop (c.args.at + 48 * c.loop-i.i) (bits_in c.args.s))))

pub loop-i-preserved : goal.loop-i-preserved
loop-i-preserved c =
    let a = c.args in
    let i = c.loop-i.i in
    let bs = bits_in a.s in
    c.loop-i.invariant
    ∙ text-six (may_stand a.inner) bs (a.at + 48 * i) (a.n - 6 * i) _ (omega arith) c.wide.ensures (sym c.is_spelt.ensures ∙ c.if-not-is_spelt.false)
    ∙ same a.inner bs (a.n - 6 * i - 6) (a.n - 6 * (i + 1)) (a.at + 48 * i + 48) (a.at + 48 * (i + 1)) (omega arith) (omega arith)

pub returns-then-not-is_spelt : goal.returns-then-not-is_spelt
returns-then-not-is_spelt c =
    let a = c.args in
    let i = c.loop-i.i in
    sym
    (c.loop-i.invariant
    ∙ text-not (may_stand a.inner) (bits_in a.s) (a.at + 48 * i) (a.n - 6 * i) _ (omega arith) c.wide.ensures (sym c.is_spelt.ensures ∙ c.if-not-is_spelt.true))

pub returns-then-left-eq0 : goal.returns-then-left-eq0
returns-then-left-eq0 c =
    let a = c.args in
    let i = c.loop-i.i in
    let e : i ≡ a.n / 6 = omega (arith, c.loop-i-test.false, c.loop-i.auto.i-end) in
    sym (c.loop-i.invariant ∙ text-none (may_stand a.inner) (a.n - 6 * i) (drop (a.at + 48 * i) (bits_in a.s)) (omega (arith, e)))

pub is_spelt-requires-2 : goal.is_spelt-requires-2
is_spelt-requires-2 c =
    let a = c.args in
    (omega arith, rw c.wide-2.ensures (num-lt (8 * (a.n % 6)) (drop (a.at + 8 * (a.n - a.n % 6)) (bits_in a.s))))

pub returns : goal.returns
returns c =
    let a = c.args in
    let i = c.loop-i.i in
    let bs = bits_in a.s in
    let e : i ≡ a.n / 6 = omega (arith, c.loop-i-test.false, c.loop-i.auto.i-end) in
    c.is_spelt-2.ensures
    ∙ text-last (may_stand a.inner) bs (a.at + 8 * (a.n - a.n % 6)) (a.n % 6) _ c.wide-2.ensures
    ∙ sym (c.loop-i.invariant ∙ same a.inner bs (a.n - 6 * i) (a.n % 6) (a.at + 48 * i) (a.at + 8 * (a.n - a.n % 6)) (omega (arith, e)) (omega (arith, e)))
