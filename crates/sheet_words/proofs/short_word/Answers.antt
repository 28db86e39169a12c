use mathlib.Core.Path.{sym, ◌∙◌}
use native.Mathlib.Omega.{arith}
use Prim.Native.Nat.{◌+◌, ◌*◌}
use lib.ListN.{drop}
use Rattle.bits.specs.NumberLaws.{length-bits_of, num-lt}
use Rattle.definitions.specs.Bits.{pack_to}
use Rattle.definitions.specs.Reading.{is_first_byte}
use Rattle.sheet_words.specs.ByteLaws.{plain-letters}
use Rattle.sheet_words.specs.Words.{bits_in}
use Rattle.sheet_words.specs.WordLaws.{short-value, head-shift, text-last, text-plain, begun-word}
use Rattle.sheet_words.proofs.short_word.Goals as goal

pub is_spelt-requires : goal.is_spelt-requires
is_spelt-requires c =
    let a = c.args in
    let h = c.requires.0 in
    let few = c.requires.1 in
    let B = drop (a.at + 5) (bits_in a.s) in
    (few, rw (short-value a.n a.x B few h.bits) (num-lt (8 * a.n) B))

pub overflow_add-result : goal.overflow_add-result
overflow_add-result c = record { fits = omega (arith, c.args.s.addressable, c.requires.0.there, length-bits_of c.args.s.bytes.now) }

pub returns-then-is_spelt : goal.returns-then-is_spelt
returns-then-is_spelt c =
    let a = c.args in
    let h = c.requires.0 in
    let few = c.requires.1 in
    let bs = bits_in a.s in
    let q = a.at + 5 in
    let e = short-value a.n a.x (drop q bs) few h.bits in
    text-plain bs q a.n h.some (omega (arith, h.there, few)) (sym (text-last is_first_byte bs q a.n _ e) ∙ sym c.is_spelt.ensures ∙ c.if-is_spelt.true)
    ∙ begun-word bs a.at a.n a.x h

pub overflow_add-at : goal.overflow_add-at
overflow_add-at c = record { fits = omega (arith, c.args.s.addressable, c.requires.0.there, length-bits_of c.args.s.bytes.now) }

pub bytes_from-requires : goal.bytes_from-requires
bytes_from-requires c =
    let h = c.requires.0 in
    (omega (arith, h.there, length-bits_of c.args.s.bytes.now), h.some, omega (arith, c.requires.1))

pub returns : goal.returns
returns c =
    let a = c.args in
    c.bytes_from.ensures ∙ begun-word (bits_in a.s) a.at a.n a.x c.requires.0

pub invariant_of-result : goal.invariant_of-result
invariant_of-result c =
    let a = c.args in
    let h = c.requires.0 in
    let few = c.requires.1 in
    let bs = bits_in a.s in
    let q = a.at + 5 in
    let e = short-value a.n a.x (drop q bs) few h.bits in
    let p = sym (text-last is_first_byte bs q a.n _ e) ∙ sym c.is_spelt.ensures ∙ c.if-is_spelt.true in
    record {
      held = record {
        first = head-shift a.n _ (drop q bs) few e;
        good = plain-letters (pack_to a.n (drop q bs)) p;
        kind = sym p;
        inside = omega (arith, h.there, few, length-bits_of a.s.bytes.now);
        few = omega (arith, few);
      };
    }
