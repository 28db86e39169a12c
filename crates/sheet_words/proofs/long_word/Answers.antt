use mathlib.Core.Path.{sym, ◌∙◌}
use Prim.Native.Nat.{◌+◌}
use native.Mathlib.Omega.{arith}
use lib.ListN.{drop}
use Rattle.bits.specs.NumberLaws.{length-bits_of, num-lt}
use Rattle.sheet_words.specs.HeadLaws.{head-many}
use Rattle.sheet_words.specs.Words.{bits_in}
use Rattle.definitions.specs.Bits.{pack_to}
use Rattle.definitions.specs.Reading.{is_first_byte}
use Rattle.sheet_words.specs.ByteLaws.{plain-letters}
use Rattle.sheet_words.specs.WordLaws.{begun-word, begun-few, text-six, text-plain}
use Rattle.sheet_words.proofs.long_word.Goals as goal

pub overflow_add-q : goal.overflow_add-q
overflow_add-q c = record { fits = omega (arith, c.args.s.addressable, c.requires.0.there, length-bits_of c.args.s.bytes.now) }

pub overflow_sub-s : goal.overflow_sub-s
overflow_sub-s c = omega (arith, c.requires.0.there, length-bits_of c.args.s.bytes.now)

pub overflow_mul-n : goal.overflow_mul-n
overflow_mul-n c =
    let a = c.args in
    record { fits = omega (arith, begun-few (bits_in a.s) a.at a.n a.x c.requires.0) }

pub bytes_from-requires : goal.bytes_from-requires
bytes_from-requires c =
    let a = c.args in
    let h = c.requires.0 in
    (omega (arith, h.there, length-bits_of a.s.bytes.now), h.some, begun-few (bits_in a.s) a.at a.n a.x h)

pub bytes_from-requires-then-is_spelt : goal.bytes_from-requires-then-is_spelt
bytes_from-requires-then-is_spelt c =
    let a = c.args in
    let h = c.requires.0 in
    (omega (arith, h.there, length-bits_of a.s.bytes.now), h.some, begun-few (bits_in a.s) a.at a.n a.x h)

pub bytes_from-requires-2 : goal.bytes_from-requires-2
bytes_from-requires-2 c =
    let a = c.args in
    let h = c.requires.0 in
    (omega (arith, h.there, length-bits_of a.s.bytes.now), h.some, begun-few (bits_in a.s) a.at a.n a.x h)

pub returns-then-s-q : goal.returns-then-s-q
returns-then-s-q c =
    let a = c.args in
    c.bytes_from.ensures ∙ begun-word (bits_in a.s) a.at a.n a.x c.requires.0

pub is_spelt-requires : goal.is_spelt-requires
is_spelt-requires c = (omega arith, rw c.requires.0.bits (num-lt 48 (drop (c.args.at + 5) (bits_in c.args.s))))

pub returns-then-is_text : goal.returns-then-is_text
returns-then-is_text c =
    let a = c.args in
    let h = c.requires.0 in
    let bs = bits_in a.s in
    let q = a.at + 5 in
    text-plain bs q a.n h.some (omega (arith, length-bits_of a.s.bytes.now, h.there, c.if-s-q.false))
    (text-six is_first_byte bs q a.n a.x (omega (arith, c.requires.1)) h.bits (sym c.is_spelt.ensures ∙ c.if-is_spelt.true) ∙ sym c.is_text.ensures ∙ c.if-is_text.true)
    ∙ begun-word bs a.at a.n a.x h

pub returns-then-is_spelt : goal.returns-then-is_spelt
returns-then-is_spelt c =
    let a = c.args in
    c.bytes_from-then-is_spelt.ensures ∙ begun-word (bits_in a.s) a.at a.n a.x c.requires.0

pub returns : goal.returns
returns c =
    let a = c.args in
    c.bytes_from-2.ensures ∙ begun-word (bits_in a.s) a.at a.n a.x c.requires.0

pub invariant_of-result : goal.invariant_of-result
invariant_of-result c =
    let a = c.args in
    let h = c.requires.0 in
    let bs = bits_in a.s in
    let q = a.at + 5 in
    let p =
    text-six is_first_byte bs q a.n a.x (omega (arith, c.requires.1)) h.bits (sym c.is_spelt.ensures ∙ c.if-is_spelt.true) ∙ sym c.is_text.ensures ∙ c.if-is_text.true in
    record {
      held = record {
        first = h.bits ∙ head-many 6 a.n (drop q bs) (omega (arith, c.requires.1));
        good = plain-letters (pack_to a.n (drop q bs)) p;
        kind = sym p;
        inside = omega (arith, length-bits_of a.s.bytes.now, h.there, c.if-s-q.false);
        few = begun-few bs a.at a.n a.x h;
      };
    }
