use Rattle.std.proofs.lemmas.Result.{err_from_is_err_and}
use Rattle.sheet_decode.specs.DecodeLaws.{listed, not_listed, back_as, fill-back, words_back, twice-back, passes, keys-reach, orders}
use Rattle.sheet_repeats.specs.TwiceLaws.{twice-is}
use Rattle.definitions.specs.Bits.{bits_of}
use lib.ListN.{drop}
use mathlib.Core.Path.{refl, sym, ◌∙◌}
use Rattle.sheet_decode.proofs.decode.Goals as goal

pub returns-in_err-l : goal.returns-in_err-l
returns-in_err-l c =
    let bytes = c.args.s.now in
    let x = c.read_lists in
    let p = err_from_is_err_and c.from_residual.result c.from_residual.ensures.1 in
    rw p.1 (back_as bytes _ _ p.2 (not_listed bytes x.new.d x.new.t c.in_err-l.field-0.0 (rw c.in_err-l.was at x.ensures.0)))

pub returns-then-is_bad_fill : goal.returns-then-is_bad_fill
returns-then-is_bad_fill c =
    let bytes = c.args.s.now in
    let x = c.read_lists in
    let l = c.in_ok-l.l in
    let h = listed bytes x.new.d x.new.t l (rw c.in_ok-l.was at x.ensures.0) in
    back_as bytes _ 7 refl (fill-back bytes x.new.d x.new.t l h (sym c.is_bad_fill.ensures ∙ c.if-is_bad_fill.true))

pub returns-then-l : goal.returns-then-l
returns-then-l c =
    let bytes = c.args.s.now in
    let x = c.read_lists in
    let l = c.in_ok-l.l in
    let h = listed bytes x.new.d x.new.t l (rw c.in_ok-l.was at x.ensures.0) in
    back_as bytes _ 5 refl (words_back bytes x.new.d x.new.t l h (sym c.is_bad_fill.ensures ∙ c.if-is_bad_fill.false) c.if-l.true)

pub order_by_name-requires : goal.order_by_name-requires
order_by_name-requires c =
    let bytes = c.args.s.now in
    let x = c.read_lists in
    let l = c.in_ok-l.l in
    let h = listed bytes x.new.d x.new.t l (rw c.in_ok-l.was at x.ensures.0) in
    let k = rw c.in_ok-l.was at x.ensures.1 in
    (k.0.count, keys-reach bytes x.new.d x.new.t l h k.0.count)

pub returns-then-is_something_twice : goal.returns-then-is_something_twice
returns-then-is_something_twice c =
    let bytes = c.args.s.now in
    let x = c.read_lists in
    let l = c.in_ok-l.l in
    let d = x.new.d in
    let t = x.new.t in
    let h = listed bytes d t l (rw c.in_ok-l.was at x.ensures.0) in
    let k = rw c.in_ok-l.was at x.ensures.1 in
    let en = c.order_by_name.ensures h.s.words (orders bytes d t l h k.0.count c.if-l.false x.new.reach (k.2 h.s (drop l.at (bits_of bytes)) h.read)) in
    let entries = c.order_by_name.new.entries in
    let z = sym (c.is_something_twice.ensures ∙ twice-is h.s (bits_of bytes) d entries t l.read k.0.count en h.width h.types h.extensions) in
    back_as bytes _ 6 refl
    (twice-back bytes d t l h (sym c.is_bad_fill.ensures ∙ c.if-is_bad_fill.false) c.if-l.false (z ∙ c.if-is_something_twice.true))

pub returns : goal.returns
returns c =
    let bytes = c.args.s.now in
    let x = c.read_lists in
    let l = c.in_ok-l.l in
    let d = x.new.d in
    let t = x.new.t in
    let h = listed bytes d t l (rw c.in_ok-l.was at x.ensures.0) in
    let k = rw c.in_ok-l.was at x.ensures.1 in
    let en = c.order_by_name.ensures h.s.words (orders bytes d t l h k.0.count c.if-l.false x.new.reach (k.2 h.s (drop l.at (bits_of bytes)) h.read)) in
    let entries = c.order_by_name.new.entries in
    let z = sym (c.is_something_twice.ensures ∙ twice-is h.s (bits_of bytes) d entries t l.read k.0.count en h.width h.types h.extensions) in
    passes bytes d t l h (sym c.is_bad_fill.ensures ∙ c.if-is_bad_fill.false) c.if-l.false (z ∙ c.if-is_something_twice.false) c.requires entries en k.0 (λ q. (k.2 h.s (drop l.at (bits_of bytes)) h.read).none (sym k.1 ∙ q))
