use Rattle.sheet_within.specs.UpLaws.{rising_none, rising-more}
use Rattle.sheet_keys.specs.Keys.{name_of_key, of_key_read}
use Rattle.fields.specs.ParseLaws.{repeat-none, repeat-next}
use Rattle.definitions.specs.Reading.{name}
use Rattle.definitions.specs.Bits.{bits_of}
use lib.ListN.{drop}
use mathlib.Core.Path.{refl, sym, ap, ◌∙◌}
use mathlib.Core.List.{[], ◌∷◌, ◌++◌}
use native.Mathlib.Omega.{arith}
use native.Mathlib.Nat.{sub-zero}
use Rattle.sheet_within.proofs.names_up.Goals as goal

pub loop-init : goal.loop-init
loop-init c = ([], rw (sub-zero c.args.n) refl, rising_none c.args.low)

pub loop-preserved : goal.loop-preserved
loop-preserved c =
    let l = c.loop in
    let a = c.args in
    let bs = bits_of a.s.bytes.now in
    let v = c.in-Ok in
    let e = sym c.read_key.ensures ∙ ap (of_key_read bs) v.is in (
      l.invariant.0 ++ (name_of_key v.key ∷ []),
      l.invariant.1 ∙ repeat-next l.invariant.0 (name a.s.words) a.n l.counter (drop l.next.at bs) (name_of_key v.key) (drop v.end.at bs) (omega arith) e,
      rising-more l.invariant.0 a.low l.top v.key l.invariant.2 (omega (arith, c.if-a-top.false)),
    )

pub returns : goal.returns
returns c =
    let l = c.loop in
    let a = c.args in
    let bs = bits_of a.s.bytes.now in
    let r = l.invariant.2 in
    record {
      names = record {
        rows = l.invariant.0;
        read = l.invariant.1 ∙ repeat-none l.invariant.0 (name a.s.words) _ (drop l.next.at bs) (omega arith);
        once = r.once;
        from = r.from;
        below = r.below;
        up = r.up;
      };
    }
