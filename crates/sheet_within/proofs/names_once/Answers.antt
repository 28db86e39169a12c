use Rattle.sheet_within.specs.OnceLaws.{word-below, separate-none, separate-more}
use Rattle.sheet_keys.specs.Keys.{name_of_key, of_key_read}
use Rattle.fields.specs.ParseLaws.{repeat-none, repeat-next}
use Rattle.definitions.specs.Reading.{name}
use Rattle.definitions.specs.Bits.{bits_of}
use lib.ListN.{drop}
use mathlib.Core.Path.{refl, sym, ap, ◌∙◌}
use mathlib.Core.List.{[], ◌∷◌, ◌++◌}
use Prim.Native.Nat.{◌/◌, ◌<◌}
use native.Mathlib.Omega.{arith}
use native.Mathlib.Nat.{sub-zero}
use Rattle.sheet_within.proofs.names_once.Goals as goal
use Rattle.sheet_within.proofs.names_once.Goals.{In-Ok}

pub loop-init : goal.loop-init
loop-init c = ([], rw (sub-zero c.args.n) refl, separate-none _ c.empty_row-words.ensures)

-- a word is below 256
below : (c : In-Ok) → c.in-Ok.key / 256 < 256
below c =
    let s = c.args.s in
    let bs = bits_of s.bytes.now in
    let v = c.in-Ok in
    omega (arith, word-below s.words (drop c.loop.next.at bs) v.key (drop v.end.at bs) (sym c.read_key.ensures ∙ ap (of_key_read bs) v.is), s.few)

pub holds-requires : goal.holds-requires
holds-requires c = below (goal.at.holds-requires c).In-Ok

pub alone-one-requires : goal.alone-one-requires
alone-one-requires c = below (goal.at.alone-one-requires c).In-Ok

pub loop-preserved : goal.loop-preserved
loop-preserved c =
    let l = c.loop in
    let a = c.args in
    let bs = bits_of a.s.bytes.now in
    let v = c.in-Ok in
    let e = sym c.read_key.ensures ∙ ap (of_key_read bs) v.is in
    let b = below (goal.at.loop-preserved c).In-Ok in (
      l.invariant.0 ++ (name_of_key v.key ∷ []),
      l.invariant.1 ∙ repeat-next l.invariant.0 (name a.s.words) a.n l.counter (drop l.next.at bs) (name_of_key v.key) (drop v.end.at bs) (omega arith) e,
      rw (c.in_either-words.ensures, c.alone-one.ensures) (separate-more l.invariant.0 l.words v.key l.invariant.2 b (sym c.holds.ensures ∙ c.if-holds.false)),
    )

pub returns : goal.returns
returns c =
    let l = c.loop in
    let a = c.args in
    let bs = bits_of a.s.bytes.now in
    let r = l.invariant.2 in
    record {
      names = record {
        rows = l.invariant.0;
        read = l.invariant.1 ∙ repeat-none l.invariant.0 (name a.s.words) _ (drop l.next.at bs) (omega arith);
        once = r.once;
        words = r.words;
      };
    }
