use mathlib.Core.List.{[], ◌∷◌, ◌++◌}
use mathlib.Core.Path.{◌≡◌, refl, sym, ap, ◌∙◌}
use Prim.Native.Nat.{◌+◌, ◌*◌}
use native.Mathlib.Omega.{arith}
use native.Mathlib.Nat.{sub-zero}
use Rattle.fields.specs.FieldLaws.{err_was}
use lib.ListN.{drop, length-append}
use Rattle.lists.specs.Lists.{all}
use Rattle.definitions.specs.Reading.{is_first_byte, word}
use Rattle.fields.specs.ParseLaws.{repeat-none, repeat-next, repeat-refused}
use Rattle.sheet_words.specs.Words.{bits_in, bytes_of, told}
use Rattle.sheet_words.specs.WordLaws.{word-long}
use Rattle.sheet_words.specs.WordsLaws.{seen_none, seen_more, class-few, self-few, end-told}
use Rattle.sheet_words.proofs.read_each_word.Goals as goal

pub loop-i-init : goal.loop-i-init
loop-i-init c = ([], refl, seen_none c.args.n _ c.no_word-last.ensures, rw (sub-zero c.args.n) refl)

pub returns-in_err-w : goal.returns-in_err-w
returns-in_err-w c =
    let bs = bits_in c.args.s in
    let i = c.loop-i in
    rw (err_was _ c.in_err-w.field-0.0 c.from_residual.ensures.1)
    (sym (ap told (i.invariant.3 ∙ repeat-refused i.invariant.0 word _ (drop i.at bs) _ (omega arith) (sym c.in_err-w.ensures))), tt)

pub loop-i-preserved : goal.loop-i-preserved
loop-i-preserved c =
    let a = c.args in
    let bs = bits_in a.s in
    let i = c.loop-i in
    let w = c.in_ok-w.w in
    let t = c.in_ok-w.ensures in (
      i.invariant.0 ++ (bytes_of w ∷ []),
      omega (arith, length-append i.invariant.0 (bytes_of w ∷ []), i.invariant.1),
      seen_more a.n _ i.invariant.0 _ w _ _ i.invariant.2 (word-long bs i.at w t) i.invariant.1 (omega arith) c.with_word-t.ensures,
      i.invariant.3
          ∙ repeat-next i.invariant.0 word a.n i.i (drop i.at bs) (bytes_of w) (drop (w.at + 8 * w.count) bs) (omega arith) (sym t),
    )

pub overflow_cast-result : goal.overflow_cast-result
overflow_cast-result c =
    let i = c.loop-i in
    record { fits = class-few c.args.n i.invariant.0 i.last i.t i.invariant.2 (omega (arith, i.invariant.1)) c.requires }

pub overflow_cast-result-2 : goal.overflow_cast-result-2
overflow_cast-result-2 c =
    let i = c.loop-i in
    record { fits = self-few c.args.n i.invariant.0 i.last i.t i.invariant.2 (omega (arith, i.invariant.1)) c.requires }

pub returns : goal.returns
returns c =
    let a = c.args in
    let bs = bits_in a.s in
    let i = c.loop-i in (
      end-told a.n i.invariant.0 i.last i.t i.invariant.2 (omega (arith, i.invariant.1)) _ (drop i.at bs) _
          (i.invariant.3 ∙ repeat-none i.invariant.0 word _ (drop i.at bs) (omega arith))
          c.is_bad.ensures,
      (
        c.requires,
        λ ws rest e.
            let q = sym (i.invariant.3 ∙ repeat-none i.invariant.0 word _ (drop i.at bs) (omega arith)) ∙ e in
            let z : i.invariant.0 ≡ ws = cc in
            c.fill.ensures ws rest e (i.invariant.2.plain ∙ ap (all (all is_first_byte)) z),
      ),
    )
