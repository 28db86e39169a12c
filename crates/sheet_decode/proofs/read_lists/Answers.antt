use Rattle.std.specs.Prelude.{Result, Ok, Err, IfOk}
use Rattle.fields.specs.declared.Fault.{Fault}
use Rattle.sheet_decode.specs.declared.Lists.{Lists}
use Rattle.sheet_decode.specs.ListLaws.{no-version, no_words, words-read, words_are}
use Rattle.fields.specs.FieldLaws.{err_was}
use Rattle.definitions.specs.Bits.{bits_of}
use Rattle.sheet_decode.proofs.read_lists.Goals as goal

pub returns-in_err-next : goal.returns-in_err-next
returns-in_err-next c =
    let bs = bits_of c.args.s.now in
    rw (err_was _ c.in_err-next.field-0.0 c.from_residual.ensures.1) (no-version bs _ (rw c.in_err-next.was at c.read_version.ensures), tt)

pub returns-in_err-w : goal.returns-in_err-w
returns-in_err-w c =
    let bs = bits_of c.args.s.now in
    let e = rw c.in_ok-next.was at c.read_version.ensures in
    rw (err_was _ c.in_err-w.field-0.0 c.from_residual-in_err-w.ensures.1)
    (no_words bs c.in_ok-next.next e _ (rw c.in_err-w.was at c.read_words.ensures.0), tt)

-- what holds of the answer, and more
with-more : {P Q : Lists → Type 0} (r : Result Lists Fault) → ((l : Lists) → P l → Q l) → IfOk r P → IfOk r Q
with-more (Ok l) f h = f l h
with-more (Err e) f h = h

pub returns : goal.returns
returns c =
    let bs = bits_of c.args.s.now in
    let e = rw c.in_ok-next.was at c.read_version.ensures in
    let f = rw c.in_ok-w.was at c.read_words.ensures.0 in
    let r = c.read_records.ensures in
    let k = (rw c.in_ok-w.was at c.read_words.ensures.1).1 in (
      words-read bs c.in_ok-next.next e c.in_ok-w.w f r.0,
      with-more c.read_records.result
          (λ l h. (h.0, h.1, λ s rest q. let m = words_are bs c.in_ok-next.next e s rest q in k s.words m.0 m.1))
          r.1,
    )
