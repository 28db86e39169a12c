use Rattle.sheet_extensions.specs.RecordLaws.{key-low, no_name, no_word, no-added, record-read}
use Rattle.sheet_keys.specs.Keys.{of_key_read, of_names}
use Rattle.fields.specs.Fields.{of_field}
use Rattle.fields.specs.FieldLaws.{err_was}
use Rattle.definitions.specs.Bits.{bits_of}
use lib.ListN.{drop}
use native.Mathlib.Omega.{arith}
use mathlib.Core.Path.{sym, ap, ◌∙◌}
use Rattle.sheet_extensions.proofs.read_record.Goals as goal

pub returns-in_err-key : goal.returns-in_err-key
returns-in_err-key c =
    let a = c.args in
    let bs = bits_of a.s.bytes.now in
    let e = sym (ap (of_key_read bs) c.in_err-key.was) ∙ c.read_key.ensures in
    rw (err_was _ c.in_err-key.field-0.0 c.from_residual.ensures.1) (no_name a.s.words bs a.c.at _ e)

pub returns-in_err-w : goal.returns-in_err-w
returns-in_err-w c =
    let a = c.args in
    let bs = bits_of a.s.bytes.now in
    let e = sym (ap (of_key_read bs) c.in_ok-key.was) ∙ c.read_key.ensures in
    let f = sym (ap (of_field bs) c.in_err-w.was) ∙ c.read_word_field.ensures in
    rw (err_was _ c.in_err-w.field-0.0 c.from_residual-in_err-w.ensures.1) (no_word a.s.words bs a.c.at _ c.in_ok-key.c1.at e _ f)

pub returns-in_err-count : goal.returns-in_err-count
returns-in_err-count c =
    let r = c.read_added in
    let a = c.args in
    let bs = bits_of a.s.bytes.now in
    let e = sym (ap (of_key_read bs) c.in_ok-key.was) ∙ c.read_key.ensures in
    let f = sym (ap (of_field bs) c.in_ok-w.was) ∙ c.read_word_field.ensures in
    let g = sym (ap (of_names bs r.new.parents) c.in_err-count.was) ∙ r.ensures in
    rw (err_was _ c.in_err-count.field-0.0 c.from_residual-in_err-count.ensures.1)
    (no-added a.s.words bs a.c.at _ c.in_ok-key.c1.at e _ c.in_ok-w.c2.at f _ g)

pub key_of-requires : goal.key_of-requires
key_of-requires c =
    let a = c.args in
    let bs = bits_of a.s.bytes.now in
    let k = c.in_ok-key in
    let e = sym (ap (of_key_read bs) k.was) ∙ c.read_key.ensures in
    (omega (arith, key-low a.s.words k.key (drop a.c.at bs) (drop k.c1.at bs) e), omega arith)

pub returns : goal.returns
returns c =
    let r = c.read_added in
    let a = c.args in
    let bs = bits_of a.s.bytes.now in
    let v = c.in_ok-count in
    let e = sym (ap (of_key_read bs) c.in_ok-key.was) ∙ c.read_key.ensures in
    let f = sym (ap (of_field bs) c.in_ok-w.was) ∙ c.read_word_field.ensures in
    let x = c.key_of.ensures in
    let g = sym (ap (of_names bs r.new.parents) v.was) ∙ r.ensures in
    record-read a.s.words bs a.c.at _ c.in_ok-key.c1.at e _ c.in_ok-w.c2.at f _ v.count v.next.at r.new.parents x.1 x.2 g
