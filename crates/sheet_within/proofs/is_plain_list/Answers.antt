use Rattle.sheet_within.specs.PlainLaws.{few-names, read_names, no_answer}
use Rattle.definitions.specs.Bits.{bits_of}
use Rattle.sheet_within.proofs.is_plain_list.Goals as goal

-- src/lib.rt:70:9
pub returns-then-n-lt2 : goal.returns-then-n-lt2
returns-then-n-lt2 c =
    let a = c.args in
    few-names a.s.words (bits_of a.s.bytes.now) a.at a.n c.if-n-lt2.true

pub returns-in-Ok : goal.returns-in-Ok
returns-in-Ok c =
    let a = c.args in
    let bs = bits_of a.s.bytes.now in
    let r = c.read_each_key in
    let v = c.in-Ok in
    read_names a.s.words bs a.at a.n r.new.out v.count _ c.has_word_twice.result (rw v.is at r.ensures.0) c.has_word_twice.ensures

pub returns-in-Err : goal.returns-in-Err
returns-in-Err c = no_answer _ _ _ _
