-- What was read is written back, what was written is read back, and so is what our writer makes.
use Rattle.std.specs.Prelude.{List, ◌≡◌, refl, ℕ, ◌≤◌, length, drop}
use Rattle.std.proofs.Common.{sym, ap, ◌∙◌, subst}
use Rattle.std.proofs.Math.Seq
use Rattle.definitions.specs.Conversion.{read_schedule, write_schedule}
use Rattle.definitions.specs.Values.{records_of}
use Rattle.law_schedule.proofs.Listed.{listed-exactly}
use Rattle.law_records.specs.Statements.{schedule_bytes, gives, bytes_given, WriteAfterRead, ReadAfterWrite, OursIsRead}
use Rattle.law_records.proofs.Exactly.{reads-records, writes-schedule, reads-exactly, writes-exactly}

-- ---- there and back

-- what an acceptance has given
given : (bytes lent : List ℕ) → bytes_given (gives bytes lent) ≡ bytes
given bytes lent = Seq.take_at bytes (drop (length bytes) lent) (length bytes) refl

pub write-after-read : WriteAfterRead
write-after-read W bytes lent back b e l =
    let t = (reads-exactly W bytes lent b).0 e in
    let s = t.0 in
    let h = t.1 in
    ap (λ r. write_schedule W r back) (ap bytes_given (reads-records W bytes lent s h) ∙ given (records_of s) lent)
    ∙ writes-schedule W (records_of s) back s (record { legal = h.legal; recorded = refl; room = subst (λ p. length p ≤ length back) h.packed l })
    ∙ ap (λ p. gives p back) (sym h.packed)

pub read-after-write : ReadAfterWrite
read-after-write W bytes lent back b e l =
    let t = (writes-exactly W bytes lent b).0 e in
    let s = t.0 in
    let h = t.1 in
    ap (λ p. read_schedule W p back) (ap bytes_given (writes-schedule W bytes lent s h) ∙ given (schedule_bytes s) lent)
    ∙ reads-records W (schedule_bytes s) back s (record { legal = h.legal; packed = refl; room = subst (λ r. length r ≤ length back) h.recorded l })
    ∙ ap (λ r. gives r back) (sym h.recorded)

-- ---- what our writer makes

pub ours-is-read : OursIsRead
ours-is-read i q e =
    let l = listed-exactly i q e in
    let b = l.bytes in
    record {
      s = l.s;
      holds = l.holds;
      names = l.names;
      items = l.items;
      read = λ lent h. reads-records _ _ lent _ (record { legal = b.legal; packed = b.packed; room = h });
      written = λ lent h.
          writes-schedule _ _ lent _ (record { legal = b.legal; recorded = refl; room = subst (λ p. length p ≤ length lent) b.packed h })
          ∙ ap (λ p. gives p lent) (sym b.packed);
    }
