-- The theorems on the schedules of specs/Examples.antt.
use Rattle.std.specs.Prelude.{true, false, [], ◌∷◌, ◌++◌, ◌≡◌, refl, ℕ, ◌*◌, ◌≤◌, ◌<◌, length, take, replicate}
use Rattle.std.proofs.Common.{inl, inr, sym, ap, ◌∙◌, subst, arith}
use Rattle.definitions.specs.Bits.{odd, to_bits, bits_of, pack}
use Rattle.definitions.specs.Records.{Schedule}
use Rattle.definitions.specs.Packing.{order_bits}
use Rattle.definitions.specs.Values.{records_of}
use Rattle.definitions.specs.ScheduleFields.{times, packed, recorded, unwritten, schedule_fields}
use Rattle.definitions.specs.Conversion.{convert, read_schedule, write_schedule}
use Rattle.definitions.specs.Cases.{hex, lent}
use Rattle.law_reading.specs.Statements.{Bytes}
use Rattle.law_schedule.specs.Examples.{everything, everything-legal, at-limits-legal}
use Rattle.law_records.specs.Statements.{schedule_bytes, gives, CanRead, CanWrite, room_ends, bits_end, bad_value, later, Untouched, bytes_given, ReadBack}
use Rattle.law_records.proofs.Exactly.{recorded-are-bytes, reads-records, writes-schedule, reads-exactly, writes-exactly, reads-one, writes_one}
use Rattle.law_records.proofs.Refused.{refusals-touch-nothing, width-first, no-room-for-records, no-room-for-schedule, cut-schedule-is-11, cut-records-are-11, more-bytes-are-12, more-records-are-12, order-only-is-11, sixteen-times, room-always-suffices}
use Rattle.law_records.proofs.Faults.{reads-numbers, writes-numbers, walks-numbers}
use Rattle.law_records.proofs.RoundTrips.{write-after-read, read-after-write, ours-is-read}
use Rattle.law_records.specs.Examples.{everything_bytes, everything_records, everything-bytes, everything-records, everything-can-read, everything-are-bytes, everything-can-write, largest, foreign, foreign-legal, foreign_bytes, foreign_records, foreign-bytes, foreign-records, two, set-bit, asked, accepted}

-- ---- every construct

-- it is read, whatever is lent behind its records
everything-accepted : (read_schedule 5 everything_bytes (lent 66)).answer.number ≡ 0
everything-accepted = (reads-exactly 5 everything_bytes (lent 66) everything-are-bytes).1 (everything, everything-can-read)

everything-read : read_schedule 5 everything_bytes (lent 66) ≡ gives everything_records (lent 66)
everything-read = reads-records 5 everything_bytes (lent 66) everything everything-can-read ∙ ap (λ r. gives r (lent 66)) everything-records

-- to no other schedule
everything-only : (W : ℕ) (t : Schedule) → CanRead W everything_bytes (lent 66) t → t ≡ everything
everything-only W t h = reads-one W 5 everything_bytes (lent 66) t everything h everything-can-read

-- and back
everything-back : write_schedule 5 (bytes_given (read_schedule 5 everything_bytes (lent 66))) (lent 22) ≡ gives everything_bytes (lent 22)
everything-back = write-after-read 5 everything_bytes (lent 66) (lent 22) everything-are-bytes everything-accepted (omega arith)

records-are-bytes : Bytes everything_records
records-are-bytes = subst Bytes everything-records (recorded-are-bytes 5 everything everything-legal)

records-accepted : (write_schedule 5 everything_records (lent 22)).answer.number ≡ 0
records-accepted = (writes-exactly 5 everything_records (lent 22) records-are-bytes).1 (everything, everything-can-write)

records-only : (W : ℕ) (t : Schedule) → CanWrite W everything_records (lent 22) t → t ≡ everything
records-only W t h = writes_one W 5 everything_records (lent 22) t everything h everything-can-write

records-back : read_schedule 5 (bytes_given (write_schedule 5 everything_records (lent 22))) (lent 66) ≡ gives everything_records (lent 66)
records-back = read-after-write 5 everything_records (lent 22) (lent 66) records-are-bytes records-accepted (omega arith)

-- ---- every count and every field at its limit

at-limits-read : read_schedule 200 (schedule_bytes largest) (records_of largest) ≡ gives (records_of largest) (records_of largest)
at-limits-read =
    reads-records 200 (schedule_bytes largest) (records_of largest) largest (record { legal = at-limits-legal; packed = refl; room = omega arith })

at-limits-written : write_schedule 200 (records_of largest) (schedule_bytes largest) ≡ gives (schedule_bytes largest) (schedule_bytes largest)
at-limits-written =
    writes-schedule 200 (records_of largest) (schedule_bytes largest) largest (record { legal = at-limits-legal; recorded = refl; room = omega arith })

-- ---- a schedule that no writer of ours makes: a line twice, of types that are not listed, and a resource whose parents are odd

foreign-read : read_schedule 2 foreign_bytes (lent 100) ≡ gives foreign_records (lent 100)
foreign-read =
    reads-records 2 foreign_bytes (lent 100) foreign
    (record { legal = foreign-legal; packed = sym foreign-bytes; room = subst (λ r. length r ≤ 100) (sym foreign-records) (omega arith) })
    ∙ ap (λ r. gives r (lent 100)) foreign-records

-- ---- what is refused

-- W is tested first
width-0 : (read_schedule 0 [] []).answer.number ≡ 12
width-0 = width-first packed recorded 0 [] [] (λ h. absurd (omega (arith, h.enough)))

width-201 : (write_schedule 201 everything_records (lent 22)).answer.number ≡ 12
width-201 = width-first recorded packed 201 everything_records (lent 22) (λ h. absurd (omega (arith, h.few)))

-- nothing is written
width-0-untouched : Untouched (read_schedule 0 [] (lent 3)) (lent 3)
width-0-untouched =
    refusals-touch-nothing packed recorded 0 [] (lent 3)
    (λ e. absurd (omega (arith, e, width-first packed recorded 0 [] (lent 3) (λ h. absurd (omega (arith, h.enough))))))

-- a byte too little of room, of the schedule, of its records; a byte more
no-room-read : (read_schedule 5 (schedule_bytes everything) (lent 65)).answer.number ≡ 11
no-room-read = no-room-for-records 5 (lent 65) everything everything-legal (subst (λ r. 65 < length r) (sym everything-records) (omega arith))

no-room-written : (write_schedule 5 (records_of everything) (lent 21)).answer.number ≡ 11
no-room-written = no-room-for-schedule 5 (lent 21) everything everything-legal (subst (λ p. 21 < length p) (sym everything-bytes) (omega arith))

cut-read : (read_schedule 5 (take 21 (schedule_bytes everything)) (lent 66)).answer.number ≡ 11
cut-read = cut-schedule-is-11 5 (lent 66) everything 21 everything-legal (subst (λ p. 21 < length p) (sym everything-bytes) (omega arith))

cut-written : (write_schedule 5 (take 65 (records_of everything)) (lent 22)).answer.number ≡ 11
cut-written = cut-records-are-11 5 (lent 22) everything 65 everything-legal (subst (λ r. 65 < length r) (sym everything-records) (omega arith))

more-read : (read_schedule 5 (schedule_bytes everything ++ 0 ∷ []) (lent 66)).answer.number ≡ 12
more-read = more-bytes-are-12 5 (lent 66) everything 0 [] (record { legal = everything-legal; packed = refl; room = everything-can-read.room })

more-written : (write_schedule 5 (records_of everything ++ 0 ∷ []) (lent 22)).answer.number ≡ 12
more-written = more-records-are-12 5 (lent 22) everything 0 [] (record { legal = everything-legal; recorded = refl; room = everything-can-write.room })

-- the names alone
order-read : (read_schedule 5 (pack (order_bits everything.order)) (lent 66)).answer.number ≡ 11
order-read = order-only-is-11 5 (lent 66) everything.order (record { width = everything-legal.width; names = everything-legal.names })

-- 16 times the bytes always suffice, and then the room decides nothing
at-limits-sixteen : length (records_of largest) ≤ 16 * length (schedule_bytes largest)
at-limits-sixteen = sixteen-times 200 largest at-limits-legal

walked : (read_schedule 5 everything_bytes (lent 352)).answer.number ≡ (convert packed unwritten 5 everything_bytes []).answer.number
walked = room-always-suffices 5 everything_bytes (lent 352) (omega arith)

-- ---- the first fault

-- 127 types into nothing: the room ends before the value is looked at
room-first : (read_schedule 2 (hex 1 0xff) []).answer.number ≡ 11
unfolding schedule_fields
room-first = (reads-numbers 2 (hex 1 0xff) []).eleven.1 (two, room_ends (omega arith))

-- into two bytes
value-then : (read_schedule 2 (hex 1 0xff) (lent 2)).answer.number ≡ 12
unfolding odd to_bits bits_of schedule_fields
value-then = (reads-numbers 2 (hex 1 0xff) (lent 2)).twelve.1 (inr (inl (two, bad_value 127 (true ∷ []) (omega arith) refl (omega arith) (inr (omega arith)))))

-- a record of 128 types, and no schedule to write to
end-first : (write_schedule 2 (hex 2 0x0080) []).answer.number ≡ 11
unfolding schedule_fields
end-first = (writes-numbers 2 (hex 2 0x0080) []).eleven.1 (two, room_ends (omega arith))

-- no types; the item count passes the end
end_later : (convert packed unwritten 2 (hex 2 0x0000) []).answer.number ≡ 11
unfolding odd to_bits bits_of times schedule_fields
end_later = (walks-numbers 2 (hex 2 0x0000)).eleven.1 (two, later 0 (replicate 9 false) (omega arith) refl (omega arith) (omega arith) (omega arith) (bits_end (omega arith)))

-- no types, no items, and a bit behind them that is set
set-behind : (read_schedule 2 (hex 3 0x000001) (lent 4)).answer.number ≡ 12
set-behind = (reads-numbers 2 (hex 3 0x000001) (lent 4)).twelve.1 (inr (inr set-bit))

-- ---- the worked example, from its sheet

worked-read-back : ReadBack asked
worked-read-back = ours-is-read asked refl accepted
