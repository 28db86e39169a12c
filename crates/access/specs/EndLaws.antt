-- What the parts of a call leave is what is due.
use Rattle.std.specs.Prelude.{Bool, true, cond, List, ◌≡◌, ℕ, ltb, length}
use Rattle.std.proofs.Math.Bool.{false}
use Rattle.std.proofs.Common.{sym, ◌∙◌}
use Rattle.std.proofs.Math.Path.{ap}
use Rattle.lists.specs.Lists.{null}
use Rattle.lists.specs.Tests.{by, never, null-nil}
use Rattle.definitions.specs.Bits.{size}
use Rattle.definitions.specs.Records.{Row, Sheet}
use Rattle.definitions.specs.Map.{TypeMap, type_map_of}
use Rattle.definitions.specs.Order.{has_order, organize_type_map}
use Rattle.definitions.specs.Synthesis.{synthesis}
use Rattle.definitions.specs.Packing.{order_bits, schedule_bits}
use Rattle.definitions.specs.Answer.{Call, order, schedule, schedule_of}
use Rattle.law_lines.specs.Statements.{Readable, line_map, any_refused}
use Rattle.law_synthesis.specs.Rows.{rows-are-tested}
use Rattle.sheet_draft.specs.declared.Draft.{Draft}
use Rattle.sheet_draft.specs.declared.entry.Entry.{Entry}
use Rattle.catalogue.specs.declared.Catalogue.{Catalogue}
use Rattle.order_compact.specs.Reading.{Drawn}
use Rattle.order_listing.specs.Listing.{Listing}
use Rattle.synthesis.specs.Synthesized.{Written}
use Rattle.answers.specs.Answers.{Answer, parts, answer_of, Answered}
use Rattle.answers.specs.TellingLaws.{answered, answered-as}
use Rattle.access.specs.Ending.{listed, ended, Unordered}

-- ---- the parts that both calls have

-- 10 and acceptance
pub listed-so : (bits : List Bool) (l l' d : List ℕ) (a : Answer) → Listing l l' bits a → Answered a l' d (listed bits l d)
listed-so bits l l' d a q = answered a _ l' d _ q.answer due
  where
    due : record { answer = parts (cond (ltb (length l) (size (length bits))) 10 0) (size (length bits)) 0 false; listing = l'; diagnosis = d } ≡ listed bits l d
    due = by (ltb (length l) (size (length bits))) (λ s. rw (q.listing, s)) (λ s. rw (q.listing, s))

-- 8 is due to either call where there is no order
pub unordered-so : (call : Call) (t : Catalogue) (d : Draft) (entries : List Entry) (n w limit : ℕ) (m : TypeMap) → Drawn m t d entries n w → (l b b' : List ℕ) (a : Answer) → has_order m ≡ false
    → Unordered t d entries n w limit b b' a → Answered a l b' (ended limit call m l b)
unfolding ended
unordered-so call t d entries n w limit m e l b b' a f q = answered-as a l b' _ _ (q.due m e l) (sym (rw f))

-- the order-only call with an order
pub ordered-so : (limit : ℕ) (m : TypeMap) (bits : List Bool) (l l' d : List ℕ) (a : Answer) → has_order m ≡ true → bits ≡ order_bits (organize_type_map m)
    → Listing l l' bits a → Answered a l' d (ended limit order m l d)
unfolding ended schedule_of
ordered-so limit m bits l l' d a h e q =
    answered-as a l' d _ _ (listed-so bits l l' d a q) (ap (λ (b : List Bool). listed b l d) e ∙ sym (rw h))

-- ---- the schedule call

module _ (limit : ℕ) (s : Sheet) (r : Readable s) (h : has_order (type_map_of s) ≡ true) where
  -- the rows of the synthesis
  abbrev rows : List Row
  rows = (synthesis (type_map_of s)).rows

  -- 9: there is a row where a type is refused (FORMAT 8.11)
  pub rows-so : (l d d' : List ℕ) (count : ℕ) (more : Bool) (a : Answer) → any_refused (line_map s) ≡ true → Written limit (synthesis (type_map_of s)).rows d d' count more
      → answer_of a ≡ parts 9 0 count more → Answered a l d' (ended limit schedule (type_map_of s) l d)
  unfolding ended
  rows-so l d d' count more a e w t =
      let some : null rows ≡ false =
      by (null rows)
      (λ n. never e ((rows-are-tested s (record { readable = r; order = h })).0 (null-nil rows n)))
      (λ n. n) in
      answered a _ l d' _ t (rw (h, some, w.counted, w.rest, w.bytes))

  -- 10 and acceptance
  pub scheduled-so : (l l' d : List ℕ) (a : Answer) → any_refused (line_map s) ≡ false → Listing l l' (schedule_bits (schedule_of schedule (type_map_of s))) a
      → Answered a l' d (ended limit schedule (type_map_of s) l d)
  unfolding ended
  scheduled-so l l' d a e q =
      answered-as a l' d _ _
      (listed-so (schedule_bits (schedule_of schedule (type_map_of s))) l l' d a q)
      (sym (rw (h, ap null ((rows-are-tested s (record { readable = r; order = h })).1 e))))
