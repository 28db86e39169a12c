-- Each construct of a schedule is read from the bits that it is written in, within the limits, and from no others. The parsers
-- here are tools of the proof: no statement names them.
use Rattle.std.specs.Prelude.{Bool, List, ◌∷◌, ◌++◌, refl, ℕ, ◌≤◌}
use Rattle.std.proofs.Math.Bool.{true, false}
use Rattle.std.proofs.Common.{arith}
use Rattle.definitions.specs.Bits.{to_bits}
use Rattle.definitions.specs.Records.{Name, Mark, Item, synthesized, extension, Schedule}
use Rattle.definitions.specs.Parse.{Parser, ◌>>=◌, pure, choose, flag, counted}
use Rattle.definitions.specs.Reading.{word_field, name, mark}
use Rattle.definitions.specs.Packing.{counted_bits, name_bits, parent_bits, mark_bits, item_bits, order_bits, item_count_bits, schedule_bits}
use Rattle.definitions.specs.Legal.{Counted, LegalMark}
use Rattle.definitions.specs.LegalSchedule.{least_parents, most_parents, most_parent_words, most_marks, most_names, most_items, LegalNames, LegalParent, LegalItem}
use Rattle.law_reading.specs.Parsers.{Reads, Only, Exact, Codes, reads-next, reads-last, only_next, only-last, flag-codes, counted-codes}
use Rattle.law_reading.specs.Constructs.{mark-codes, word_field-codes, name-codes}

-- ---- the parsers

abbrev parse_parent : ℕ → Parser Name
parse_parent W = counted 2 1 most_parent_words (word_field W)

abbrev parse_made : ℕ → Parser Item
parse_made W = do
  n ← name W
  r ← word_field W
  v ← flag
  ps ← counted 5 least_parents most_parents (parse_parent W)
  ms ← counted 9 0 most_marks mark
  pure (synthesized n r v ps ms)

abbrev parse_line : ℕ → Parser Item
parse_line W = do
  n ← name W
  v ← flag
  t ← flag
  r ← word_field W
  pure (extension n v t r)

abbrev pub parse_item : ℕ → Parser Item
parse_item W = do
  is_line ← flag
  choose is_line (parse_line W) (parse_made W)

abbrev pub parse_names : ℕ → Parser (List Name)
parse_names W = counted 7 0 most_names (name W)

abbrev pub parse_schedule : ℕ → Parser Schedule
parse_schedule W = do
  ns ← parse_names W
  xs ← counted item_count_bits 0 most_items (parse_item W)
  pure (record { order = ns; items = xs })

-- ---- what they read

-- the fields of a schedule, but for W itself
pub record WithinFields (W : ℕ) (s : Schedule) : Type 0 where
  pub names : LegalNames W s.order
  pub items : Counted 0 most_items (LegalItem W) s.items

module _ (W : ℕ) (small : W ≤ 256) where
  parent-codes : Codes (parse_parent W) parent_bits (LegalParent W)
  unfolding parent_bits
  parent-codes = counted-codes (word_field-codes W small) 2 1 most_parent_words (omega arith)

  parents-codes : Codes (counted 5 least_parents most_parents (parse_parent W)) (counted_bits 5 parent_bits) (Counted least_parents most_parents (LegalParent W))
  parents-codes = counted-codes parent-codes 5 least_parents most_parents (omega arith)

  marks-codes : Codes (counted 9 0 most_marks mark) (counted_bits 9 mark_bits) (Counted 0 most_marks LegalMark)
  marks-codes = counted-codes mark-codes 9 0 most_marks (omega arith)

  made_reads : (n : Name) (r : ℕ) (v : Bool) (ps : List Name) (ms : List Mark) → LegalItem W (synthesized n r v ps ms)
      → Reads (parse_made W) (synthesized n r v ps ms) (name_bits n ++ (to_bits 8 r ++ (v ∷ counted_bits 5 parent_bits ps ++ counted_bits 9 mark_bits ms)))
  made_reads n r v ps ms h =
      let x = synthesized n r v ps ms in
      let ms' = counted_bits 9 mark_bits ms in
      let ps' = counted_bits 5 parent_bits ps ++ ms' in
      reads-next (name-codes W small) _ n x (to_bits 8 r ++ (v ∷ ps')) h.type
      (reads-next (word_field-codes W small) _ r x (v ∷ ps') h.word
      (reads-next flag-codes _ v x ps' tt
      (reads-next parents-codes _ ps x ms' h.parents
      (reads-last marks-codes (λ ms. synthesized n r v ps ms) ms h.marks))))

  line_reads : (n : Name) (v t : Bool) (r : ℕ) → LegalItem W (extension n v t r) → Reads (parse_line W) (extension n v t r) (name_bits n ++ (v ∷ t ∷ to_bits 8 r))
  line_reads n v t r h =
      let x = extension n v t r in
      reads-next (name-codes W small) _ n x (v ∷ t ∷ to_bits 8 r) h.type
      (reads-next flag-codes _ v x (t ∷ to_bits 8 r) tt
      (reads-next flag-codes _ t x (to_bits 8 r) tt
      (reads-last (word_field-codes W small) (λ r. extension n v t r) r h.word)))

  abbrev ExactItem : Item → List Bool → Type 0
  ExactItem x bits = Exact item_bits (LegalItem W) x bits

  made-only : Only (parse_made W) (λ x ys. ExactItem x (false ∷ ys))
  unfolding item_bits
  made-only =
      only_next (name-codes W small) _ (λ x ys. ExactItem x (false ∷ ys))
      (λ n hn.
      only_next (word_field-codes W small) _ (λ x ys. ExactItem x (false ∷ name_bits n ++ ys))
      (λ r hr.
      only_next flag-codes _ (λ x ys. ExactItem x (false ∷ name_bits n ++ (to_bits 8 r ++ ys)))
      (λ v u.
      only_next parents-codes _ (λ x ys. ExactItem x (false ∷ name_bits n ++ (to_bits 8 r ++ (v ∷ ys))))
      (λ ps hp.
      only-last marks-codes (λ ms. synthesized n r v ps ms)
      (λ x ys. ExactItem x (false ∷ name_bits n ++ (to_bits 8 r ++ (v ∷ counted_bits 5 parent_bits ps ++ ys))))
      (λ ms hm. (refl, record { type = hn; word = hr; parents = hp; marks = hm }))))))

  line-only : Only (parse_line W) (λ x ys. ExactItem x (true ∷ ys))
  unfolding item_bits
  line-only =
      only_next (name-codes W small) _ (λ x ys. ExactItem x (true ∷ ys))
      (λ n hn.
      only_next flag-codes _ (λ x ys. ExactItem x (true ∷ name_bits n ++ ys))
      (λ v u.
      only_next flag-codes _ (λ x ys. ExactItem x (true ∷ name_bits n ++ (v ∷ ys)))
      (λ t u.
      only-last (word_field-codes W small) (λ r. extension n v t r) (λ x ys. ExactItem x (true ∷ name_bits n ++ (v ∷ t ∷ ys)))
      (λ r hr. (refl, record { type = hn; word = hr })))))

  pub item-codes : Codes (parse_item W) item_bits (LegalItem W)
  unfolding item_bits
  item-codes = record { back = back; only = only_next flag-codes _ (Exact item_bits (LegalItem W)) (λ b u. go b) }
    where
      back : (x : Item) → LegalItem W x → Reads (parse_item W) x (item_bits x)
      back (synthesized n r v ps ms) h =
          reads-next flag-codes _ false (synthesized n r v ps ms) (name_bits n ++ (to_bits 8 r ++ (v ∷ counted_bits 5 parent_bits ps ++ counted_bits 9 mark_bits ms))) tt
          (made_reads n r v ps ms h)
      back (extension n v t r) h = reads-next flag-codes _ true (extension n v t r) (name_bits n ++ (v ∷ t ∷ to_bits 8 r)) tt (line_reads n v t r h)

      go : (b : Bool) → Only (choose b (parse_line W) (parse_made W)) (λ x ys. ExactItem x (b ∷ ys))
      go true = line-only
      go false = made-only

  pub names-codes : Codes (parse_names W) order_bits (LegalNames W)
  unfolding order_bits
  names-codes = counted-codes (name-codes W small) 7 0 most_names (omega arith)

  items-codes : Codes (counted item_count_bits 0 most_items (parse_item W)) (counted_bits item_count_bits item_bits) (Counted 0 most_items (LegalItem W))
  items-codes = counted-codes item-codes item_count_bits 0 most_items (omega arith)

  pub schedule-codes : Codes (parse_schedule W) schedule_bits (WithinFields W)
  unfolding schedule_bits
  schedule-codes = record {
    back = λ s h.
        reads-next names-codes _ s.order s (counted_bits item_count_bits item_bits s.items) h.names
        (reads-last items-codes (λ xs. record { order = s.order; items = xs }) s.items h.items);
    only =
        only_next names-codes _ (Exact schedule_bits (WithinFields W))
        (λ ns hn.
        only-last items-codes (λ xs. record { order = ns; items = xs }) (λ s ys. Exact schedule_bits (WithinFields W) s (order_bits ns ++ ys))
        (λ xs hx. (refl, record { names = hn; items = hx })));
  }
