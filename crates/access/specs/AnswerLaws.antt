-- Test by test, what the definitions answer to either call.
use Rattle.std.specs.Prelude.{Bool, true, false, ◌≡◌, ℕ, ◌*◌, ◌≤◌, ltb, length, Ok}
use Rattle.std.proofs.Math.Bool.{not}
use mathlib.Core.List.{List, [], ◌∷◌}
use Rattle.std.proofs.Math.Path.{refl, sym, ap}
use Rattle.std.proofs.Common.{◌∙◌, le-ltb}
use Rattle.lists.specs.Lists.{null}
use Rattle.lists.specs.Tests.{by}
use Rattle.definitions.specs.Bits.{bits_of, size, pack}
use Rattle.definitions.specs.Records.{Sheet}
use Rattle.definitions.specs.Parse.{Fault, past, not_allowed, done, refused}
use Rattle.definitions.specs.Reading.{sheet}
use Rattle.definitions.specs.Checks.{bad_fill, bad_words, something_twice}
use Rattle.definitions.specs.Map.{TypeMap, type_map_of}
use Rattle.definitions.specs.Order.{has_order}
use Rattle.definitions.specs.OrderRows.{order_rows}
use Rattle.definitions.specs.Relisted.{Holds}
use Rattle.definitions.specs.Answer as rules
use Rattle.definitions.specs.Answer.{Call, Input, Outcome, sheet_fault, refused_by, rest_of, sheet_of, Refusal, bad_limit, short, synthesis_rows, overwrite, late_refusals, type_map_in, sheet_refusals, refusals, reject, accept, first_refusal, outcome}
use Rattle.bits.specs.NumberLaws.{length-pack_to}
use Rattle.law_reading.specs.Statements.{RowsFit}
use Rattle.law_reading.specs.Refusals.{rejected, all_pass}
use Rattle.law_reading.proofs.Answers.{limit-passes, room-passes, held-passes}
use Rattle.law_decoding.specs.Decoding.{turned_back, decoded}
use Rattle.law_decoding.specs.Statements.{Why, unread, fill, words, twice}
use Rattle.law_decoding.specs.DecodingLaws.{turned-back-why}
use Rattle.law_orders.specs.Alike.{first_holds, first-passed, rowless, bare-alone}
use Rattle.answers.specs.declared.Settings.{Settings}
use Rattle.answers.specs.Answers.{settings_of, alone, outcome_of, input_of}
use Rattle.access.specs.Ending.{bits_for, ended}

-- a refusal by its number alone leaves both slices
abbrev pub untouched : ℕ → List ℕ → List ℕ → Outcome
untouched n listing diagnosis = record { answer = alone n; listing = listing; diagnosis = diagnosis }

module _ (call : Call) (settings : Settings) (s l d : List ℕ) where
  abbrev i : Input
  i = input_of call settings s l d

  -- ---- 8, 9 and 10

  abbrev eight : TypeMap → Refusal
  eight m = rules.diagnosed 8 (λ u. not (has_order m)) (λ u. order_rows m)

  abbrev nine : TypeMap → Refusal
  nine m = rules.diagnosed 9 (λ u. not (null (synthesis_rows call m))) (λ u. synthesis_rows call m)

  abbrev ten : TypeMap → Refusal
  ten m = short 10 (λ u. ltb (length l) (size (length (bits_for call m)))) (λ u. size (length (bits_for call m)))

  module _ (m : TypeMap) (e : type_map_in i ≡ m) where
    no-order : has_order m ≡ false → first_refusal i (late_refusals i m) ≡ ended settings.rows call m l d
    unfolding ended reject
    no-order h = first_holds i (eight m) (nine m ∷ ten m ∷ []) (ap not h) ∙ sym (rw h)

    -- an order is no refusal
    up-to-nine : has_order m ≡ true → first_refusal i (late_refusals i m) ≡ first_refusal i (nine m ∷ ten m ∷ [])
    up-to-nine h = first-passed i (eight m) (nine m ∷ ten m ∷ []) (ap not h)

    with_rows : has_order m ≡ true → null (synthesis_rows call m) ≡ false → first_refusal i (late_refusals i m) ≡ ended settings.rows call m l d
    unfolding ended reject
    with_rows h k = up-to-nine h ∙ first_holds i (nine m) (ten m ∷ []) (ap not k) ∙ sym (rw (h, k))

    up-to-ten : has_order m ≡ true → null (synthesis_rows call m) ≡ true → first_refusal i (late_refusals i m) ≡ first_refusal i (ten m ∷ [])
    up-to-ten h k = up-to-nine h ∙ first-passed i (nine m) (ten m ∷ []) (ap not k)

    too_short : has_order m ≡ true → null (synthesis_rows call m) ≡ true → ltb (length l) (size (length (bits_for call m))) ≡ true →
        first_refusal i (late_refusals i m) ≡ ended settings.rows call m l d
    unfolding ended
    too_short h k q = up-to-ten h k ∙ first_holds i (ten m) [] q ∙ rowless i (ten m) refl ∙ sym (rw (h, k, q))

    acceptance : List Bool → Outcome
    acceptance bits = outcome_of (Ok (length (pack bits))) (overwrite (pack bits) l) d

    accepted : has_order m ≡ true → null (synthesis_rows call m) ≡ true → ltb (length l) (size (length (bits_for call m))) ≡ false →
        first_refusal i (late_refusals i m) ≡ ended settings.rows call m l d
    unfolding ended first_refusal accept acceptance pack
    accepted h k q =
        up-to-ten h k
        ∙ first-passed i (ten m) [] q
        ∙ ap (λ (x : TypeMap). acceptance (bits_for call x)) e
        ∙ ap (λ (x : ℕ). outcome_of (Ok x) (overwrite (pack (bits_for call m)) l) d) (length-pack_to (size (length (bits_for call m))) (bits_for call m))
        ∙ sym (rw (h, k, q))

    last-three : first_refusal i (late_refusals i m) ≡ ended settings.rows call m l d
    last-three =
        by (has_order m)
        (λ h.
        by (null (synthesis_rows call m))
        (λ k. by (ltb (length l) (size (length (bits_for call m)))) (λ q. too_short h k q) (λ q. accepted h k q))
        (λ k. with_rows h k))
        (λ h. no-order h)

  -- ---- 3 to 7

  module _ (h : length s ≤ 40960) (k : RowsFit (settings_of settings) (length d)) where
    p1 : ltb 40960 (length s) ≡ false
    p1 = le-ltb 40960 (length s) h

    p17 : bad_limit (settings_of settings) ≡ false
    p17 = limit-passes i k

    p2 : ltb (length d) (6 * settings.rows) ≡ false
    p2 = room-passes i k

    -- a fault has its number
    faulty : (f : Fault) → sheet (bits_of s) ≡ refused f → untouched (sheet_fault f) l d ≡ outcome i
    unfolding outcome refusals
    faulty past e = sym (rejected i 3 (refusals i) (p1, (p17, (p2, tt))) (ap (refused_by past) e) ∙ bare-alone i 3 _)
    faulty not_allowed e = sym (rejected i 4 (refusals i) (p1, (p17, (p2, (ap (refused_by past) e, tt)))) (ap (refused_by not_allowed) e) ∙ bare-alone i 4 _)

    module _ (t : Sheet) (rest : List Bool) (e : sheet (bits_of s) ≡ done t rest) where
      p3 : refused_by past (sheet (bits_of s)) ≡ false
      p3 = ap (refused_by past) e

      p4 : refused_by not_allowed (sheet (bits_of s)) ≡ false
      p4 = ap (refused_by not_allowed) e

      f : bad_fill (rest_of (sheet (bits_of s))) ≡ bad_fill rest
      f = ap (λ p. bad_fill (rest_of p)) e

      w : bad_words (sheet_of (sheet (bits_of s))).words ≡ bad_words t.words
      w = ap (λ p. bad_words (sheet_of p).words) e

      o : something_twice (sheet_of (sheet (bits_of s))) ≡ something_twice t
      o = ap (λ p. something_twice (sheet_of p)) e

      seven : bad_fill rest ≡ true → untouched 7 l d ≡ outcome i
      unfolding outcome refusals
      seven a = sym (rejected i 7 (refusals i) (p1, (p17, (p2, (p3, (p4, tt))))) (f ∙ a) ∙ bare-alone i 7 _)

      five : bad_fill rest ≡ false → bad_words t.words ≡ true → untouched 5 l d ≡ outcome i
      unfolding outcome refusals
      five a b = sym (rejected i 5 (refusals i) (p1, (p17, (p2, (p3, (p4, (f ∙ a, tt)))))) (w ∙ b) ∙ bare-alone i 5 _)

      six : bad_fill rest ≡ false → bad_words t.words ≡ false → something_twice t ≡ true → untouched 6 l d ≡ outcome i
      unfolding outcome refusals
      six a b c = sym (rejected i 6 (refusals i) (p1, (p17, (p2, (p3, (p4, (f ∙ a, (w ∙ b, tt))))))) (o ∙ c) ∙ bare-alone i 6 _)

    -- what the decoder turns back is refused so
    pub turned : (n : ℕ) → decoded s ≡ turned_back n → untouched n l d ≡ outcome i
    turned n e = go (turned-back-why s n e)
      where
        go : Why s n → untouched n l d ≡ outcome i
        go (unread f q g) = rw g (faulty f q)
        go (fill t rest q a g) = rw g (seven t rest q a)
        go (words t rest q a b g) = rw g (five t rest q a b)
        go (twice t rest q a b c g) = rw g (six t rest q a b c)

    -- what remains of a sheet: 8, 9, 10 and acceptance
    pub remains : (t : Sheet) → Holds s t → outcome i ≡ ended settings.rows call (type_map_of t) l d
    unfolding outcome refusals type_map_in
    remains t q =
        all_pass i (sheet_refusals i) (late_refusals i (type_map_in i)) (held-passes i t (record { held = q; fit = k }))
        ∙ last-three (type_map_in i) refl
        ∙ ap (λ p. ended settings.rows call (type_map_of (sheet_of p)) l d) q.read
