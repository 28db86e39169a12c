-- Laws of reading one field of a schedule.
use Rattle.std.specs.Prelude.{Bool, true, false, ◌&&◌, List, ◌≡◌, ℕ, ◌+◌, ◌*◌, ◌≤◌, ◌<◌, leb, ltb, length, drop}
use Rattle.std.proofs.Math.Path.{refl}
use Rattle.std.proofs.Common.{sym, ◌∙◌, arith, leb-true, le-ltb, lt-ltb, ltb-true, ltb-false}
use Rattle.lists.specs.Tests.{by, and_right, or-false-left, or-false-right}
use Rattle.definitions.specs.Bits.{bits_of, num}
use Rattle.fields.specs.declared.Fault.{Fault}
use Rattle.definitions.specs.Parse.{not_allowed, pure, refuse, choose, allowed}
use Rattle.definitions.specs.LegalSchedule.{least_words, most_words, LegalWidth}
use Rattle.definitions.specs.Conversion.{bad_width}
use Rattle.bits.specs.NumberLaws.{length-bits_of}
use Rattle.sheet_window.specs.WindowLaws.{field_in, field_past}
use Rattle.schedule_fields.specs.declared.Rule.{Rule}
use Rattle.schedule_values.specs.Meeting.{head, Met, Missed, bits_within, most_bits}

-- W as it may be
pub good-width : (W : ℕ) → bad_width W ≡ false → LegalWidth W
good-width W e = record {
  enough = ltb-false W least_words (or-false-left (ltb W least_words) (ltb most_words W) e);
  few = ltb-false most_words W (or-false-right (ltb W least_words) (ltb most_words W) e);
}

-- so few bits pass the end of bytes where they pass the bits that are counted
pub past-within : (bytes p : ℕ) → p ≤ most_bits → ltb (bits_within bytes) p ≡ ltb (8 * bytes) p
past-within bytes p h = by (ltb (8 * bytes) p)
    (λ e. lt-ltb (bits_within bytes) p (omega (arith, ltb-true (8 * bytes) p e)) ∙ sym e)
    (λ e. le-ltb (bits_within bytes) p (omega (arith, ltb-false (8 * bytes) p e)) ∙ sym e)

module _ (short : Bool) (n : ℕ) (rule : Rule) (source : List ℕ) (p : ℕ) where
  pub meets-short : short ≡ true → Missed short n rule source p Fault.Past
  meets-short e = record { same = rw e refl }

  pub meets-past : short ≡ false → 0 < n → 8 * length source < p + n → Missed short n rule source p Fault.Past
  unfolding allowed
  meets-past e h l = record { same = rw (e, field_past (bits_of source) p n h (omega (arith, length-bits_of source))) refl }

  -- a field that is there: its value is tested
  tested : (v : ℕ) → short ≡ false → 0 < n → p + n ≤ 8 * length source → v ≡ num n (drop p (bits_of source))
      → head short n rule.least rule.most (drop p (bits_of source))
      ≡ choose (leb rule.least v && leb v rule.most) (pure v) (refuse not_allowed) (drop (p + n) (bits_of source))
  unfolding allowed
  tested v e h l q = rw (e, field_in (bits_of source) p n (p + n) h refl (omega (arith, length-bits_of source)), ← q) refl

  pub meets-outside : (v : ℕ) → short ≡ false → 0 < n → p + n ≤ 8 * length source → v ≡ num n (drop p (bits_of source))
      → (leb rule.least v && leb v rule.most) ≡ false → Missed short n rule source p Fault.NotAllowed
  meets-outside v e h l q b = record { same = tested v e h l q ∙ rw b refl }

  pub meets-value : (v : ℕ) → short ≡ false → 0 < n → p + n ≤ 8 * length source → v ≡ num n (drop p (bits_of source))
      → (leb rule.least v && leb v rule.most) ≡ true → Met short n rule source p v
  meets-value v e h l q b = record {
    same = tested v e h l q ∙ rw b refl;
    few = leb-true v rule.most (and_right (leb rule.least v) (leb v rule.most) b);
    within = l;
    long = e;
  }
