-- The steps of the loop.
use Rattle.std.specs.Prelude.{Bool, true, false, ◌&&◌, ◌||◌, List, [], ◌∷◌, ◌++◌, ◌≡◌, refl, ℕ, ◌+◌}
use Rattle.std.proofs.Math.Bool.{or-false, and-true}
use Rattle.std.proofs.Common.{sym, ap, ap₂, ◌∙◌, arith, ne_eqb, eq-eqb}
use Rattle.lists.specs.Lists.{all}
use Rattle.lists.specs.Appending.{all_append}
use Rattle.rows.specs.Rows.{has_bit}
use Rattle.rows.specs.RowLaws.{bit-none}
use Rattle.bitsets.specs.BitLaws.{bit-more}
use Rattle.order_form.specs.Lists.{tab, tab-step, tab-same}
use Rattle.order_form.specs.declared.Parents.{Parents}
use Rattle.synth_hearing.specs.declared.Flags.{Flags}
use Rattle.synth_hearing.specs.Hearing.{hands_at, WithFlag, FlagsTo}

-- what a set has with one number more
pub ruleset one_more = (bit-more)

module _ (p : Parents) (t fresh ok : ℕ) where
  pub flags-none : FlagsTo p t fresh ok 0 (record { row = 0; «all» = true })
  flags-none = record { bits = refl; none = λ k h. bit-none k; whole = refl }

  pub flags-more : (n : ℕ) (f : Flags) (b : Bool) (r : Flags) → FlagsTo p t fresh ok n f → b ≡ hands_at p t fresh ok n → WithFlag f n b r → FlagsTo p t fresh ok (n + 1) r
  flags-more n f b r g e w =
      let z : has_bit f.row n ≡ false = g.none n (omega arith) in
      record {
        bits =
            tab-step (has_bit r.row) n
            ∙ ap₂ (λ (l : List Bool) (x : Bool). l ++ (x ∷ []))
            (tab-same (has_bit r.row) (has_bit f.row) n
            (λ i l. w.bits i ∙ ap (λ (c : Bool). has_bit f.row i || (c && b)) (ne_eqb n i (λ q. absurd (omega arith))) ∙ or-false (has_bit f.row i))
            ∙ g.bits)
            (w.bits n ∙ ap₂ (λ (c d : Bool). c || (d && b)) z (eq-eqb n n refl) ∙ e)
            ∙ sym (tab-step (hands_at p t fresh ok) n);
        none = λ k h.
            w.bits k
            ∙ ap₂ (λ (c d : Bool). c || (d && b)) (g.none k (omega arith)) (ne_eqb n k (λ q. absurd (omega arith)));
        whole =
            w.whole
            ∙ ap₂ (λ (c d : Bool). c && d) g.whole e
            ∙ sym (ap (all (λ (c : Bool). c)) (tab-step (hands_at p t fresh ok) n)
            ∙ all_append (λ (c : Bool). c) (tab (hands_at p t fresh ok) n) (hands_at p t fresh ok n ∷ [])
            ∙ ap (λ (c : Bool). all (λ (d : Bool). d) (tab (hands_at p t fresh ok) n) && c) (and-true (hands_at p t fresh ok n)));
      }
