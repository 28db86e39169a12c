-- Laws of a word's classes.
use Rattle.std.specs.Prelude.{Bool, true, false, not, Some, None, is_some, ◌≡◌, ℕ, ◌/◌, ◌<◌, eqb}
use mathlib.Core.List.{List, [], ◌∷◌, map}
use Rattle.std.proofs.Math.Path.{refl, sym, ap}
use Rattle.std.proofs.Common.{ap₂, ◌∙◌}
use native.Mathlib.Omega.{arith}
use Rattle.lists.specs.Lists.{filter, first_of}
use Rattle.lists.specs.Tests.{by}
use Rattle.emitting.specs.Emitting as emitting
use Rattle.rows.specs.declared.Row.{Row}
use Rattle.rows.specs.Rows.{has}
use Rattle.rows.specs.Lists.{below}
use Rattle.definitions.specs.Records as records
use Rattle.definitions.specs.Records.{Name, Sheet}
use Rattle.definitions.specs.Packing.{row_bytes}
use Rattle.fields.specs.declared.Name as held
use Rattle.fields.specs.Fields.{two_words, name_of}
use Rattle.law_lines.specs.Statements.{line_map}
use Rattle.catalogue.specs.Layout.{head_at}
use Rattle.catalogue.specs.declared.Catalogue.{Catalogue}
use Rattle.catalogue.specs.Catalogue.{is_resource_head}
use Rattle.synth_classes.specs.Classes.{place_if, place_in, unknown_at, other_at}
use Rattle.synth_classes.specs.ClassLaws.{place-low, asked-some, asked-none}
use Rattle.synth_classes.specs.Made.{class_name, classes_of}
use Rattle.synth_classes.specs.Walks.{among, among-kept, classes-with}
use Rattle.synth_classes.specs.Known.{Known, unknown-known, other-known}
use Rattle.synth_interpretation.specs.declared.Reason.TheVariants.{Unknown}
use Rattle.emitting.specs.declared.Writer.{Writer}
use Rattle.emitting.specs.Writing.{state, SameSlice, same_self, same_then, Adds}
use Rattle.synth_interpretation.specs.Emit.{emit_bytes, emit, Emits, bytes_of, name-bytes}
use Rattle.synth_interpretation.specs.Judged.{is_unknown, is_other, unknown_doms, name_in, unknown_row}

-- what the place of a class tells
pub unknown_place : (t : Catalogue) (word k : ℕ) → not (is_some (place_if (place_in t word k))) ≡ unknown_at t word k
unfolding unknown_at
unknown_place t word k = ap not (place-low (place_in t word k))

pub other_place : (t : Catalogue) (word k p : ℕ) → place_if (place_in t word k) ≡ Some p → not (eqb (head_at t p / 64) 1) ≡ other_at t word k
unfolding other_at is_resource_head
other_place t word k p e = asked-some (λ q. not (eqb (head_at t q / 64) 1)) (place_in t word k) p e

pub other_none : (t : Catalogue) (word k : ℕ) → place_if (place_in t word k) ≡ None → false ≡ other_at t word k
unfolding other_at
other_none t word k e = asked-none (λ q. not (is_resource_head (head_at t q))) (place_in t word k) e

-- ---- the classes in a map

-- the first of which f holds is the first that is kept
pub first-with : (f : Name → Bool) (l : List Name) (c : Name) (k : List Name) → filter f l ≡ c ∷ k → first_of f l ≡ c ∷ []
first-with f [] c k e = let z : ◌≡◌ {A = ℕ} 0 1 = cc in absurd (omega arith)
first-with f (x ∷ l) c k e =
    by (f x)
    (λ p. let q : x ∷ filter f l ≡ c ∷ k = rw p at e in let z : x ≡ c = cc in rw (p, z))
    (λ p. rw p (first-with f l c k (rw p at e)))

pub first-without : (f : Name → Bool) (l : List Name) → filter f l ≡ [] → first_of f l ≡ []
first-without f [] e = refl
first-without f (x ∷ l) e =
    by (f x)
    (λ p. let q : x ∷ filter f l ≡ [] = rw p at e in let z : ◌≡◌ {A = ℕ} 0 1 = cc in absurd (omega arith))
    (λ p. rw p (first-without f l (rw p at e)))

module _ (s : Sheet) (t : Catalogue) (known : Known s t) (doms : Row) (word : ℕ) (h : word < 255) where
  pub unknown-classes : filter (is_unknown (line_map s)) (classes_of doms word) ≡ map (class_name word) (unknown_doms t doms word)
  unfolding unknown_doms
  unknown-classes = classes-with (is_unknown (line_map s)) (unknown_at t word) doms word (λ k. sym (unknown-known s t known word k h))

  pub other-classes : filter (is_other (line_map s)) (classes_of doms word) ≡ map (class_name word) (below (among doms (other_at t word)) 201)
  other-classes = classes-with (is_other (line_map s)) (other_at t word) doms word (λ k. sym (other-known s t known word k h))

-- ---- rows

pub row-bytes : (kind : ℕ) (N : Name) (w f s a b : ℕ) (c : Name) → N ≡ two_words f s → c ≡ two_words a b →
    row_bytes (record { kind = kind; subject = N; other = c; word = w ∷ [] }) ≡ kind ∷ f ∷ s ∷ a ∷ b ∷ w ∷ []
unfolding row_bytes
row-bytes kind N w f s a b c p q = rw (p, q, name-bytes f s, name-bytes a b)

-- what w₀ has written by w, and the doms that are left
pub record Written (t : Catalogue) (place : ℕ) (doms : Row) (word : ℕ) (left : List ℕ) (w₀ w : Writer) : Type 0 where
  pub same : SameSlice w₀ w
  pub rows : emit w₀.limit (state w) (map (unknown_row t place word) (filter (unknown_at t word) left))
      ≡ emit w₀.limit (state w₀) (map (unknown_row t place word) (unknown_doms t doms word))

module _ (t : Catalogue) (place : ℕ) (doms : Row) (word : ℕ) (w₀ : Writer) where
  abbrev f : ℕ → Bool
  f = unknown_at t word

  abbrev R : ℕ → records.Row
  R = unknown_row t place word

  pub written_start : (left : List ℕ) → left ≡ below (has doms) 201 → Written t place doms word left w₀ w₀
  unfolding unknown_doms
  written_start left e =
      record { same = same_self w₀; rows = ap (λ l. emit w₀.limit (state w₀) (map R l)) (ap (filter f) e ∙ sym (among-kept doms f)) }

  pub written_known : (k : ℕ) (left rest : List ℕ) (w : Writer) → left ≡ k ∷ rest → f k ≡ false → Written t place doms word left w₀ w → Written t place doms word rest w₀ w
  written_known k left rest w e h x =
      let q : filter f left ≡ filter f rest = rw (e, h) refl in
      record { same = x.same; rows = ap (λ l. emit w₀.limit (state w) (map R l)) (sym q) ∙ x.rows }

  pub written_row : (k : ℕ) (left rest : List ℕ) (w : Writer) → left ≡ k ∷ rest → f k ≡ true → (w' : Writer) (T c : held.Name) →
      name_of T ≡ name_in t place → name_of c ≡ class_name word k →
      Adds w w' (emit_bytes w.limit (state w) (bytes_of T (Unknown c) word)) →
      Written t place doms word left w₀ w → Written t place doms word rest w₀ w'
  unfolding emitting.emit
  written_row k left rest w e h w' T c p q a x =
      let more = map R (filter f rest) in
      let r : filter f left ≡ k ∷ filter f rest = rw (e, h) refl in
      record {
        same = same_then w₀ w w' x.same a.same;
        rows =
            ap (λ st. emit w₀.limit st more) a.state
            ∙ ap₂ (λ n bs. emit w₀.limit (emit_bytes n (state w) bs) more) x.same.limit (sym (row-bytes 4 (name_in t place) word T.first T.second c.first c.second (class_name word k) (sym p) (sym q)))
            ∙ ap (λ l. emit w₀.limit (state w) (map R l)) (sym r)
            ∙ x.rows;
      }

  pub written_end : (left : List ℕ) (w : Writer) → left ≡ [] → Written t place doms word left w₀ w → Emits w₀ w (map R (unknown_doms t doms word))
  unfolding emitting.emit
  written_end left w e x =
      record { same = x.same; state = ap (λ l. emit w₀.limit (state w) (map R (filter f l))) (sym e) ∙ x.rows }

-- the steps of a walk over the doms
pub ruleset written_steps = (written_start, written_known, written_row, written_end)
