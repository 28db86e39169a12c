-- Laws of one word of an annotation.
use Rattle.std.specs.Prelude.{Bool, true, false, List, [], ◌∷◌, map, find, Option, Some, None, is_some, ◌≡◌, refl, ℕ, ◌<◌}
use Rattle.std.proofs.Math.Bool.{cond}
use Rattle.std.proofs.Common.{sym, ◌∙◌, subst, arith}
use Rattle.std.proofs.Math.Path.{ap}
use Rattle.lists.specs.Lists.{null, filter, first_of}
use Rattle.lists.specs.Tests.{never}
use Rattle.lists.specs.Appending.{map-map}
use Rattle.rows.specs.declared.Row.{Row}
use Rattle.rows.specs.Rows.{has}
use Rattle.rows.specs.Lists.{below}
use Rattle.definitions.specs.Records as records
use Rattle.definitions.specs.Records.{Name, Item, Sheet}
use Rattle.definitions.specs.Map.{LineType, LineMap}
use Rattle.definitions.specs.Packing.{row_bytes}
use Rattle.definitions.specs.Synthesis.{Verdict, unknown_classes, ends, no_resource, duplicate, makes, judge, class_row, is_duplicate}
use Rattle.fields.specs.Fields.{two_words}
use Rattle.law_lines.specs.Statements.{line_map}
use Rattle.law_classes.specs.Sets.{type_at}
use Rattle.catalogue.specs.declared.Catalogue.{Catalogue}
use Rattle.synth_classes.specs.declared.site.Site.{Site}
use Rattle.synth_classes.specs.declared.Origin.{Origin}
use Rattle.synth_classes.specs.Classes.{unknown_at, other_at}
use Rattle.synth_classes.specs.Made.{class_name, classes_of, created}
use Rattle.synth_classes.specs.Walks.{found-first, found-none}
use Rattle.synth_classes.specs.Known.{Known, name-known}
use Rattle.emitting.specs.declared.Writer.{Writer}
use Rattle.emitting.specs.Writing.{state, same_self, Adds}
use Rattle.synth_interpretation.specs.Emit.{emit_bytes, emit, Emits, name-bytes}
use Rattle.synth_interpretation.specs.Judged.{is_unknown, is_other, unknown_doms, name_in, unknown_row}
use Rattle.synth_interpretation.specs.JudgedLaws.{row-bytes, unknown-classes, other-classes, first-with, first-without}
use Rattle.synth_duplicates.specs.Held.{Makings, Keeps, Repeated}
use Rattle.emitting.specs.Emitting.{State}
use Rattle.emitting.specs.Emitting as emitting
use Rattle.synth_associates.specs.Step.{Reached, items_held, verdict_of, SteppedBy, Stepped}

-- ---- the verdict

judge-unknown : (f : Bool) (xs ns : List Name) (twice : Bool) → null xs ≡ false → judge f xs ns twice ≡ unknown_classes xs
judge-unknown f [] ns twice e = never refl e
judge-unknown true (x ∷ xs) ns twice e = refl
judge-unknown false (x ∷ xs) ns twice e = refl

judge-ends : (f : Bool) (xs ns : List Name) (twice : Bool) → null xs ≡ true → f ≡ true → judge f xs ns twice ≡ ends
judge-ends true [] ns twice e p = refl
judge-ends false [] ns twice e p = never p refl
judge-ends f (x ∷ xs) ns twice e p = never e refl

judge-other : (f : Bool) (xs ns : List Name) (twice : Bool) (c : Name) → null xs ≡ true → f ≡ false → ns ≡ c ∷ [] → judge f xs ns twice ≡ no_resource c
judge-other true [] ns twice c e p q = never refl p
judge-other false [] ns twice c e p q = rw q
judge-other f (x ∷ xs) ns twice c e p q = never e refl

judge-last : (f : Bool) (xs ns : List Name) (twice : Bool) → null xs ≡ true → f ≡ false → ns ≡ [] → judge f xs ns twice ≡ cond twice duplicate makes
judge-last true [] ns twice e p q = never refl p
judge-last false [] ns true e p q = rw q
judge-last false [] ns false e p q = rw q
judge-last f (x ∷ xs) ns twice e p q = never e refl

module _ (t : LineMap) (T r : ℕ) (doms : Row) (ps : ℕ) (f : Bool) (is : List Item) where
  pub verdict-unknown : null (filter (is_unknown t) (classes_of doms r)) ≡ false → verdict_of t T r doms ps f is ≡ unknown_classes (filter (is_unknown t) (classes_of doms r))
  unfolding verdict_of
  verdict-unknown e = judge-unknown f (filter (is_unknown t) (classes_of doms r)) (first_of (is_other t) (classes_of doms r)) (is_duplicate t (type_at t T) r (created t T r doms ps) is) e

  pub verdict-ends : null (filter (is_unknown t) (classes_of doms r)) ≡ true → f ≡ true → verdict_of t T r doms ps f is ≡ ends
  unfolding verdict_of
  verdict-ends e p = judge-ends f (filter (is_unknown t) (classes_of doms r)) (first_of (is_other t) (classes_of doms r)) (is_duplicate t (type_at t T) r (created t T r doms ps) is) e p

  pub verdict-other : (c : Name) → null (filter (is_unknown t) (classes_of doms r)) ≡ true → f ≡ false → first_of (is_other t) (classes_of doms r) ≡ c ∷ [] →
      verdict_of t T r doms ps f is ≡ no_resource c
  unfolding verdict_of
  verdict-other c e p q = judge-other f (filter (is_unknown t) (classes_of doms r)) (first_of (is_other t) (classes_of doms r)) (is_duplicate t (type_at t T) r (created t T r doms ps) is) c e p q

  pub verdict-last : (twice : Bool) → null (filter (is_unknown t) (classes_of doms r)) ≡ true → f ≡ false → first_of (is_other t) (classes_of doms r) ≡ [] →
      twice ≡ is_duplicate t (type_at t T) r (created t T r doms ps) is → verdict_of t T r doms ps f is ≡ cond twice duplicate makes
  unfolding verdict_of
  verdict-last twice e p q d = judge-last f (filter (is_unknown t) (classes_of doms r)) (first_of (is_other t) (classes_of doms r)) (is_duplicate t (type_at t T) r (created t T r doms ps) is) e p q ∙ ap (λ b. cond b duplicate makes) (sym d)

-- ---- rows 5 and 6

pub row_one : (limit kind : ℕ) (D : LineType) (w f s a b : ℕ) (c : Name) (st st' : State) → D.name ≡ two_words f s → c ≡ two_words a b →
    st' ≡ emit_bytes limit st (kind ∷ f ∷ s ∷ a ∷ b ∷ w ∷ []) → st' ≡ emit limit st (class_row kind D w c ∷ [])
unfolding emitting.emit
row_one limit kind D w f s a b c st st' p q e = e ∙ ap (emit_bytes limit st) (sym (row-bytes kind D.name w f s a b c p q))

pub row-none : (limit kind : ℕ) (D : LineType) (w f s : ℕ) (st st' : State) → D.name ≡ two_words f s →
    st' ≡ emit_bytes limit st (kind ∷ f ∷ s ∷ 255 ∷ 255 ∷ w ∷ []) → st' ≡ emit limit st (class_row kind D w [] ∷ [])
unfolding emitting.emit row_bytes
row-none limit kind D w f s st st' p e = e ∙ rw (p, name-bytes f s)

pub no_rows : (limit : ℕ) (st : State) → st ≡ emit limit st []
unfolding emitting.emit
no_rows limit st = refl

-- the step of the verdict that was reached
pub by-verdict : {t : LineMap} {T r : ℕ} {doms : Row} {ps : ℕ} {s : Reached} {w : Writer} {p : Reached} {w' : Writer} {v u : Verdict} → v ≡ u →
    SteppedBy t T r doms ps s w p w' u → SteppedBy t T r doms ps s w p w' v
by-verdict {t} {T} {r} {doms} {ps} {s} {w} {p} {w'} e x = subst (λ z. SteppedBy t T r doms ps s w p w' z) (sym e) x

-- ---- the steps

-- whether there is an unknown class
pub some-unknown : (t : Catalogue) (doms : Row) (w : ℕ) (r : Option ℕ) → r ≡ find (unknown_at t w) (below (has doms) 201) → is_some r ≡ true → null (unknown_doms t doms w) ≡ false
unfolding unknown_doms
some-unknown t doms w (Some d) e h = ap null (found-first doms (unknown_at t w) d (sym e)).1
some-unknown t doms w None e h = never h refl

pub none-unknown : (t : Catalogue) (doms : Row) (w : ℕ) (r : Option ℕ) → r ≡ find (unknown_at t w) (below (has doms) 201) → is_some r ≡ false → null (unknown_doms t doms w) ≡ true
unfolding unknown_doms
none-unknown t doms w (Some d) e h = never refl h
none-unknown t doms w None e h = ap null (found-none doms (unknown_at t w) (sym e))

null-map : {A B : Type 0} (f : A → B) (l : List A) → null (map f l) ≡ null l
null-map f [] = refl
null-map f (x ∷ l) = refl

module _ (t : Catalogue) (site : Site) (o : Origin) (s : Reached) (w : Writer) (hw : site.word < 255) where
  abbrev T : ℕ
  T = site.place

  abbrev r : ℕ
  r = site.word

  abbrev ds : List ℕ
  ds = unknown_doms t o.doms r

  -- the unknown classes of every sheet whose catalogue it is
  unknown-null : (x : Sheet) → Known x t → null (filter (is_unknown (line_map x)) (classes_of o.doms r)) ≡ null ds
  unknown-null x k = ap null (unknown-classes x t k o.doms r hw) ∙ null-map (class_name r) ds

  -- unknown classes have their rows
  pub step-unknown : (w' : Writer) → null ds ≡ false → Emits w w' (map (unknown_row t T r) ds)
      → Stepped t site o s w (record { failed = true; ended = true; made = s.made }) w'
  step-unknown w' e a =
      record {
        same = a.same;
        count = omega arith;
        right = λ x k h.
            let m = line_map x in
            let c : List Name → List records.Row = map (class_row 4 (type_at m T) r) in
            by-verdict
            (verdict-unknown m T r o.doms o.parents s.failed (items_held m T s.made) (unknown-null x k ∙ e))
            (record {
              rows =
                  a.state
                  ∙ ap (λ (N : Name). emit w.limit (state w) (map (λ d. record { kind = 4; subject = N; other = class_name r d; word = r ∷ [] }) ds)) (name-known x t k T h)
                  ∙ ap (emit w.limit (state w)) (sym (map-map (class_row 4 (type_at m T) r) (class_name r) ds))
                  ∙ ap (λ l. emit w.limit (state w) (c l)) (sym (unknown-classes x t k o.doms r hw));
              ended = refl;
              failed = refl;
              items = refl;
            });
      }

  -- behind a word that failed the annotation ends
  pub step-ends : null ds ≡ true → s.failed ≡ true → Stepped t site o s w (record { failed = true; ended = true; made = s.made }) w
  step-ends e f =
      record {
        same = same_self w;
        count = omega arith;
        right = λ x k h.
            by-verdict
            (verdict-ends (line_map x) T r o.doms o.parents s.failed (items_held (line_map x) T s.made) (unknown-null x k ∙ e) f)
            (record { rows = no_rows w.limit (state w); ended = refl; failed = refl; items = refl });
      }

  module _ (e : null ds ≡ true) (f : s.failed ≡ false) (first : Option ℕ) (found : first ≡ find (other_at t r) (below (has o.doms) 201)) where
    -- a class that is no resource
    pub step_other : (d u v y z : ℕ) (w' : Writer) → first ≡ Some d → two_words u v ≡ name_in t T → two_words y z ≡ class_name r d
        → Adds w w' (emit_bytes w.limit (state w) (5 ∷ u ∷ v ∷ y ∷ z ∷ r ∷ []))
        → Stepped t site o s w (record { failed = true; ended = false; made = s.made }) w'
    step_other d u v y z w' l p q a =
        record {
          same = a.same;
          count = omega arith;
          right = λ x k h.
              let m = line_map x in
              let i = other-classes x t k o.doms r hw ∙ ap (map (class_name r)) (found-first o.doms (other_at t r) d (sym found ∙ l)).1 in
              by-verdict
              (verdict-other m T r o.doms o.parents s.failed (items_held m T s.made) (class_name r d) (unknown-null x k ∙ e) f (first-with (is_other m) (classes_of o.doms r) _ _ i))
              (record {
                rows = row_one w.limit 5 (type_at m T) r u v y z (class_name r d) (state w) (state w') (sym (p ∙ name-known x t k T h)) (sym q) a.state;
                ended = refl;
                failed = refl;
                items = refl;
              });
        }

    none_other : (x : Sheet) → Known x t → first ≡ None → first_of (is_other (line_map x)) (classes_of o.doms r) ≡ []
    none_other x k l =
        first-without (is_other (line_map x)) (classes_of o.doms r)
        (other-classes x t k o.doms r hw ∙ ap (map (class_name r)) (found-none o.doms (other_at t r) (sym found ∙ l)))

    -- a duplicate
    pub step-duplicate : (u v : ℕ) (c : Bool) (w' : Writer) → first ≡ None → Repeated t site o s.made s.made.count c → c ≡ true → two_words u v ≡ name_in t T
        → Adds w w' (emit_bytes w.limit (state w) (6 ∷ u ∷ v ∷ 255 ∷ 255 ∷ r ∷ []))
        → Stepped t site o s w (record { failed = true; ended = false; made = s.made }) w'
    step-duplicate u v c w' l a g p b =
        record {
          same = b.same;
          count = omega arith;
          right = λ x k h.
              let m = line_map x in
              by-verdict
              (verdict-last m T r o.doms o.parents s.failed (items_held m T s.made) true (unknown-null x k ∙ e) f (none_other x k l) (sym g ∙ a.right x k h))
              (record {
                rows = row-none w.limit 6 (type_at m T) r u v (state w) (state w') (sym (p ∙ name-known x t k T h)) b.state;
                ended = refl;
                failed = refl;
                items = refl;
              });
        }

    -- a making
    pub step-makes : (c : Bool) (made : Makings) → first ≡ None → Repeated t site o s.made s.made.count c → c ≡ false → Keeps s.made r o.doms o.parents made
        → Stepped t site o s w (record { failed = false; ended = false; made = made }) w
    step-makes c made l a g b =
        record {
          same = same_self w;
          count = omega (arith, b.count);
          right = λ x k h.
              let m = line_map x in
              by-verdict
              (verdict-last m T r o.doms o.parents s.failed (items_held m T s.made) false (unknown-null x k ∙ e) f (none_other x k l) (sym g ∙ a.right x k h))
              (record { rows = no_rows w.limit (state w); ended = refl; failed = refl; items = b.items m T });
        }
