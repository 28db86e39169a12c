-- The annotations of a type, one after the other.
use Rattle.std.specs.Prelude.{Bool, true, ◌&&◌, not, List, [], ◌∷◌, ◌++◌, ◌≡◌, ℕ, ◌+◌, ◌≤◌}
use Rattle.std.proofs.Math.Bool.{false, and_assoc, and-true, not-not}
use Rattle.std.proofs.Common.{append-nil, append_assoc, ap₂, ◌∙◌, subst, arith}
use Rattle.std.proofs.Math.Path.{refl, sym, ap}
use Rattle.lists.specs.Lists.{null}
use Rattle.rows.specs.declared.Row.{Row}
use Rattle.definitions.specs.Records.{Name, Item}
use Rattle.definitions.specs.Checks.{resources_of}
use Rattle.definitions.specs.Map.{LineMap, LineType}
use Rattle.definitions.specs.Inherited.{InheritedAnnotation}
use Rattle.definitions.specs.Synthesis.{Interpreted, interpreted, behind_rows, interpret_words, interpret_all}
use Rattle.definitions.specs.Packing.{row_bytes}
use Rattle.synth_dedup.specs.declared.Entry.{Entry}
use Rattle.synth_dedup.specs.declared.inherited.Inherited.{Inherited}
use Rattle.synth_dedup.specs.Entries.{entries_of}
use Rattle.synth_dedup.specs.Reading.{resources_at, names_at, table_of, inherited_of}
use Rattle.law_lines.specs.Statements.{line_map}
use Rattle.law_classes.specs.Sets.{type_at}
use Rattle.catalogue.specs.declared.Catalogue.{Catalogue}
use Rattle.synth_own.specs.Owning.{OwnAssociates}
use Rattle.synth_classes.specs.Made.{type_names, names_in}
use Rattle.emitting.specs.declared.Writer.{Writer}
use Rattle.emitting.specs.Writing.{state, same_self, same_then}
use Rattle.synth_interpretation.specs.Emit.{emit}
use Rattle.synth_duplicates.specs.Held.{Makings, held_items}
use Rattle.synth_associates.specs.StepLaws.{no_rows}
use Rattle.synth_associates.specs.Step.{Reached, begun, items_held}
use Rattle.emitting.specs.Emitting.{emit-append}
use Rattle.synth_interpreting.specs.Entry.{size, interpret_entry, EntryDoneIn, EntryDone}
use Rattle.synth_interpreting.specs.declared.Progress.{Progress}
use Rattle.synth_interpreting.specs.Annotations.{own_entries_in, interpreted_of, AddedIn, Added, WithEntry, interpreted_at, TypeDoneIn, TypeDone}

-- ---- some annotations, and then others

all_append : (m : LineMap) (D : LineType) (a b : List InheritedAnnotation) (is : List Item) →
    interpret_all m D (a ++ b) is ≡ behind_rows (interpret_all m D a is).rows (interpret_all m D b (interpret_all m D a is).items)
unfolding interpret_all
all_append m D [] b is = refl
all_append m D (x ∷ a) b is =
    let i = interpret_words m D x.parents (resources_of x.annotation) false is in
    let j = interpret_all m D a i.items in
    let k = interpret_all m D b j.items in
    ap (behind_rows i.rows) (all_append m D a b i.items) ∙ ap (λ rs. interpreted rs k.items) (sym (append_assoc i.rows j.rows k.rows))

null-append : {A : Type 0} (a b : List A) → null (a ++ b) ≡ (null a && null b)
null-append [] b = refl
null-append (x ∷ a) b = refl

module _ (t : LineMap) (T : ℕ) where
  added_none : (s : Progress) (w : Writer) → AddedIn t T [] s w s w
  unfolding interpret_all
  added_none s w = record { rows = no_rows w.limit (state w); items = refl; clean = sym (and-true s.clean) }

  added_then : (a c : List InheritedAnnotation) (s p r : Progress) (w w' w'' : Writer) → w'.limit ≡ w.limit → AddedIn t T a s w p w' → AddedIn t T c p w' r w'' →
      AddedIn t T (a ++ c) s w r w''
  added_then a c s p r w w' w'' k x y =
      let m = t in
      let D = type_at t T in
      let i = interpreted_of t T a s.made in
      let j = interpret_all m D c i.items in
      let e : interpreted_of t T (a ++ c) s.made ≡ behind_rows i.rows j = all_append m D a c (items_held t T s.made) in
      let f : interpreted_of t T c p.made ≡ j = ap (interpret_all m D c) x.items in
      record {
        rows =
            y.rows
            ∙ ap₂ (λ m z. emit m z (interpreted_of t T c p.made).rows) k x.rows
            ∙ ap (λ (u : Interpreted). emit w.limit (emit w.limit (state w) i.rows) u.rows) f
            ∙ sym (emit-append row_bytes w.limit (state w) i.rows j.rows)
            ∙ ap (λ (u : Interpreted). emit w.limit (state w) u.rows) (sym e);
        items = y.items ∙ ap (λ (w : Interpreted). w.items) f ∙ sym (ap (λ (w : Interpreted). w.items) e);
        clean =
            y.clean
            ∙ ap₂ (λ z (w : Interpreted). z && null w.rows) x.clean f
            ∙ and_assoc s.clean (null i.rows) (null j.rows)
            ∙ ap (λ z. s.clean && z) (sym (null-append i.rows j.rows))
            ∙ ap (λ (w : Interpreted). s.clean && null w.rows) (sym e);
      }

  one_entry : (x : InheritedAnnotation) (e : Entry) (doms : List Row) (is : List Item) → resources_of x.annotation ≡ resources_at (table_of doms) e.words →
      x.parents ≡ names_in t e.parents → interpret_entry t T e doms is ≡ interpret_all t (type_at t T) (x ∷ []) is
  unfolding interpret_all interpret_entry
  one_entry x e doms is us ps =
      let m = t in
      let D = type_at t T in
      let i = interpret_words m D x.parents (resources_of x.annotation) false is in
      (λ j. interpret_words m D (sym ps j) (sym us j) false is) ∙ ap (λ rs. interpreted rs i.items) (sym (append-nil i.rows))

  -- one annotation
  added-entry : (x : InheritedAnnotation) (e : Entry) (doms : List Row) (s : Progress) (w : Writer) (r : Reached) (w' : Writer) (c : Bool) →
      resources_of x.annotation ≡ resources_at (table_of doms) e.words → x.parents ≡ names_in t e.parents →
      EntryDoneIn t T e doms (begun s.made) w r w' → c ≡ (s.clean && not r.failed) →
      AddedIn t T (x ∷ []) s w (record { clean = c; made = r.made }) w'
  added-entry x e doms s w r w' c us ps d h =
      let f = one_entry x e doms (items_held t T s.made) us ps in
      record {
        rows = d.rows ∙ ap (λ (u : Interpreted). emit w.limit (state w) u.rows) f;
        items = d.items ∙ ap (λ (w : Interpreted). w.items) f;
        clean = h ∙ ap (λ z. s.clean && not z) d.failed ∙ ap (λ z. s.clean && z) (not-not (null (interpret_entry t T e doms (items_held t T s.made)).rows)) ∙ ap (λ (w : Interpreted). s.clean && null w.rows) f;
      }

  -- ---- the start, and the end

  nothing-held : (made : Makings) → made.count ≡ 0 → items_held t T made ≡ []
  unfolding held_items
  nothing-held made e = ap (λ (k : ℕ). held_items t T made k) e

  done-in : (o : OwnAssociates) (h : Inherited) (made : Makings) (w w' : Writer) (r : Progress) → made.count ≡ 0 →
      AddedIn t T (own_entries_in o ++ inherited_of (type_names t) h) (record { clean = true; made = made }) w r w' → TypeDoneIn t T o h w r.clean w'
  unfolding interpreted_at
  done-in o h made w w' r e x =
      let f = ap (interpret_all t (type_at t T) (own_entries_in o ++ inherited_of (type_names t) h)) (nothing-held made e) in
      record { rows = x.rows ∙ ap (λ (u : Interpreted). emit w.limit (state w) u.rows) f; clean = x.clean ∙ ap (λ (u : Interpreted). null u.rows) f }

  -- a type without own associates that inherits nothing
  none_in : (o : OwnAssociates) (h : Inherited) (w : Writer) → o.count ≡ 0 → h.list.count ≡ 0 → TypeDoneIn t T o h w true w
  unfolding interpreted_at interpret_all inherited_of entries_of
  none_in o h w e d = record { rows = rw (e, d) (no_rows w.limit (state w)); clean = rw (e, d) refl }

-- ---- for every sheet whose catalogue it is

module _ (t : Catalogue) (T : ℕ) where
  pub all_none : (s : Progress) (w : Writer) → Added t T (λ ns. []) 0 s w s w
  all_none s w = record { same = same_self w; count = omega arith; right = λ x k h. added_none (line_map x) T s w }

  pub all_then : (a c : List Name → List InheritedAnnotation) (k l : ℕ) (s p r : Progress) (w w' w'' : Writer) → Added t T a k s w p w' → Added t T c l p w' r w'' →
      Added t T (λ ns. a ns ++ c ns) (k + l) s w r w''
  all_then a c k l s p r w w' w'' y z =
      record {
        same = same_then w w' w'' y.same z.same;
        count = omega (arith, y.count, z.count);
        right = λ x i h.
            added_then (line_map x) T (a (type_names (line_map x))) (c (type_names (line_map x))) s p r w w' w'' y.same.limit (y.right x i h) (z.right x i h);
      }

  -- the same annotations, and room for more
  pub all-as : (a c : List Name → List InheritedAnnotation) (k l : ℕ) (s : Progress) (w : Writer) (r : Progress) (w' : Writer) → ((ns : List Name) → a ns ≡ c ns) → k ≤ l →
      Added t T a k s w r w' → Added t T c l s w r w'
  all-as a c k l s w r w' e h y =
      record {
        same = y.same;
        count = omega (arith, y.count);
        right = λ x i g. subst (λ z. AddedIn (line_map x) T z s w r w') (e (type_names (line_map x))) (y.right x i g);
      }

  -- one annotation
  pub entry-with : (e : Entry) (doms : List Row) (s : Progress) (w : Writer) (r : Reached) (w' : Writer) (c : Bool) →
      EntryDone t T e doms (begun s.made) w r w' → c ≡ (s.clean && not r.failed) → WithEntry t T e doms s w (record { clean = c; made = r.made }) w'
  entry-with e doms s w r w' c d h =
      record { same = d.same; count = d.count; added = λ x k l a us ps. added-entry (line_map x) T a e doms s w r w' c us ps (d.right x k l) h }

  pub all-entry : (a : List Name → InheritedAnnotation) (e : Entry) (doms : List Row) (s : Progress) (w : Writer) (r : Progress) (w' : Writer) →
      ((ns : List Name) → resources_of (a ns).annotation ≡ resources_at (table_of doms) e.words) → ((ns : List Name) → (a ns).parents ≡ names_at ns e.parents) →
      WithEntry t T e doms s w r w' → Added t T (λ ns. a ns ∷ []) (size e) s w r w'
  all-entry a e doms s w r w' us ps y =
      record {
        same = y.same;
        count = y.count;
        right = λ x k l. y.added x k l (a (type_names (line_map x))) (us (type_names (line_map x))) (ps (type_names (line_map x)));
      }

  pub type-done : (o : OwnAssociates) (h : Inherited) (made : Makings) (w w' : Writer) (r : Progress) (k : ℕ) → made.count ≡ 0 →
      Added t T (λ ns. own_entries_in o ++ inherited_of ns h) k (record { clean = true; made = made }) w r w' → TypeDone t T o h w r.clean w'
  type-done o h made w w' r k e y = record { same = y.same; right = λ x i l. done-in (line_map x) T o h made w w' r e (y.right x i l) }

  pub type-nothing : (o : OwnAssociates) (h : Inherited) (w : Writer) → o.count ≡ 0 → h.list.count ≡ 0 → TypeDone t T o h w true w
  type-nothing o h w e d = record { same = same_self w; right = λ x i l. none_in (line_map x) T o h w e d }
