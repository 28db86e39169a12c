-- The steps of the loops over the types.
use Rattle.std.specs.Prelude.{Bool, ◌&&◌, ◌||◌, List, [], ◌∷◌, map, ◌≡◌, refl, ℕ, ◌+◌, ◌*◌, ◌/◌, ◌%◌, ◌≤◌, ◌<◌, eqb, length, get_or, set}
use Rattle.std.specs.Int.Bits.{bit_and}
use Rattle.std.proofs.Math.Path.{sym}
use Rattle.std.proofs.Common.{ap, ap₂, ◌∙◌, subst, arith, ne_eqb, eqb-true, le-ltb, get_or-set_same, get_or-set_other}
use Rattle.std.proofs.lemmas.Bool.{eqb-false}
use Rattle.lists.specs.Lists.{any, each, repeats}
use Rattle.lists.specs.Tests.{by}
use Rattle.lists.specs.Appending.{map_same}
use Rattle.rows.specs.Rows.{has_bit}
use Rattle.rows.specs.RowLaws.{bit-none}
use Rattle.definitions.specs.Records.{Dom, Resource}
use Rattle.definitions.specs.Checks.{resources_of}
use Rattle.definitions.specs.Items.{associate_of}
use Rattle.order_form.specs.Lists.{any-tab-step}
use Rattle.sheet_notes.specs.Notes.{Notes, notes}
use Rattle.sheet_draft.specs.Draft as draft
use Rattle.sheet_draft.specs.Draft.{place_at, notes_of, notes_at}
use Rattle.sheet_draft.specs.declared.Draft.{Draft}
use Rattle.sheet_draft.specs.declared.entry.Entry.{Entry}
use Rattle.catalogue.specs.Layout.{looked}
use Rattle.catalogue.specs.declared.Catalogue.{Catalogue}
use Rattle.item_names.specs.Names.{key_of}
use Rattle.item_names.specs.NamesLaws as names
use Rattle.item_heads.specs.Heads.{no_marks, Packs, WithResource}
use Rattle.item_classes.specs.Classes.{class_by, class_in, meets, lost, Gathers}
use Rattle.item_entries.specs.Entries.{row_in}
use Rattle.item_notes.specs.Notes.{DoneAt, NotesGathered}
use Rattle.item_notes.specs.declared.Noted.{Noted}
use Rattle.item_draft.specs.Parts.{HeadOf, HeadsPut, KeptNotes, NotesReady, own_sets, given_sets, lost_at, NotesPut}

-- ---- heads

pub head_same : (h : ℕ) → h < 256 → HeadOf h h
head_same h l = record { small = l; resource = refl; virtual = refl; trait = refl }

pub head_past : (h : ℕ) → 256 ≤ h → HeadOf h (128 + h % 64)
head_past h l =
    let r = 128 + h % 64 in
    let a : r / 64 ≡ 2 = omega arith in
    let b : r / 32 ≡ 4 + h % 64 / 32 = omega arith in
    let c : h / 32 ≡ 2 * (h / 64) + h % 64 / 32 = omega arith in
    let e : r / 16 ≡ 8 + h % 64 / 16 = omega arith in
    let f : h / 16 ≡ 4 * (h / 64) + h % 64 / 16 = omega arith in
    record {
      small = omega arith;
      resource = ap (λ (x : ℕ). eqb x 1) a ∙ sym (ne_eqb (h / 64) 1 (λ q. absurd (omega arith)));
      virtual = omega (arith, b, c);
      trait = omega (arith, e, f);
    }

module _ (d : Draft) (entries : List Entry) where
  pub heads-none : (t : Catalogue) → HeadsPut d entries 0 t t 0
  heads-none t = record { at = λ a h. absurd (omega arith); resources = λ b. bit-none b ∙ sym (rw (le-ltb b 0 (omega arith))); kept = refl }

  pub heads-more : (n : ℕ) (old t : Catalogue) (r q x : ℕ) → n < length t.heads → HeadOf (draft.head_at d (row_in entries n)) x → WithResource r n (x / 64) q
      → HeadsPut d entries n old t r → HeadsPut d entries (n + 1) old (record t { heads = set t.heads n x }) q
  heads-more n old t r q x h e w p =
      record {
        at = λ a b.
            by (eqb a n)
            (λ z. let y = eqb-true a n z in rw (y, get_or-set_same t.heads n x 0 h) e)
            (λ z. let y = eqb-false a n z in rw (get_or-set_other t.heads n a x 0 y) (p.at a (omega (arith, y))));
        resources = λ b.
            w.bits b
            ∙ ap₂ (λ (c v : Bool). c || (eqb n b && v)) (p.resources b) e.resource
            ∙ names.one_more (λ i. eqb (draft.head_at d (row_in entries i) / 64) 1) n b;
        kept = ap (λ (y : Catalogue). record y { heads = set t.heads n x }) p.kept;
      }

-- ---- annotations and marks

-- classes are looked up by the sets of words alone
looked-same : (t u : Catalogue) → u.firsts ≡ t.firsts → u.seconds ≡ t.seconds → (key : ℕ) → looked u key ≡ looked t key
unfolding looked
looked-same t u e f key = ap₂ (λ (x y : List ℕ). bit_and (get_or x (key / 256) 0) (get_or y (key % 256) 0)) e f

pub class-same : (t u : Catalogue) → u.firsts ≡ t.firsts → u.seconds ≡ t.seconds → (r : Resource) → class_in u r ≡ class_in t r
class-same t u e f r = go r.word r.dom
  where
    go : (w : ℕ) (d : Dom) → class_by u w d ≡ class_by t w d
    go w [] = looked-same t u e f (key_of w 255)
    go w (d ∷ ds) = looked-same t u e f (key_of d w)

classes-kept : (old new : Catalogue) → KeptNotes old new → (us : List Resource) → map (class_in new) us ≡ map (class_in old) us
classes-kept old new k us =
    map_same (class_in new) (class_in old) us
    (λ u i. class-same old new (ap (λ (x : Catalogue). x.firsts) k) (ap (λ (x : Catalogue). x.seconds) k) u)

module _ (bs : List Bool) (d : Draft) (entries : List Entry) (old : Catalogue) where
  -- what the parser gives there
  notes-are : (a W : ℕ) (r : DoneAt (notes W (eqb (draft.key_at d (row_in entries a) % 256) 0)) bs (place_at d (row_in entries a))) → r.value ≡ notes_at W bs d (row_in entries a)
  unfolding notes_at
  notes-are a W r = sym (ap notes_of r.is)

  -- what was gathered of a type
  gathered : (n a resources : ℕ) (t : Catalogue) (x : Noted) → a < n → NotesReady bs d entries old n → KeptNotes old t → NotesGathered t resources bs (place_at d (row_in entries a)) x
      → Gathers resources (own_sets old bs d entries old.width a) (given_sets old bs d entries old.width a) x.classes × Packs (notes_at old.width bs d (row_in entries a)).marks x.marks
  gathered n a resources t x h k q g =
      let r = k.read a h in
      let W = old.width in
      let y = notes_at W bs d (row_in entries a) in
      let s = g.so W (eqb (draft.key_at d (row_in entries a) % 256) 0) r.value r.rest r.is in
      let e : r.value ≡ y = notes-are a W r in
      let us = each associate_of y.annotations in
      let vs = each resources_of y.annotations in
      let z : Gathers resources (map (class_in t) us) (map (class_in t) vs) x.classes =
      subst (λ (i : Notes). Gathers resources (map (class_in t) (each associate_of i.annotations)) (map (class_in t) (each resources_of i.annotations)) x.classes) e s.0 in (
        subst (λ (l : List ℕ). Gathers resources l (given_sets old bs d entries W a) x.classes) (classes-kept old t q us)
            (subst (λ (l : List ℕ). Gathers resources (map (class_in t) us) l x.classes) (classes-kept old t q vs) z),
        subst (λ (i : Notes). Packs i.marks x.marks) e s.1,
      )

  pub notes-more : (count n resources childed : ℕ) (t : Catalogue) (given : List ℕ) (r q : Bool) (x : Noted) → n < count → n < length t.own → n < length t.marks
      → n < length given → NotesReady bs d entries old count → resources ≡ old.resources → childed ≡ old.childed
      → NotesGathered t resources bs (place_at d (row_in entries n)) x → q ≡ (r || (x.classes.wrong || (has_bit childed n && x.classes.missing)))
      → NotesPut bs d entries n old t given r
      → NotesPut bs d entries (n + 1) old (record t { own = set t.own n x.classes.own; marks = set t.marks n x.marks }) (set given n x.classes.given) q
  notes-more count n resources childed t given r q x h lo lm lg k er ec g f p =
      let so = gathered count n resources t x h k p.kept g in
      let os = own_sets old bs d entries old.width n in
      let gs = given_sets old bs d entries old.width n in
      let tested : ℕ → ℕ → Bool = λ i j. (any (lost i) os || repeats meets os) || (has_bit j n && any (lost i) gs) in
      record {
        own = λ a b c.
            by (eqb a n)
            (λ z. let y = eqb-true a n z in rw (y, get_or-set_same t.own n x.classes.own 0 lo) (so.0.own c))
            (λ z. let y = eqb-false a n z in rw (get_or-set_other t.own n a x.classes.own 0 y) (p.own a (omega (arith, y)) c));
        gives = λ a b c.
            by (eqb a n)
            (λ z. let y = eqb-true a n z in rw (y, get_or-set_same given n x.classes.given 0 lg) (so.0.given c))
            (λ z. let y = eqb-false a n z in rw (get_or-set_other given n a x.classes.given 0 y) (p.gives a (omega (arith, y)) c));
        marks = λ a b.
            by (eqb a n)
            (λ z. let y = eqb-true a n z in rw (y, get_or-set_same t.marks n x.marks no_marks lm) so.1)
            (λ z. let y = eqb-false a n z in rw (get_or-set_other t.marks n a x.marks no_marks y) (p.marks a (omega (arith, y))));
        lost =
            f
            ∙ ap₂ (λ (a b : Bool). a || b) p.lost
            (ap₂ (λ (a b : Bool). a || (has_bit childed n && b)) so.0.wrong so.0.missing ∙ ap₂ (λ (i j : ℕ). tested i j) er ec)
            ∙ sym (any-tab-step (λ a. a) (lost_at old bs d entries) n);
        kept = ap (λ (y : Catalogue). record y { own = set t.own n x.classes.own; marks = set t.marks n x.marks }) p.kept;
      }
