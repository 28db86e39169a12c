-- The map of 01's example with an own Associate and something inherited: it meets what the functions require, and comes to this.
use Rattle.std.specs.Prelude.{true, false, ◌||◌, List, [], ◌∷◌, ◌≡◌, refl, ℕ, zero, suc, ◌≤◌, ◌<◌, eqb, get_or, set, replicate}
use Rattle.std.proofs.Common.{sym, ◌∙◌, arith, eqb-true}
use Rattle.std.proofs.lemmas.List.{get_or-replicate, length-replicate}
use Rattle.std.proofs.Math.Seq
use Rattle.lists.specs.Tests.{by, never, or_left}
use Rattle.rows.specs.declared.Row.{Row}
use Rattle.rows.specs.Rows.{has, has_bit, single, either, empty}
use Rattle.rows.specs.RowLaws.{has_either, has-single, small-either, small-single}
use Rattle.rows.specs.Lists.{between}
use Rattle.sheet_records.specs.declared.Kind.TheVariants.{Associate}
use Rattle.synth_annotations.specs.declared.info.AnnotationInfo.{AnnotationInfo}
use Rattle.synth_annotations.specs.Reading.{doms_of, resources_in, info_of}
use Rattle.definitions.specs.Records.{domain, resource, synthesized, extension, makelist_mark}
use Rattle.definitions.specs.Comparisons.{look_up}
use Rattle.definitions.specs.Map.{LineMap}
use Rattle.definitions.specs.Making.{extension_parents, marks_of, all_virtual, create_synthetic_resource, extension_line, same_item}
use Rattle.definitions.specs.Synthesis.{class_row, is_duplicate, with_making, interpret_words, interpret_all}
use Rattle.law_classes.specs.Sets.{type_at}
use Rattle.synth_dedup.specs.declared.Entry.{Entry}
use Rattle.synth_dedup.specs.declared.inherited.Inherited.{Inherited}
use Rattle.synth_dedup.specs.Lists.{many-most}
use Rattle.synth_dedup.specs.Entries.{Entries, entries_of, nil, cons}
use Rattle.synth_dedup.specs.EntryLaws.{zeros}
use Rattle.synth_dedup.specs.Reading.{resources_at, names_at, read, table_of, inherited_of, Good}
use Rattle.synth_inheritance.specs.declared.own.OwnAssociate.{OwnAssociate}
use Rattle.synth_own.specs.Owning.{OwnAssociates}
use Rattle.synth_classes.specs.Made.{type_names}
use Rattle.synth_duplicates.specs.Held.{Makings, no_making}
use Rattle.synth_classes.specs.declared.site.Site.{Site}
use Rattle.synth_interpreting.specs.Entry.{EntryReady}
use Rattle.synth_interpreting.specs.Annotations.{TypeReady, interpreted_at}

-- `base` (domain), `file` (virtual resource, mark makelist) and `resource`, which are the words 0, 1 and 2
abbrev pub example_map : LineMap
example_map = record {
  words = [];
  resource = 2;
  types =
      record { name = 0 ∷ []; variant = domain; virtual = false; trait = false; inherits = λ p. false; annotations = []; marks = [] }
      ∷ record { name = 1 ∷ []; variant = resource; virtual = true; trait = false; inherits = λ p. false; annotations = []; marks = makelist_mark ∷ [] }
      ∷ record { name = 2 ∷ []; variant = resource; virtual = false; trait = false; inherits = λ p. false; annotations = []; marks = [] }
      ∷ [];
  extensions = [];
}

-- the class `file`; and for the word 199 the classes `199` and `199.199`, which are not declared
abbrev plain : Row
plain = record { a = 1; b = 0; c = 0; d = 0 }

abbrev last : Row
last = record { a = 1; b = 0; c = 0; d = 256 }

-- an Associate of the words `file` (1) and 199
abbrev pub owned : AnnotationInfo
owned = record { kind = Associate; tag = 0; count = 2; words = 1 ∷ 199 ∷ replicate 13 0; doms = plain ∷ last ∷ replicate 13 empty; few = omega arith }

-- the same words inherited from `file` and `resource`
abbrev words : Row
words = either (single 1) (single 199)

abbrev entry : Entry
entry = record { kind = Associate; words = words; parents = 6 }

abbrev doms : List Row
doms = set (set (replicate 200 empty) 1 plain) 199 last

abbrev entries : Entries
entries = record { count = 1; items = entry ∷ replicate 200 zeros; few = omega arith; long = refl }

-- ---- the own Associate

abbrev pub owned_own : OwnAssociate
owned_own = record { info = owned; associate = refl; below = small; ascending = refl }
  where
    small : (i : ℕ) → i < 2 → get_or owned.words i 0 < 200
    small zero h = omega arith
    small (suc zero) h = omega arith
    small (suc (suc i)) h = absurd (omega arith)

abbrev pub owns : OwnAssociates
owns = record { count = 1; items = replicate 12 owned_own; few = omega arith; long = refl }

-- ---- what is inherited

-- the words of the entry are 1 and 199
which : {C : Type 0} (w : ℕ) → has words w ≡ true → (w ≡ 1 → C) → (w ≡ 199 → C) → C
which w h f g =
    let e : (eqb 1 w || eqb 199 w) ≡ true = sym (has_either (single 1) (single 199) w ∙ rw (has-single 1 w (omega arith), has-single 199 w (omega arith)) refl) ∙ h in
    by (eqb 1 w)
    (λ p. f (sym (eqb-true 1 w p)))
    (λ p. g (sym (eqb-true 199 w (rw p at e))))

others : (w : ℕ) → w < 200 → (w ≡ 1 → ⊥) → (w ≡ 199 → ⊥) → table_of doms w ≡ empty
others w b p q =
    Seq.get_or-set_other (set (replicate 200 empty) 1 plain) 199 w last empty q
    ∙ Seq.get_or-set_other (replicate 200 empty) 1 w plain empty p
    ∙ get_or-replicate 200 w empty empty b

pub inherited-good : Good entries doms
unfolding entries_of
inherited-good =
    record {
      fits = omega arith;
      kept = record {
        room = omega arith;
        apart = cons (record { kind = refl; small = small-either (single 1) (single 199) (small-single 1) (small-single 199); words = λ w h. which w h (λ e. omega arith) (λ e. omega arith) }) (λ w h. refl) nil;
        full = refl;
      };
      clean = λ w b c.
          others w b
          (λ e. never (or_left {a = has words w} false (rw e there-1)) c)
          (λ e. never (or_left {a = has words w} false (rw e there-199)) c);
    }
  where
    there-1 : has words 1 ≡ true
    there-1 = has_either (single 1) (single 199) 1 ∙ rw (has-single 1 1 (omega arith)) refl

    there-199 : has words 199 ≡ true
    there-199 = has_either (single 1) (single 199) 199 ∙ rw (has-single 1 199 (omega arith), has-single 199 199 (omega arith)) refl

abbrev pub inherited : Inherited
inherited = record { list = entries; doms = doms; good = inherited-good }

pub ready : TypeReady 0 owns inherited
ready = record { place = omega arith }

-- ---- one word and one annotation, with as many makings as there can be before them

abbrev makings : (n : ℕ) → n ≤ 380 → Makings
makings n h = record { count = n; items = replicate 380 no_making; few = h; long = length-replicate 380 no_making }

abbrev pub word_site : Site
word_site = record { place = 0; word = 199; inside = omega arith; numbered = omega arith }

pub word-room : (makings 379 (omega arith)).count < 380
word-room = omega arith

pub entry_ready : EntryReady 0 entry (makings 180 (omega arith))
entry_ready = record { place = omega arith; room = omega (arith, many-most (has words) 200) }

-- ---- what it comes to

-- the unknown classes of 199 end the own Associate, and then the inherited one: `file` is made twice, from its class and from
-- two parents
pub rows_of : (interpreted_at example_map 0 owns inherited).rows
    ≡ class_row 4 (type_at example_map 0) 199 (199 ∷ [])
    ∷ class_row 4 (type_at example_map 0) 199 (199 ∷ 199 ∷ [])
    ∷ class_row 4 (type_at example_map 0) 199 (199 ∷ [])
    ∷ class_row 4 (type_at example_map 0) 199 (199 ∷ 199 ∷ [])
    ∷ []
unfolding interpreted_at interpret_all interpret_words is_duplicate with_making create_synthetic_resource extension_line same_item all_virtual inherited_of read resources_at names_at type_names entries_of info_of resources_in either single extension_parents marks_of look_up doms_of between has has_bit
rows_of = refl

pub items_of : (interpreted_at example_map 0 owns inherited).items
    ≡ synthesized (0 ∷ []) 1 false ((1 ∷ []) ∷ (2 ∷ []) ∷ []) (makelist_mark ∷ [])
    ∷ extension (0 ∷ []) false false 1
    ∷ synthesized (0 ∷ []) 1 false ((1 ∷ 1 ∷ []) ∷ (2 ∷ 1 ∷ []) ∷ (2 ∷ []) ∷ []) (makelist_mark ∷ [])
    ∷ []
unfolding interpreted_at interpret_all interpret_words is_duplicate with_making create_synthetic_resource extension_line same_item all_virtual inherited_of read resources_at names_at type_names entries_of info_of resources_in either single extension_parents marks_of look_up doms_of between has has_bit
items_of = refl
