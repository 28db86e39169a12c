-- The dedup, stated of annotations: what Entries.antt says of entries.
use Rattle.std.specs.Prelude.{true, List, map, ◌≡◌, refl, ℕ, ltb, length}
use mathlib.Core.List.Memᴰ
use Rattle.std.proofs.Common.{sym, ap, ◌∙◌, subst, arith}
use Rattle.std.proofs.lemmas.List.{length-map}
use Rattle.lists.specs.Lists.{In, Sorted, filter, each, set_of}
use Rattle.lists.specs.Sorting.{set_is, set-sorted}
use Rattle.definitions.specs.Records.{AssociatedResource, associate}
use Rattle.definitions.specs.Comparisons.{name_before, dom_before}
use Rattle.definitions.specs.Checks.{resources_of}
use Rattle.definitions.specs.Annotations.{word_list_of, has_associated_word, doms_in}
use Rattle.definitions.specs.Inherited.{InheritedAnnotation, dedup}
use Rattle.law_synthesis.specs.Statements.{IsAssociate, AllAssociates, words_given, doms_given, parents_given, Deduped, DedupMerges}
use Rattle.lists.specs.Appending.{each_map, map-map, filter_map, map-self}
use Rattle.lists.specs.Permutations.{sorted-map}
use Rattle.lists.specs.Strict.{number-strict}
use Rattle.law_synthesis.specs.Entries.{Entry, entry, as_inherited, merged, dedup_is, word, Ascending, AllAscending}
use Rattle.law_synthesis.specs.Merged.{merged-says, merged-apart, merged-ascending, ascending-is, doms_from, parents_from, words_from, words-from, words_of, merged-doms, merged-parents, merged-few}

-- ---- an Associate and its entry

abbrev pub entry_of : InheritedAnnotation → Entry
entry_of e = entry (resources_of e.annotation) e.parents

pub entry-back : (ws : List (List ℕ)) (e : InheritedAnnotation) → IsAssociate ws e → as_inherited (entry_of e) ≡ e
entry-back ws e h = λ i. record { annotation = (ap associate (ap resources_of h.is) ∙ sym h.is) i; parents = e.parents }

pub entry-ascending : (ws : List (List ℕ)) (e : InheritedAnnotation) → IsAssociate ws e → Ascending ws (entry_of e)
entry-ascending ws e h =
    let q : h.resources ≡ resources_of e.annotation = ap resources_of (sym h.is) in
    record {
      words = subst (Sorted (λ (u v : AssociatedResource). ltb u.word v.word ≡ true)) q h.words;
      doms = λ u i. h.doms u (subst (In u) (sym q) i);
      parents = h.parents;
    }

is-associate : (ws : List (List ℕ)) (e : Entry) → Ascending ws e → IsAssociate ws (as_inherited e)
is-associate ws e a = record { resources = e.uses; is = refl; words = a.words; doms = a.doms; parents = a.parents }

pub all-associates : (ws : List (List ℕ)) (l : List Entry) → AllAscending ws l → AllAssociates ws (map as_inherited l)
all-associates ws l a e i = let x = Memᴰ.of_map as_inherited l i in subst (IsAssociate ws) x.2 (is-associate ws x.0 (a x.0 x.1))

-- ---- lists of them

pub words-given : (l : List Entry) → words_given (map as_inherited l) ≡ words_from l
words-given l = ap (set_of ltb) (each_map (λ (e : InheritedAnnotation). word_list_of e.annotation) as_inherited l)

pub doms-given : (l : List Entry) (r : ℕ) → doms_given (map as_inherited l) r ≡ set_of dom_before (doms_from l r)
doms-given l r = ap (set_of dom_before) (each_map (λ (e : InheritedAnnotation). doms_in (resources_of e.annotation) r) as_inherited l)

parents-given : (ws : List (List ℕ)) (l : List Entry) (r : ℕ) → parents_given ws (map as_inherited l) r ≡ set_of (name_before ws) (parents_from l r)
parents-given ws l r =
    ap (set_of (name_before ws))
    (ap (each (λ (e : InheritedAnnotation). e.parents)) (filter_map (λ (e : InheritedAnnotation). has_associated_word (resources_of e.annotation) r) as_inherited l)
    ∙ each_map (λ (e : InheritedAnnotation). e.parents) as_inherited (filter (λ (e : Entry). has_associated_word e.uses r) l))

words_same : (ws : List (List ℕ)) (l : List Entry) → words_from (merged ws l) ≡ words_from l
words_same ws l =
    let words : List Entry → List ℕ = λ l. each (λ (e : Entry). map (λ (u : AssociatedResource). u.word) e.uses) l in
    ascending-is number-strict (words_from (merged ws l)) (words l) (set-sorted number-strict (words (merged ws l)))
    (λ r. (
      λ i. (set_is number-strict (words l) r).0 (words-from l r ((merged-says ws l r word).0 (words_of (merged ws l) r i))),
      λ i. words-from (merged ws l) r ((merged-says ws l r word).1 (words_of l r ((set_is number-strict (words l) r).1 i))),
    ))

deduped : (ws : List (List ℕ)) (l : List Entry) → AllAscending ws l → Deduped ws (map as_inherited l) (map as_inherited (merged ws l))
deduped ws l a = record {
  form = all-associates ws (merged ws l) (merged-ascending ws l a);
  apart =
      sorted-map (λ (a b : Entry). (r : ℕ) → has_associated_word a.uses r ≡ true → has_associated_word b.uses r ≡ true → ⊥)
      (λ a b. (r : ℕ) → has_associated_word (resources_of a.annotation) r ≡ true → has_associated_word (resources_of b.annotation) r ≡ true → ⊥) as_inherited (merged ws l)
      (λ x y i j h. h) (merged-apart ws l);
  words = words-given (merged ws l) ∙ words_same ws l ∙ sym (words-given l);
  doms = λ e i u j.
      let x = Memᴰ.of_map as_inherited (merged ws l) i in
      merged-doms ws l a x.0 x.1 u (subst (λ (e : InheritedAnnotation). In u (resources_of e.annotation)) (sym x.2) j) ∙ sym (doms-given l u.word);
  parents = λ e i r w.
      let x = Memᴰ.of_map as_inherited (merged ws l) i in
      ap (λ (e : InheritedAnnotation). e.parents) (sym x.2)
      ∙ merged-parents ws l a x.0 x.1 r (subst (λ (e : InheritedAnnotation). has_associated_word (resources_of e.annotation) r ≡ true) (sym x.2) w)
      ∙ sym (parents-given ws l r);
  few = omega (arith, merged-few ws l, length-map (merged ws l) as_inherited, ap length (words-given l));
}

pub dedup-merges : DedupMerges
dedup-merges ws l h =
    let k : List Entry = map entry_of l in
    let q : map as_inherited k ≡ l = map-map as_inherited entry_of l ∙ map-self (λ e. as_inherited (entry_of e)) l (λ e i. entry-back ws e (h e i)) in
    let a : AllAscending ws k = λ e i. let x = Memᴰ.of_map entry_of l i in subst (Ascending ws) x.2 (entry-ascending ws x.0 (h x.0 x.1)) in
    subst (λ j. Deduped ws j (dedup ws j)) q (subst (Deduped ws (map as_inherited k)) (sym (dedup_is ws k)) (deduped ws k a))
