-- What is handed on, and what a type inherits, stated of annotations: what Handed.antt says of entries.
use Rattle.std.specs.Prelude.{true, ◌++◌, map, ◌≡◌, ℕ, zero, suc, length}
use mathlib.Core.List.Memᴰ
use Rattle.std.proofs.Math.Option.{none, some}
use Rattle.std.proofs.Common.{sym, ap, ◌∙◌, subst}
use Rattle.lists.specs.Lists.{In, each}
use Rattle.lists.specs.Sorting.{set_is}
use Rattle.definitions.specs.Records.{TypeInfo, Sheet}
use Rattle.definitions.specs.Checks.{resources_of}
use Rattle.definitions.specs.Map.{type_map_of, line_type_of}
use Rattle.definitions.specs.Annotations.{has_associated_word}
use Rattle.definitions.specs.Inherited.{InheritedAnnotation, dedup, own_associates, as_associate, under, hands_on, handed_on}
use Rattle.definitions.specs.OrderRows.{type_named}
use Rattle.definitions.specs.Synthesis.{listed_parents}
use Rattle.definitions.specs.Items.{ancestors}
use Rattle.definitions.specs.Lines.{ParentsAbove}
use Rattle.law_orders.specs.Comparisons.{dom-strict}
use Rattle.law_lines.specs.Statements.{line_map}
use Rattle.law_synthesis.specs.Statements.{Ordered, HandsOn, EachHandsOn, HandedStep, Inherits, EachInherits}
use Rattle.lists.specs.Appending.{each-each, each_same}
use Rattle.law_synthesis.specs.Entries.{as_inherited}
use Rattle.law_synthesis.specs.Merged.{words-from, words_of, doms-from, doms_from}
use Rattle.law_synthesis.specs.Dedup.{all-associates, words-given, doms-given}
use Rattle.law_synthesis.specs.Handed.{listed-is, Deep, all-deep, deep-same, hands_of, hands-is, hands-parent, hands-ascending, handed-says, left_word, left-doms, left-parents}
use Rattle.law_synthesis.specs.Interpreted.{job_of, made}
use Rattle.law_synthesis.specs.Visited.{whole}
use Rattle.law_synthesis.specs.Jobs.{left, job_is, whole_is, inherited-made}

hands_on_lem : (s : Sheet) (o : Ordered s) (T : TypeInfo) → In T s.types → HandsOn s T (map as_inherited (hands_of (length (type_map_of s).types) (type_map_of s) T))
hands_on_lem s o T i =
    let once = o.readable.once in
    let k = length (type_map_of s).types in
    let l = hands_of k (type_map_of s) T in
    record {
      form = all-associates (type_map_of s).words l (hands-ascending s once k T i);
      under = λ e j. let x = Memᴰ.of_map as_inherited l j in ap (λ (e : InheritedAnnotation). e.parents) (sym x.2) ∙ hands-parent k (type_map_of s) T x.1;
      words = λ r.
          let h = handed-says s once o.order T i r none in
          (λ j. h.0 (words_of l r (subst (In r) (words-given l) j)), λ p. subst (In r) (sym (words-given l)) (words-from l r (h.1 p)));
      doms = λ r d.
          let h = handed-says s once o.order T i r (some d) in
          let f = doms-from l r d in
          let g = set_is dom-strict (doms_from l r) d in
          (λ j. h.0 (f.0 (g.0 (subst (In d) (doms-given l r) j))), λ p. subst (In d) (sym (doms-given l r)) (g.1 (f.1 (h.1 p))));
    }

pub each-hands-on : EachHandsOn
unfolding handed_on
each-hands-on s o T i = subst (HandsOn s T) (sym (hands-is (length (type_map_of s).types) (type_map_of s) T)) (hands_on_lem s o T i)

inherits : (s : Sheet) (o : Ordered s) (T : TypeInfo) → Inherits s T (map as_inherited (left s o.readable o.order T))
inherits s o T =
    let once = o.readable.once in
    let l = left s o.readable o.order T in
    record {
      words = λ r.
          let h = left_word s once o.order T r in
          (λ j. h.0 (words_of l r (subst (In r) (words-given l) j)), λ p. subst (In r) (sym (words-given l)) (words-from l r (h.1 p)));
      doms = λ e i u j.
          let x = Memᴰ.of_map as_inherited l i in
          left-doms s once o.order T x.0 x.1 u (subst (λ (e : InheritedAnnotation). In u (resources_of e.annotation)) (sym x.2) j);
      parents = λ e i r w.
          let x = Memᴰ.of_map as_inherited l i in
          subst (λ (e : InheritedAnnotation). ParentsAbove s T r e.parents) x.2
          (left-parents s once o.order T x.0 x.1 r (subst (λ (e : InheritedAnnotation). has_associated_word (resources_of e.annotation) r ≡ true) (sym x.2) w));
      makes = λ e i u j.
          let x = Memᴰ.of_map as_inherited l i in
          let k = subst (λ (e : InheritedAnnotation). In u (resources_of e.annotation)) (sym x.2) j in
          let As = ancestors (line_map s) (line_type_of T) in
          ap (λ ps. made (line_map s) (line_type_of T) (job_of ps u)) (ap (λ (e : InheritedAnnotation). e.parents) (sym x.2))
          ∙ ap (made (line_map s) (line_type_of T)) (job_is s o.readable o.order T x.0 x.1 u k)
          ∙ sym (inherited-made (line_map s) (line_type_of T) As u.word);
    }

pub each-inherits : EachInherits
unfolding whole
each-inherits s o T = subst (Inherits s T) (sym (whole_is s o.readable o.order T)) (inherits s o T)

-- ---- from parents to a type

pub handed-step : HandedStep
unfolding handed_on hands_on listed_parents
handed-step s o T i = go (length (type_map_of s).types) (all-deep s o.readable.once o.order)
  where
    go : (k : ℕ) → ((P : TypeInfo) → In P s.types → Deep s k P)
        → hands_on k (type_map_of s) T
        ≡ map (λ a. under T.name (as_associate a)) (own_associates T)
        ++ map (λ (e : InheritedAnnotation). under T.name e.annotation) (dedup (type_map_of s).words (each (hands_on k (type_map_of s)) (each (type_named (type_map_of s)) T.parents)))
    go zero d = absurd (d T i)
    go (suc k) d =
        ap
        (λ l. map (λ a. under T.name (as_associate a)) (own_associates T) ++ map (λ (e : InheritedAnnotation). under T.name e.annotation) (dedup (type_map_of s).words l))
        (sym (each-each (type_named (type_map_of s)) (hands_on k (type_map_of s)) T.parents)
        ∙ each_same (hands_on k (type_map_of s)) (hands_on (suc k) (type_map_of s)) (each (type_named (type_map_of s)) T.parents)
        (λ P j. let p = (listed-is s T P).0 j in deep-same s k (suc k) P (d T i P p) (d P p.declared)))
