-- The synthesis leaves no row exactly if no type is refused; then what it makes are the items.
use Rattle.std.proofs.Math.Bool.{Bool, false, not}
use Rattle.std.specs.Prelude.{true, ◌||◌, ◌⊎◌, ◌↔◌, ◌≡◌, refl, ℕ}
use mathlib.Core.List.Memᴰ
use mathlib.Core.List.Permᴰ
use mathlib.Core.List.{List, [], ◌++◌, map, Permᴰ}
use Rattle.std.proofs.Common.{inl, inr, ⊎_elim, sym, ◌∙◌}
use Rattle.std.proofs.Math.Path.{ap, ap₂, subst}
use borrow.Author.Tests.{not-false}
use Rattle.lists.specs.Lists.{In, any, null, repeats, each}
use Rattle.lists.specs.Tests.{or-false-left, or-false-right, any-not, any_none}
use Rattle.lists.specs.Sorting.{Distinct, sorted-append, perm_in, perm-sorted, set_is}
use Rattle.definitions.specs.Records.{Name, Dom, Resource, TypeInfo, Sheet, Item}
use Rattle.definitions.specs.Comparisons.{dotted}
use Rattle.definitions.specs.Map.{type_map_of, LineType, LineMap, line_type_of, line_map_of}
use Rattle.definitions.specs.Order.{has_order}
use Rattle.definitions.specs.Inherited.{dedup}
use Rattle.definitions.specs.Making.{declared, class_names, is_resource, extension_line, same_item}
use Rattle.definitions.specs.Synthesis.{own_entries, interpret_type, interpret_all, synthesis}
use Rattle.definitions.specs.Items.{owned, given, of_word, associate_word, ancestors, doms_above, words_made, items_for, items_of}
use Rattle.definitions.specs.Ancestry.{HasOrder}
use Rattle.definitions.specs.ItemOrder.{word_of}
use Rattle.law_orders.specs.Comparisons.{dom-strict, types-is, names-once}
use Rattle.law_orders.proofs.Order.{order-exists}
use Rattle.law_lines.specs.Statements.{Readable, line_map, classes_of, is_refused, any_refused}
use Rattle.lists.specs.Members.{distinct-map, sorted-left}
use Rattle.law_lines.specs.Declarations.{type-in, type-of}
use Rattle.law_lines.specs.Associating.{word-is}
use Rattle.law_lines.specs.SameItem.{once-tested, tested-once}
use Rattle.law_lines.specs.Lines.{items-are-lines}
use Rattle.law_lines.specs.Once.{items-once}
use Rattle.law_lines.specs.InOrder.{items-in-order}
use Rattle.law_lines.proofs.Refused.{accepted-is-tested}
use Rattle.law_synthesis.specs.Statements.{RowsAreTested, RowsAreRefusals, SynthesisMakesItems, SynthesisMakesLines, ItemsListed}
use Rattle.lists.specs.Appending.{each_map}
use Rattle.lists.specs.Permutations.{perm-map, perm_same, perm-each-in, distinct-perm}
use Rattle.law_synthesis.specs.Interpreted.{Job, made, made-not-line, Fit, Among, making, lined, no_row, no-row-items, no-row-once}
use Rattle.law_synthesis.specs.Visited.{whole, result, Clean, no-rows-is, clean-items}
use Rattle.law_synthesis.specs.Jobs.{own_job, inherited_job, words_above, jobs_for, words-distinct, made_in, made-of, above_word, word-above, words-above-is, jobs-perm, items-perm}

-- ---- the classes and the words of the makings

module _ (m : LineMap) (T : LineType) (As : List LineType) where
  own-job : {u : Resource} → In u (owned T) → In (own_job u) (jobs_for m T As)
  own-job i = Memᴰ.append_left (map (inherited_job m T As) (words_above T As)) (Memᴰ.map own_job i)

  inherited-job : (r : ℕ) → associate_word As r ≡ true → In (inherited_job m T As r) (jobs_for m T As)
  inherited-job r e = Memᴰ.append_right (map own_job (owned T)) (Memᴰ.map (inherited_job m T As) ((words-above-is T As r).1 e))

  -- a making is an own one or an inherited one
  job-cases : {j : Job} → In j (jobs_for m T As) → ((u : Resource) × In u (owned T) × (own_job u ≡ j)) ⊎ ((r : ℕ) × (associate_word As r ≡ true) × (inherited_job m T As r ≡ j))
  job-cases i =
      ⊎_elim
      (λ k. inl (Memᴰ.of_map own_job (owned T) k))
      (λ k. let x = Memᴰ.of_map (inherited_job m T As) (words_above T As) k in inr (x.0, (words-above-is T As x.0).0 x.1, x.2))
      (Memᴰ.append_cases (map own_job (owned T)) i)

  -- a class of an inherited making comes from a resource above
  class-above : (r : ℕ) (c : Name) → In c (class_names (doms_above As r) r) ↔ ((u : Resource) × In u (each given As) × (u.word ≡ r) × (dotted u.dom u.word ≡ c))
  unfolding doms_above
  class-above r c =
      let l = map (λ (u : Resource). u.dom) (of_word r (each given As)) in (
        λ i.
            let x = Memᴰ.of_map (λ (d : Dom). dotted d r) (doms_above As r) i in
            let y = Memᴰ.of_map (λ (u : Resource). u.dom) (of_word r (each given As)) ((set_is dom-strict l x.0).0 x.1) in
            let w = (word-is r (each given As) y.0).0 y.1 in
            (y.0, w.0, w.1, ap₂ (λ d q. dotted d q) y.2 w.1 ∙ x.2),
        λ h.
            Memᴰ.cast (sym h.3 ∙ ap (λ q. dotted h.0.dom q) h.2)
            (Memᴰ.map (λ (d : Dom). dotted d r)
            ((set_is dom-strict l h.0.dom).1 (Memᴰ.map (λ (u : Resource). u.dom) ((word-is r (each given As) h.0).1 (h.1, h.2))))),
      )

  class-of : {j : Job} → In j (jobs_for m T As) → {c : Name} → In c j.classes → In c (classes_of T As)
  class-of i {c} k =
      ⊎_elim
      (λ x.
      Memᴰ.cast (Memᴰ.eq_of_singleton (subst (λ (j : Job). In c j.classes) (sym x.2) k))
      (Memᴰ.map (λ (u : Resource). dotted u.dom u.word) (Memᴰ.append_left (each given As) x.1)))
      (λ x.
      let y = (class-above x.0 c).0 (subst (λ (j : Job). In c j.classes) (sym x.2) k) in
      Memᴰ.cast (sym y.3) (Memᴰ.map (λ (u : Resource). dotted u.dom u.word) (Memᴰ.append_right (owned T) y.1)))
      (job-cases i)

  class-in : {c : Name} → In c (classes_of T As) → (j : Job) × In j (jobs_for m T As) × In c j.classes
  class-in {c} i =
      let x = Memᴰ.of_map (λ (u : Resource). dotted u.dom u.word) (owned T ++ each given As) i in
      ⊎_elim
      (λ k. (own_job x.0, own-job k, Memᴰ.head (sym x.2)))
      (λ k.
      let r = x.0.word in
      (inherited_job m T As r, inherited-job r (above_word As k), (class-above r c).1 (x.0, k, refl, x.2)))
      (Memᴰ.append_cases (owned T) x.1)

  word-of-job : {j : Job} → In j (jobs_for m T As) → In j.word (words_made T As)
  word-of-job i =
      ⊎_elim
      (λ x. Memᴰ.cast (ap (λ (j : Job). j.word) (sym x.2)) (made_in T As (Memᴰ.append_left (each given As) x.1)))
      (λ x.
      let u = word-above As x.0 x.1 in
      Memᴰ.cast (ap (λ (j : Job). j.word) (sym x.2) ∙ sym u.2) (made_in T As (Memᴰ.append_right (owned T) u.1)))
      (job-cases i)

  word-in-job : {r : ℕ} → In r (words_made T As) → (j : Job) × In j (jobs_for m T As) × (j.word ≡ r)
  word-in-job i =
      let x = made-of T As i in
      ⊎_elim
      (λ k. (own_job x.0, own-job k, x.2))
      (λ k. (inherited_job m T As x.0.word, inherited-job x.0.word (above_word As k), x.2))
      (Memᴰ.append_cases (owned T) x.1)

  -- ---- the items, once each

  line-one : (r q : ℕ) → extension_line T r ≡ extension_line T q → r ≡ q
  unfolding extension_line
  line-one r q e = ap word_of e

  made-line : (j : Job) (r : ℕ) → made m T j ≡ extension_line T r → ⊥
  made-line j r e = made-not-line m T j (record { word = r; classes = []; firsts = [] }) e

  items-distinct : Distinct (items_for m T As) ↔ Distinct (map (made m T) (jobs_for m T As))
  items-distinct =
      let js = map (made m T) (jobs_for m T As) in
      let ls = map (extension_line T) (words_made T As) in
      let flip : (x y : Item) → (x ≡ y → ⊥) → y ≡ x → ⊥ = λ x y n e. n (sym e) in (
        λ d. sorted-left (λ x y. x ≡ y → ⊥) js ls (perm-sorted (λ x y. x ≡ y → ⊥) flip (items-perm m T As) d),
        λ d.
            perm-sorted (λ x y. x ≡ y → ⊥) flip (Permᴰ.symm (items-perm m T As))
            (sorted-append (λ x y. x ≡ y → ⊥) js ls d (distinct-map (extension_line T) (words_made T As) (words-distinct T As) (λ r q i k e. line-one r q e))
            (λ x y i k e.
            let a = Memᴰ.of_map (made m T) (jobs_for m T As) i in
            let b = Memᴰ.of_map (extension_line T) (words_made T As) k in
            made-line a.0 b.0 (a.2 ∙ e ∙ sym b.2))),
      )

  -- an item is a making or a line of one
  items-among : (x : Item) → In x (items_for m T As) ↔ Among m T (jobs_for m T As) x
  items-among x = (
    λ i.
        ⊎_elim
        (λ k. let a = Memᴰ.of_map (made m T) (jobs_for m T As) k in making a.0 a.1 (sym a.2))
        (λ k.
        let b = Memᴰ.of_map (extension_line T) (words_made T As) k in
        let j = word-in-job b.1 in
        lined j.0 j.1 (sym b.2 ∙ ap (extension_line T) (sym j.2)))
        (Memᴰ.append_cases (map (made m T) (jobs_for m T As)) (perm_in (items-perm m T As) i)),
    λ a. perm_in (Permᴰ.symm (items-perm m T As)) (of a),
  )
    where
      of : Among m T (jobs_for m T As) x → In x (map (made m T) (jobs_for m T As) ++ map (extension_line T) (words_made T As))
      of (making j i e) = Memᴰ.cast e (Memᴰ.append_left (map (extension_line T) (words_made T As)) (Memᴰ.map (made m T) i))
      of (lined j i e) = Memᴰ.cast e (Memᴰ.append_right (map (made m T) (jobs_for m T As)) (Memᴰ.map (extension_line T) (word-of-job i)))

  -- ---- refused

  abbrev undeclared_class : Name → Bool
  undeclared_class c = null (declared m c)

  abbrev other_class : Name → Bool
  other_class c = not (is_resource m c)

  abbrev declared_word : ℕ → Bool
  declared_word r = not (null (declared m (dotted T.name r)))

  -- T is not refused exactly if each of its makings is fit and no two are identical
  refused-not : (is_refused m T As ≡ false) ↔ (((j : Job) → In j (jobs_for m T As) → Fit m T j) × Distinct (map (made m T) (jobs_for m T As)))
  unfolding is_refused
  refused-not =
      let a = any undeclared_class (classes_of T As) in
      let b = any other_class (classes_of T As) in
      let c = any declared_word (words_made T As) in
      let d = repeats same_item (items_for m T As) in (
        λ e.
            let e₁ = or-false-right a (b || (c || d)) e in
            let e₂ = or-false-right b (c || d) e₁ in (
              λ j i. record {
                known = λ n k. any-not undeclared_class (or-false-left a (b || (c || d)) e) (class-of i k);
                right = λ n k. not-false (is_resource m n) (any-not other_class (or-false-left b (c || d) e₁) (class-of i k));
                free = not-false (null (declared m (dotted T.name j.word))) (any-not declared_word (or-false-left c d e₂) (word-of-job i));
              },
              items-distinct.0 (tested-once (items_for m T As) (or-false-right c d e₂)),
            ),
        λ h.
            let p : a ≡ false = any_none undeclared_class (classes_of T As) (λ n k. let x = class-in k in (h.0 x.0 x.1).known n x.2) in
            let q : b ≡ false = any_none other_class (classes_of T As) (λ n k. let x = class-in k in ap not ((h.0 x.0 x.1).right n x.2)) in
            let r : c ≡ false =
            any_none declared_word (words_made T As)
            (λ w k. let x = word-in-job k in subst (λ w. declared_word w ≡ false) x.2 (ap not (h.0 x.0 x.1).free)) in
            let t : d ≡ false = once-tested (items_for m T As) (items-distinct.1 h.1) in
            ap₂ (λ x y. x || y) p (ap₂ (λ x y. x || y) q (ap₂ (λ x y. x || y) r t)),
      )

-- ---- one type

among-perm : (m : LineMap) (T : LineType) {js ks : List Job} {x : Item} → Permᴰ js ks → Among m T js x → Among m T ks x
among-perm m T p (making j i e) = making j (perm_in p i) e
among-perm m T p (lined j i e) = lined j (perm_in p i) e

module _ (s : Sheet) (ok : Readable s) (order : has_order (type_map_of s) ≡ true) where
  abbrev above : TypeInfo → List LineType
  above T = ancestors (line_map s) (line_type_of T)

  clean_is : (T : TypeInfo) → Clean (type_map_of s) T ↔ (is_refused (line_map s) (line_type_of T) (above T) ≡ false)
  unfolding interpret_type
  clean_is T =
      let m = line_map s in
      let D = line_type_of T in
      let p = jobs-perm s ok order T in
      let x = no_row m D (own_entries T ++ dedup (type_map_of s).words (whole (type_map_of s) T)) in
      let y = refused-not m D (above T) in
      let flip : (x y : Item) → (x ≡ y → ⊥) → y ≡ x → ⊥ = λ x y n e. n (sym e) in (
        λ c. let h = x.0 c in y.1 (λ j i. h.0 j (perm_in (Permᴰ.symm p) i), perm-sorted (λ x y. x ≡ y → ⊥) flip (perm-map (made m D) p) h.1),
        λ e. let h = y.0 e in x.1 (λ j i. h.0 j (perm_in p i), perm-sorted (λ x y. x ≡ y → ⊥) flip (perm-map (made m D) (Permᴰ.symm p)) h.1),
      )

  -- its items are those from ancestors
  clean-made : (T : TypeInfo) → Clean (type_map_of s) T → Permᴰ (result (type_map_of s) T).items (items_for (line_map s) (line_type_of T) (above T))
  unfolding interpret_type
  clean-made T c =
      let m = line_map s in
      let D = line_type_of T in
      let l = own_entries T ++ dedup (type_map_of s).words (whole (type_map_of s) T) in
      let p = jobs-perm s ok order T in
      distinct-perm (interpret_all m D l []).items (items_for m D (above T)) (no-row-once m D l c)
      ((items-distinct m D (above T)).1 ((refused-not m D (above T)).0 ((clean_is T).0 c)).1)
      (λ x.
      let a = no-row-items m D l c x in
      let b = items-among m D (above T) x in
      (λ i. b.1 (among-perm m D p (a.0 i)), λ i. a.1 (among-perm m D (Permᴰ.symm p) (b.0 i))))

  -- ---- the map

  tested-each : (any_refused (line_map s) ≡ false) ↔ ((T : TypeInfo) → In T (type_map_of s).types → is_refused (line_map s) (line_type_of T) (above T) ≡ false)
  unfolding any_refused
  tested-each =
      let f : LineType → Bool = λ D. is_refused (line_map s) D (ancestors (line_map s) D) in (
        λ e T i. any-not f e (type-in s ((types-is s T).0 i)),
        λ h. any_none f (line_map s).types (λ D i. let x = type-of s i in subst (λ E. f E ≡ false) x.2 (h x.0 ((types-is s x.0).1 x.1))),
      )

  rows-tested : ((synthesis (type_map_of s)).rows ≡ []) ↔ (any_refused (line_map s) ≡ false)
  rows-tested =
      let x = no-rows-is s ok.once order in
      let y = tested-each in
      (λ e. y.1 (λ T i. (clean_is T).0 (x.0 e T i)), λ e. x.1 (λ T i. (clean_is T).1 (y.0 e T i)))

  items-all : items_of (line_map s) ≡ each (λ T. items_for (line_map s) (line_type_of T) (above T)) (type_map_of s).types
  unfolding items_of line_map_of
  items-all = each_map (λ D. items_for (line_map s) D (ancestors (line_map s) D)) line_type_of (type_map_of s).types

  made-items : (synthesis (type_map_of s)).rows ≡ [] → Permᴰ (synthesis (type_map_of s)).items (items_of (line_map s))
  made-items e =
      let c = (no-rows-is s ok.once order).0 e in
      Permᴰ.trans (clean-items s ok.once order c)
      (Permᴰ.trans
      (perm-each-in (λ T. (result (type_map_of s) T).items) (λ T. items_for (line_map s) (line_type_of T) (above T)) (type_map_of s).types (λ T i. clean-made T (c T i)))
      (perm_same (sym items-all)))

-- ---- the statements

pub rows-are-tested : RowsAreTested
rows-are-tested s o = rows-tested s o.readable o.order

pub synthesis-makes-items : SynthesisMakesItems
synthesis-makes-items s o e = made-items s o.readable o.order e

-- an order, as `HasOrder` states it
has-order : (s : Sheet) → Readable s → HasOrder s → has_order (type_map_of s) ≡ true
has-order s ok h = (order-exists s (record { words = ok.words; names = names-once s ok.once })).1 h

pub rows-are-refusals : RowsAreRefusals
rows-are-refusals s ok h =
    let x = rows-tested s ok (has-order s ok h) in
    let y = accepted-is-tested s ok in
    (λ e. y.0 (x.0 e), λ a. x.1 (y.1 a))

pub synthesis-makes-lines : SynthesisMakesLines
synthesis-makes-lines s ok h e =
    let a = (rows-are-refusals s ok h).0 e in
    let p = made-items s ok (has-order s ok h) e in
    record {
      lines = λ x. let l = items-are-lines s ok a x in (λ i. l.0 (perm_in p i), λ i. perm_in (Permᴰ.symm p) (l.1 i));
      once = perm-sorted (λ x y. x ≡ y → ⊥) (λ x y n q. n (sym q)) (Permᴰ.symm p) (items-once s ok a);
    }

pub items-listed : ItemsListed
items-listed s o e =
    let a = (accepted-is-tested s o.readable).0 ((rows-are-tested s o).0 e) in
    record { once = items-once s o.readable a; in_order = items-in-order s o.readable a }
