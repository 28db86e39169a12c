-- The grammar of a schedule's fields allows the values of legal schedules and no others, and writes them as the schedule is packed.
use Rattle.std.specs.Prelude.{Bool, ◌≡◌, length}
use Rattle.std.proofs.Math.Bool.{true, false}
use mathlib.Core.List.{List, [], ◌∷◌, ◌++◌, append_assoc, append-nil}
use Rattle.std.proofs.Math.Path.{refl, sym, ap}
use Rattle.std.proofs.Common.{ap₂, ◌∙◌, subst}
use Prim.Native.Nat.{ℕ, zero, suc, ◌^◌, ◌≤◌, ◌<◌, zero-le}
use native.Mathlib.Omega.{arith}
use Rattle.lists.specs.Lists.{each}
use Rattle.lists.specs.Appending.{each-one, map-self}
use Rattle.definitions.specs.Bits.{bit, odd, to_bits}
use Rattle.definitions.specs.Records.{Name, Mark, makelist_mark, derive_mark, Item, synthesized, extension, Schedule}
use Rattle.definitions.specs.Packing.{counted_bits, name_bits, parent_bits, mark_bits, item_bits, order_bits, item_count_bits, schedule_bits}
use Rattle.definitions.specs.Legal.{Every, Counted, LegalName, LegalMark}
use Rattle.definitions.specs.LegalSchedule.{most_names, most_items, least_parents, most_parents, most_parent_words, most_marks, LegalWidth, LegalParent, LegalItem, LegalSchedule}
use Rattle.definitions.specs.ScheduleFields.{Fields, end, field, times, flag_fields, word_fields, pick, name_fields, parent_fields, mark_fields, marks_fields, made_fields, line_fields, item_fields, schedule_fields, packed, write_fields}
use Rattle.definitions.specs.Values.{counted_values, name_values, parent_values, mark_values, item_values, schedule_values}
use Rattle.law_records.specs.Walks.{Allowed, Sound}

-- us begins with the values of an x in P, and k allows the rest
record Begun {A : Type 0} (values : A → List ℕ) (P : A → Type 0) (k : Fields) (us : List ℕ) : Type 0 where
  x : A
  rest : List ℕ
  legal : P x
  begins : us ≡ values x ++ rest
  allowed : Allowed k rest

-- The fields F, before any others, are those of the x in P: they allow the values of such x and no others, and write the bits of x.
record Means {A : Type 0} (F : Fields → Fields) (values : A → List ℕ) (bits : A → List Bool) (P : A → Type 0) : Type 0 where
  sound : (k : Fields) → Sound k → Sound (F k)
  lets : (k : Fields) (x : A) (vs : List ℕ) → P x → Allowed k vs → Allowed (F k) (values x ++ vs)
  only : (k : Fields) (us : List ℕ) → Allowed (F k) us → Begun values P k us
  packs : (k : Fields) (x : A) (vs : List ℕ) → P x → write_fields packed (F k) (values x ++ vs) ≡ bits x ++ write_fields packed k vs

-- ---- lists

module _ {A : Type 0} {F : Fields → Fields} {values : A → List ℕ} {bits : A → List Bool} {P : A → Type 0} (c : Means F values bits P) where
  times-sound : (n : ℕ) (k : Fields) → Sound k → Sound (times n F k)
  unfolding times
  times-sound zero k s = s
  times-sound (suc n) k s = c.sound (times n F k) (times-sound n k s)

  times-lets : (k : Fields) (l : List A) (vs : List ℕ) → Every P l → Allowed k vs → Allowed (times (length l) F k) (each values l ++ vs)
  unfolding times
  times-lets k [] vs h a = a
  times-lets k (x ∷ l) vs h a =
      rw (append_assoc (values x) (each values l) vs) (c.lets (times (length l) F k) x (each values l ++ vs) h.0 (times-lets k l vs h.1 a))

  times-only : (n : ℕ) (k : Fields) (us : List ℕ) → Allowed (times n F k) us → Begun (each values) (λ l. (length l ≡ n) × Every P l) k us
  unfolding times
  times-only zero k us a = record { x = []; rest = us; legal = (refl, tt); begins = refl; allowed = a }
  times-only (suc n) k us a =
      let t = c.only (times n F k) us a in
      let u = times-only n k t.rest t.allowed in
      record {
        x = t.x ∷ u.x;
        rest = u.rest;
        legal = (ap suc u.legal.0, (t.legal, u.legal.1));
        begins = t.begins ∙ ap (λ l. values t.x ++ l) u.begins ∙ sym (append_assoc (values t.x) (each values u.x) u.rest);
        allowed = u.allowed;
      }

  times-packs : (k : Fields) (l : List A) (vs : List ℕ) → Every P l
      → write_fields packed (times (length l) F k) (each values l ++ vs) ≡ each bits l ++ write_fields packed k vs
  unfolding times
  times-packs k [] vs h = refl
  times-packs k (x ∷ l) vs h =
      ap (write_fields packed (F (times (length l) F k))) (append_assoc (values x) (each values l) vs)
      ∙ c.packs (times (length l) F k) x (each values l ++ vs) h.0
      ∙ ap (λ bs. bits x ++ bs) (times-packs k l vs h.1)
      ∙ sym (append_assoc (bits x) (each bits l) (write_fields packed k vs))

  -- a count, and so many (FORMAT 2.3)
  counted-means : (n least most : ℕ) → 1 ≤ n → n ≤ 16 → most < 2 ^ n
      → Means (λ k. field n least most (λ v. times v F k)) (counted_values values) (counted_bits n bits) (Counted least most P)
  unfolding Allowed Sound write_fields
  counted-means n least most one few fit = record { sound = λ k s. (one, few, fit, λ v h. times-sound v k s); lets = lets; only = only; packs = packs }
    where
      lets : (k : Fields) (l : List A) (vs : List ℕ) → Counted least most P l → Allowed k vs
          → Allowed (field n least most (λ v. times v F k)) (counted_values values l ++ vs)
      lets k l vs h a = (h.enough, h.few, times-lets k l vs h.every a)

      only : (k : Fields) (us : List ℕ) → Allowed (field n least most (λ v. times v F k)) us → Begun (counted_values values) (Counted least most P) k us
      only k [] a = absurd a
      only k (v ∷ us) a =
          let t = times-only v k us a.2 in
          let e = t.legal.0 in
          record {
            x = t.x;
            rest = t.rest;
            legal = record { enough = rw e a.0; few = rw e a.1; every = t.legal.1 };
            begins = ap₂ (λ (m : ℕ) l. m ∷ l) (sym e) t.begins;
            allowed = t.allowed;
          }

      packs : (k : Fields) (l : List A) (vs : List ℕ) → Counted least most P l
          → write_fields packed (field n least most (λ v. times v F k)) (counted_values values l ++ vs) ≡ counted_bits n bits l ++ write_fields packed k vs
      packs k l vs h =
          ap (λ bs. to_bits n (length l) ++ bs) (times-packs k l vs h.every)
          ∙ sym (append_assoc (to_bits n (length l)) (each bits l) (write_fields packed k vs))

-- where the fields end, so do the values
nothing-more : (vs : List ℕ) → Allowed end vs → vs ≡ []
unfolding Allowed
nothing-more [] a = refl
nothing-more (v ∷ vs) a = absurd a

-- ---- flags and marks

flag-bits : (b : Bool) → to_bits 1 (bit b) ≡ b ∷ []
unfolding odd to_bits
flag-bits true = refl
flag-bits false = refl

flag-means : Means (λ k. flag_fields (λ v. k)) (λ b. bit b ∷ []) (λ b. b ∷ []) (λ b. Unit {0})
unfolding Allowed Sound write_fields
flag-means = record {
  sound = λ k s. (omega arith, omega arith, omega arith, λ v h. s);
  lets = lets;
  only = only;
  packs = λ k b vs u. ap (λ bs. bs ++ write_fields packed k vs) (flag-bits b);
}
  where
    lets : (k : Fields) (b : Bool) (vs : List ℕ) → Unit {0} → Allowed k vs → Allowed (flag_fields (λ v. k)) (bit b ∷ vs)
    lets k true vs u a = (omega arith, omega arith, a)
    lets k false vs u a = (omega arith, omega arith, a)

    only : (k : Fields) (us : List ℕ) → Allowed (flag_fields (λ v. k)) us → Begun (λ b. bit b ∷ []) (λ b. Unit {0}) k us
    only k [] a = absurd a
    only k (zero ∷ us) a = record { x = false; rest = us; legal = tt; begins = refl; allowed = a.2 }
    only k (suc zero ∷ us) a = record { x = true; rest = us; legal = tt; begins = refl; allowed = a.2 }
    only k (suc (suc v) ∷ us) a = absurd (omega (arith, a.1))

mark-means : Means mark_fields mark_values mark_bits LegalMark
unfolding Allowed Sound write_fields mark_fields mark_values mark_bits
mark-means = record { sound = sound; lets = lets; only = only; packs = packs }
  where
    sound : (k : Fields) → Sound k → Sound (mark_fields k)
    sound k s = (omega arith, omega arith, omega arith, go)
      where
        go : (v : ℕ) → v ≤ 1 → Sound (pick v (field 8 0 255 (λ t. k)) k)
        go zero h = s
        go (suc v) h = (omega arith, omega arith, omega arith, λ v h. s)

    lets : (k : Fields) (m : Mark) (vs : List ℕ) → LegalMark m → Allowed k vs → Allowed (mark_fields k) (mark_values m ++ vs)
    lets k makelist_mark vs p a = (omega arith, omega arith, a)
    lets k (derive_mark t) vs p a = (omega arith, omega arith, (omega arith, omega arith, a))

    only : (k : Fields) (us : List ℕ) → Allowed (mark_fields k) us → Begun mark_values LegalMark k us
    only k [] a = absurd a
    only k (zero ∷ us) a = record { x = makelist_mark; rest = us; legal = tt; begins = refl; allowed = a.2 }
    only k (suc zero ∷ []) a = absurd a.2
    only k (suc zero ∷ t ∷ us) a = record { x = derive_mark t; rest = us; legal = omega (arith, a.2.1); begins = refl; allowed = a.2.2 }
    only k (suc (suc v) ∷ us) a = absurd (omega (arith, a.1))

    packs : (k : Fields) (m : Mark) (vs : List ℕ) → LegalMark m → write_fields packed (mark_fields k) (mark_values m ++ vs) ≡ mark_bits m ++ write_fields packed k vs
    packs k makelist_mark vs p = ap (λ bs. bs ++ write_fields packed k vs) (flag-bits false)
    packs k (derive_mark t) vs p = ap (λ bs. bs ++ (to_bits 8 t ++ write_fields packed k vs)) (flag-bits true)

marks-means : Means marks_fields (counted_values mark_values) (counted_bits 9 mark_bits) (Counted 0 most_marks LegalMark)
unfolding marks_fields
marks-means = counted-means mark-means 9 0 most_marks (omega arith) (omega arith) (omega arith)

-- ---- words, names, items

module _ (W : ℕ) (width : LegalWidth W) where
  word-means : Means (word_fields W) (λ w. w ∷ []) (to_bits 8) (λ w. w < W)
  unfolding Allowed Sound write_fields
  word-means = record {
    sound = λ k s. (omega arith, omega arith, omega (arith, width.few), λ v h. s);
    lets = λ k w vs h a. (zero-le, omega arith, a);
    only = only;
    packs = λ k w vs h. refl;
  }
    where
      only : (k : Fields) (us : List ℕ) → Allowed (word_fields W k) us → Begun (λ w. w ∷ []) (λ w. w < W) k us
      only k [] a = absurd a
      only k (w ∷ us) a = record { x = w; rest = us; legal = omega (arith, a.1, width.enough); begins = refl; allowed = a.2 }

  -- what follows the first word of a name
  abbrev second : Fields → Fields
  second k = flag_fields (λ b. pick b (word_fields W k) k)

  name-means : Means (name_fields W) name_values name_bits (LegalName W)
  unfolding Allowed Sound write_fields name_fields name_values name_bits
  name-means = record { sound = sound; lets = lets; only = only; packs = packs }
    where
      sound : (k : Fields) → Sound k → Sound (name_fields W k)
      sound k s = word-means.sound (second k) (omega arith, omega arith, omega arith, go)
        where
          go : (v : ℕ) → v ≤ 1 → Sound (pick v (word_fields W k) k)
          go zero h = s
          go (suc v) h = word-means.sound k s

      lets : (k : Fields) (n : Name) (vs : List ℕ) → LegalName W n → Allowed k vs → Allowed (name_fields W k) (name_values n ++ vs)
      lets k [] vs p a = absurd p
      lets k (x ∷ []) vs p a = word-means.lets (second k) x (0 ∷ vs) p.0 (omega arith, omega arith, a)
      lets k (x ∷ y ∷ []) vs p a = word-means.lets (second k) x (1 ∷ y ∷ vs) p.0 (omega arith, omega arith, word-means.lets k y vs p.1 a)
      lets k (x ∷ y ∷ z ∷ l) vs p a = absurd p.1

      only : (k : Fields) (us : List ℕ) → Allowed (name_fields W k) us → Begun name_values (LegalName W) k us
      only k [] a = absurd a
      only k (x ∷ []) a = absurd a.2
      only k (x ∷ zero ∷ us) a = record { x = x ∷ []; rest = us; legal = (omega (arith, a.1, width.enough), tt); begins = refl; allowed = a.2.2 }
      only k (x ∷ suc zero ∷ []) a = absurd a.2.2
      only k (x ∷ suc zero ∷ y ∷ us) a = record {
        x = x ∷ y ∷ [];
        rest = us;
        legal = (omega (arith, a.1, width.enough), omega (arith, a.2.2.1, width.enough));
        begins = refl;
        allowed = a.2.2.2;
      }
      only k (x ∷ suc (suc v) ∷ us) a = absurd (omega (arith, a.2.1))

      packs : (k : Fields) (n : Name) (vs : List ℕ) → LegalName W n → write_fields packed (name_fields W k) (name_values n ++ vs) ≡ name_bits n ++ write_fields packed k vs
      packs k [] vs p = absurd p
      packs k (x ∷ []) vs p =
          ap (λ bs. to_bits 8 x ++ (bs ++ write_fields packed k vs)) (flag-bits false) ∙ sym (append_assoc (to_bits 8 x) (false ∷ []) (write_fields packed k vs))
      packs k (x ∷ y ∷ []) vs p =
          ap (λ bs. to_bits 8 x ++ (bs ++ (to_bits 8 y ++ write_fields packed k vs))) (flag-bits true)
          ∙ sym (append_assoc (to_bits 8 x) (true ∷ to_bits 8 y) (write_fields packed k vs))
      packs k (x ∷ y ∷ z ∷ l) vs p = absurd p.1

  words-means : Means (parent_fields W) (counted_values (λ w. w ∷ [])) parent_bits (LegalParent W)
  unfolding parent_fields parent_bits
  words-means = counted-means word-means 2 1 most_parent_words (omega arith) (omega arith) (omega arith)

  words-listed : (p : Name) → each (λ (w : ℕ). w ∷ []) p ≡ p
  words-listed p = each-one (λ w. w) p ∙ map-self (λ w. w) p (λ w i. refl)

  parent-means : Means (parent_fields W) parent_values parent_bits (LegalParent W)
  unfolding parent_values
  parent-means =
      let c = words-means in
      record {
        sound = c.sound;
        lets = λ k p vs h a. rw (words-listed p) at (c.lets k p vs h a);
        only = λ k us a.
            let t = c.only k us a in
            record { x = t.x; rest = t.rest; legal = t.legal; begins = rw (words-listed t.x) at t.begins; allowed = t.allowed };
        packs = λ k p vs h. rw (words-listed p) at (c.packs k p vs h);
      }

  parents-means : Means (λ k. field 5 least_parents most_parents (λ n. times n (parent_fields W) k)) (counted_values parent_values) (counted_bits 5 parent_bits)
      (Counted least_parents most_parents (LegalParent W))
  parents-means = counted-means parent-means 5 least_parents most_parents (omega arith) (omega arith) (omega arith)

  -- what follows in a synthesized resource, from its parents, its flag and its word on
  abbrev from_parents : Fields → Fields
  from_parents k = field 5 least_parents most_parents (λ n. times n (parent_fields W) (marks_fields k))

  abbrev from_flag : Fields → Fields
  from_flag k = flag_fields (λ v. from_parents k)

  abbrev from_word : Fields → Fields
  from_word k = word_fields W (from_flag k)

  -- a resource's values with others behind them, one part after the other
  module _ (n : Name) (r : ℕ) (v : Bool) (ps : List Name) (ms : List Mark) where
    abbrev made_rest : List ℕ → List ℕ
    made_rest vs = counted_values parent_values ps ++ (counted_values mark_values ms ++ vs)

    made-values : (vs : List ℕ) → item_values (synthesized n r v ps ms) ++ vs ≡ 0 ∷ name_values n ++ (r ∷ bit v ∷ made_rest vs)
    unfolding item_values
    made-values vs =
        ap (λ l. 0 ∷ l)
        (append_assoc (name_values n) (r ∷ bit v ∷ counted_values parent_values ps ++ counted_values mark_values ms) vs
        ∙ ap (λ l. name_values n ++ (r ∷ bit v ∷ l)) (append_assoc (counted_values parent_values ps) (counted_values mark_values ms) vs))

    made-begins : {us from_r from_v from_p from_m : List ℕ} (rest : List ℕ) → us ≡ name_values n ++ from_r → from_r ≡ r ∷ from_v → from_v ≡ bit v ∷ from_p →
        from_p ≡ counted_values parent_values ps ++ from_m → from_m ≡ counted_values mark_values ms ++ rest → 0 ∷ us ≡ item_values (synthesized n r v ps ms) ++ rest
    made-begins rest a b c d e =
        ap (λ l. 0 ∷ l)
        (a ∙ ap (λ l. name_values n ++ l) (b ∙ ap (λ l. r ∷ l) (c ∙ ap (λ l. bit v ∷ l) (d ∙ ap (λ l. counted_values parent_values ps ++ l) e))))
        ∙ sym (made-values rest)

    made_bits : (bs : List Bool) → item_bits (synthesized n r v ps ms) ++ bs
        ≡ false ∷ name_bits n ++ (to_bits 8 r ++ (v ∷ counted_bits 5 parent_bits ps ++ (counted_bits 9 mark_bits ms ++ bs)))
    unfolding item_bits
    made_bits bs =
        let ps' = counted_bits 5 parent_bits ps in
        let ms' = counted_bits 9 mark_bits ms in
        ap (λ l. false ∷ l)
        (append_assoc (name_bits n) (to_bits 8 r ++ (v ∷ ps' ++ ms')) bs
        ∙ ap (λ l. name_bits n ++ l) (append_assoc (to_bits 8 r) (v ∷ ps' ++ ms') bs ∙ ap (λ l. to_bits 8 r ++ (v ∷ l)) (append_assoc ps' ms' bs)))

    made-lets : (k : Fields) (vs : List ℕ) → LegalItem W (synthesized n r v ps ms) → Allowed k vs
        → Allowed (item_fields W k) (item_values (synthesized n r v ps ms) ++ vs)
    unfolding Allowed item_fields made_fields
    made-lets k vs h a =
        rw (made-values vs) (
          omega arith,
          omega arith,
          name-means.lets (from_word k) n (r ∷ bit v ∷ made_rest vs) h.type
              (word-means.lets (from_flag k) r (bit v ∷ made_rest vs) h.word
              (flag-means.lets (from_parents k) v (made_rest vs) tt
              (parents-means.lets (marks_fields k) ps (counted_values mark_values ms ++ vs) h.parents
              (marks-means.lets k ms vs h.marks a)))),
        )

    made-packs : (k : Fields) (vs : List ℕ) → LegalItem W (synthesized n r v ps ms)
        → write_fields packed (item_fields W k) (item_values (synthesized n r v ps ms) ++ vs) ≡ item_bits (synthesized n r v ps ms) ++ write_fields packed k vs
    unfolding write_fields item_fields made_fields
    made-packs k vs h =
        ap (write_fields packed (item_fields W k)) (made-values vs)
        ∙ ap (λ l. l ++ write_fields packed (made_fields W k) (name_values n ++ (r ∷ bit v ∷ made_rest vs))) (flag-bits false)
        ∙ ap (λ l. false ∷ l)
        (name-means.packs (from_word k) n (r ∷ bit v ∷ made_rest vs) h.type
        ∙ ap (λ l. name_bits n ++ l)
        (word-means.packs (from_flag k) r (bit v ∷ made_rest vs) h.word
        ∙ ap (λ l. to_bits 8 r ++ l)
        (flag-means.packs (from_parents k) v (made_rest vs) tt
        ∙ ap (λ l. v ∷ l)
        (parents-means.packs (marks_fields k) ps (counted_values mark_values ms ++ vs) h.parents
        ∙ ap (λ l. counted_bits 5 parent_bits ps ++ l) (marks-means.packs k ms vs h.marks)))))
        ∙ sym (made_bits (write_fields packed k vs))

  made-only : (k : Fields) (us : List ℕ) → Allowed (made_fields W k) us → Begun item_values (LegalItem W) k (0 ∷ us)
  unfolding made_fields
  made-only k us a =
      let n = name-means.only (from_word k) us a in
      let r = word-means.only (from_flag k) n.rest n.allowed in
      let v = flag-means.only (from_parents k) r.rest r.allowed in
      let ps = parents-means.only (marks_fields k) v.rest v.allowed in
      let ms = marks-means.only k ps.rest ps.allowed in
      record {
        x = synthesized n.x r.x v.x ps.x ms.x;
        rest = ms.rest;
        legal = record { type = n.legal; word = r.legal; parents = ps.legal; marks = ms.legal };
        begins = made-begins n.x r.x v.x ps.x ms.x ms.rest n.begins r.begins v.begins ps.begins ms.begins;
        allowed = ms.allowed;
      }

  -- what follows in an extension line
  abbrev from_trait : Fields → Fields
  from_trait k = flag_fields (λ t. word_fields W k)

  abbrev from_virtual : Fields → Fields
  from_virtual k = flag_fields (λ v. from_trait k)

  module _ (n : Name) (v t : Bool) (r : ℕ) where
    line-values : (vs : List ℕ) → item_values (extension n v t r) ++ vs ≡ 1 ∷ name_values n ++ (bit v ∷ bit t ∷ r ∷ vs)
    unfolding item_values
    line-values vs = ap (λ l. 1 ∷ l) (append_assoc (name_values n) (bit v ∷ bit t ∷ r ∷ []) vs)

    line-lets : (k : Fields) (vs : List ℕ) → LegalItem W (extension n v t r) → Allowed k vs
        → Allowed (item_fields W k) (item_values (extension n v t r) ++ vs)
    unfolding Allowed item_fields line_fields
    line-lets k vs h a =
        rw (line-values vs) (
          omega arith,
          omega arith,
          name-means.lets (from_virtual k) n (bit v ∷ bit t ∷ r ∷ vs) h.type
              (flag-means.lets (from_trait k) v (bit t ∷ r ∷ vs) tt
              (flag-means.lets (word_fields W k) t (r ∷ vs) tt
              (word-means.lets k r vs h.word a))),
        )

    line-packs : (k : Fields) (vs : List ℕ) → LegalItem W (extension n v t r)
        → write_fields packed (item_fields W k) (item_values (extension n v t r) ++ vs) ≡ item_bits (extension n v t r) ++ write_fields packed k vs
    unfolding write_fields item_fields line_fields item_bits
    line-packs k vs h =
        ap (write_fields packed (item_fields W k)) (line-values vs)
        ∙ ap (λ l. l ++ write_fields packed (line_fields W k) (name_values n ++ (bit v ∷ bit t ∷ r ∷ vs))) (flag-bits true)
        ∙ ap (λ l. true ∷ l)
        (name-means.packs (from_virtual k) n (bit v ∷ bit t ∷ r ∷ vs) h.type
        ∙ ap (λ l. name_bits n ++ l)
        (flag-means.packs (from_trait k) v (bit t ∷ r ∷ vs) tt
        ∙ ap (λ l. v ∷ l) (flag-means.packs (word_fields W k) t (r ∷ vs) tt ∙ ap (λ l. t ∷ l) (word-means.packs k r vs h.word)))
        ∙ sym (append_assoc (name_bits n) (v ∷ t ∷ to_bits 8 r) (write_fields packed k vs)))

  line-only : (k : Fields) (us : List ℕ) → Allowed (line_fields W k) us → Begun item_values (LegalItem W) k (1 ∷ us)
  unfolding line_fields
  line-only k us a =
      let n = name-means.only (from_virtual k) us a in
      let v = flag-means.only (from_trait k) n.rest n.allowed in
      let t = flag-means.only (word_fields W k) v.rest v.allowed in
      let r = word-means.only k t.rest t.allowed in
      record {
        x = extension n.x v.x t.x r.x;
        rest = r.rest;
        legal = record { type = n.legal; word = r.legal };
        begins =
            ap (λ l. 1 ∷ l)
            (n.begins
            ∙ ap (λ l. name_values n.x ++ l) (v.begins ∙ ap (λ l. bit v.x ∷ l) (t.begins ∙ ap (λ l. bit t.x ∷ l) r.begins)))
            ∙ sym (line-values n.x v.x t.x r.x r.rest);
        allowed = r.allowed;
      }

  made-sound : (k : Fields) → Sound k → Sound (made_fields W k)
  unfolding made_fields
  made-sound k s =
      name-means.sound (from_word k)
      (word-means.sound (from_flag k) (flag-means.sound (from_parents k) (parents-means.sound (marks_fields k) (marks-means.sound k s))))

  line-sound : (k : Fields) → Sound k → Sound (line_fields W k)
  unfolding line_fields
  line-sound k s = name-means.sound (from_virtual k) (flag-means.sound (from_trait k) (flag-means.sound (word_fields W k) (word-means.sound k s)))

  item-means : Means (item_fields W) item_values item_bits (LegalItem W)
  unfolding Allowed Sound item_fields
  item-means = record { sound = sound; lets = lets; only = only; packs = packs }
    where
      sound : (k : Fields) → Sound k → Sound (item_fields W k)
      sound k s = (omega arith, omega arith, omega arith, go)
        where
          go : (v : ℕ) → v ≤ 1 → Sound (pick v (line_fields W k) (made_fields W k))
          go zero h = made-sound k s
          go (suc v) h = line-sound k s

      lets : (k : Fields) (x : Item) (vs : List ℕ) → LegalItem W x → Allowed k vs → Allowed (item_fields W k) (item_values x ++ vs)
      lets k (synthesized n r v ps ms) vs h a = made-lets n r v ps ms k vs h a
      lets k (extension n v t r) vs h a = line-lets n v t r k vs h a

      only : (k : Fields) (us : List ℕ) → Allowed (item_fields W k) us → Begun item_values (LegalItem W) k us
      only k [] a = absurd a
      only k (zero ∷ us) a = made-only k us a.2
      only k (suc zero ∷ us) a = line-only k us a.2
      only k (suc (suc v) ∷ us) a = absurd (omega (arith, a.1))

      packs : (k : Fields) (x : Item) (vs : List ℕ) → LegalItem W x → write_fields packed (item_fields W k) (item_values x ++ vs) ≡ item_bits x ++ write_fields packed k vs
      packs k (synthesized n r v ps ms) vs h = made-packs n r v ps ms k vs h
      packs k (extension n v t r) vs h = line-packs n v t r k vs h

  -- ---- a schedule

  abbrev from_items : Fields
  from_items = field item_count_bits 0 most_items (λ x. times x (item_fields W) end)

  names-means : Means (λ k. field 7 0 most_names (λ n. times n (name_fields W) k)) (counted_values name_values) (counted_bits 7 name_bits) (Counted 0 most_names (LegalName W))
  names-means = counted-means name-means 7 0 most_names (omega arith) (omega arith) (omega arith)

  items-means : Means (λ k. field item_count_bits 0 most_items (λ x. times x (item_fields W) k)) (counted_values item_values) (counted_bits item_count_bits item_bits)
      (Counted 0 most_items (LegalItem W))
  items-means = counted-means item-means item_count_bits 0 most_items (omega arith) (omega arith) (omega arith)

  pub schedule-sound : Sound (schedule_fields W)
  unfolding Sound schedule_fields
  schedule-sound = names-means.sound from_items (items-means.sound end tt)

  -- the values of a legal schedule are allowed
  pub legal-allowed : (s : Schedule) → LegalSchedule W s → Allowed (schedule_fields W) (schedule_values s)
  unfolding Allowed schedule_fields schedule_values
  legal-allowed s h =
      names-means.lets from_items s.order (counted_values item_values s.items) h.names
      (subst (Allowed from_items) (append-nil (counted_values item_values s.items)) (items-means.lets end s.items [] h.items tt))

  -- and no others are
  pub allowed-legal : (vs : List ℕ) → Allowed (schedule_fields W) vs → (s : Schedule) × (vs ≡ schedule_values s) × LegalSchedule W s
  unfolding Allowed schedule_fields schedule_values
  allowed-legal vs a =
      let ns = names-means.only from_items vs a in
      let xs = items-means.only end ns.rest ns.allowed in
      let e = nothing-more xs.rest xs.allowed in (
        record { order = ns.x; items = xs.x },
        ns.begins ∙ ap (λ l. counted_values name_values ns.x ++ l) (xs.begins ∙ ap (λ l. counted_values item_values xs.x ++ l) e ∙ append-nil (counted_values item_values xs.x)),
        record { width = width; names = ns.legal; items = xs.legal },
      )

  -- packed, they are the schedule's bits
  pub legal-packs : (s : Schedule) → LegalSchedule W s → write_fields packed (schedule_fields W) (schedule_values s) ≡ schedule_bits s
  unfolding write_fields schedule_fields schedule_values schedule_bits order_bits
  legal-packs s h =
      let xs = counted_values item_values s.items in
      names-means.packs from_items s.order xs h.names
      ∙ ap (λ l. counted_bits 7 name_bits s.order ++ l)
      (ap (write_fields packed from_items) (sym (append-nil xs)) ∙ items-means.packs end s.items [] h.items ∙ append-nil (counted_bits item_count_bits item_bits s.items))
