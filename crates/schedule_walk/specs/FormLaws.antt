-- Laws of the forms of a schedule's fields: each is gone through as its parts are.
use Rattle.std.specs.Prelude.{cond, ◌≡◌, ℕ, zero, suc, ◌+◌, ◌*◌, ◌-◌, ◌≤◌, ◌<◌, eqb, length, Result, Ok, Err}
use mathlib.Core.List.{List, [], ◌∷◌, ◌++◌, append_assoc}
use Rattle.std.proofs.Math.Path.{refl, ap, ap₂, subst}
use Rattle.std.proofs.Common.{sym, ◌∙◌, mul-le-mul_right}
use native.Mathlib.Omega.{arith}
use Rattle.lists.specs.Lists.{each}
use Rattle.lists.specs.Appending.{each-one, map-self}
use Rattle.definitions.specs.Bits.{bit}
use Rattle.definitions.specs.Records.{Name, makelist_mark, derive_mark, synthesized, extension}
use Rattle.definitions.specs.Legal.{Every}
use Rattle.definitions.specs.LegalSchedule.{most_names, most_parents, most_marks, most_parent_words}
use Rattle.definitions.specs.ScheduleFields.{Fields, field, times, pick, flag_fields, word_fields, name_fields, parent_fields, mark_fields, marks_fields, made_fields, line_fields, item_fields}
use Rattle.definitions.specs.Values.{counted_values, name_values, parent_values, mark_values, item_values}
use Rattle.tariff_definitions.specs.DecodedLaws.{OneOrTwo}
use Rattle.schedule_fields.specs.declared.Rule.{Rule}
use Rattle.schedule_fields.specs.Places.{RuleOf, width_of, least_of, most_of}
use Rattle.fields.specs.declared.Fault.{Fault}
use Rattle.schedule_walk.specs.declared.Entry.{Entry}
use Rattle.schedule_walk.specs.declared.Sort.{Sort}
use Rattle.schedule_walk.specs.Sorts.{number_of}
use Rattle.schedule_walk.specs.Walking.{from, Runs, Stops, Has, Lacks, Reads, Gone, Goes, GoneItem, GoesItem, one, Anything, Many, named_values, NamedWord, listed_values, ManyParents, names_fields, name_bits, parent_bits, mark_bits, marks_bits, line_bits, made_bits, item_bits, names_bits}
use Rattle.schedule_walk.specs.WalkingLaws.{field-stops, field-runs, field-then-stops, none_runs, then_runs, first_stops, then-stops, runs_as}

-- ---- parts

-- a field by a rule that is known
pub has-rule : {r : Rule} {f : Fields} {source : List ℕ} {p v : ℕ} → RuleOf r f → Has r.width r.least r.most source p v
    → Has (width_of f) (least_of f) (most_of f) source p v
has-rule {r} {f} {source} {p} {v} e h = rw (← e.width, ← e.least, ← e.most) h

pub lacks-rule : {r : Rule} {f : Fields} {source : List ℕ} {p : ℕ} {e : Fault} → RuleOf r f → Lacks r.width r.least r.most source p e
    → Lacks (width_of f) (least_of f) (most_of f) source p e
lacks-rule {r} {f} {source} {p} {e} i h = rw (← i.width, ← i.least, ← i.most) h

pub reads-rule : {r : Rule} {f : Fields} (source : List ℕ) (p : ℕ) (m : Result ℕ Fault) → RuleOf r f → Reads r.width r.least r.most source p m
    → Reads (width_of f) (least_of f) (most_of f) source p m
reads-rule source p m e h = rw (← e.width, ← e.least, ← e.most) h

-- a flag has a bit's value
bit-flag : (v : ℕ) → v ≤ 1 → bit (eqb v 1) ≡ v
bit-flag zero l = refl
bit-flag (suc zero) l = refl
bit-flag (suc (suc v)) l = absurd (omega arith)

pub has-flag : {source : List ℕ} {p v : ℕ} → Has 1 0 1 source p v → Has 1 0 1 source p (bit (eqb v 1))
has-flag {source} {p} {v} h = rw (bit-flag v h.few) h

-- the values by another name
pub gone-as : {A : Type 0} {F : Fields → Fields} {f g : A → List ℕ} {ok : A → Type 0} {b p q : ℕ} {source : List ℕ}
    → ((x : A) → f x ≡ g x) → Gone F f ok b source p q → Gone F g ok b source p q
gone-as e h = record { x = h.x; fine = h.fine; runs = runs_as (e h.x) h.runs; few = h.few }

-- from the same bit on
pub gone-from : {A : Type 0} {F : Fields → Fields} {f : A → List ℕ} {ok : A → Type 0} {b i j q : ℕ} {source : List ℕ}
    → i ≡ j → Gone F f ok b source i q → Gone F f ok b source j q
gone-from {F = F} {f = f} {ok = ok} {b = b} {q = q} {source = source} e h = subst (λ (i : ℕ). Gone F f ok b source i q) e h

pub stops-from : {F : Fields → Fields} {i j : ℕ} {source : List ℕ} {e : Fault} → i ≡ j → Stops F source i e → Stops F source j e
stops-from {F} {source = source} {e = e} d h = subst (λ (i : ℕ). Stops F source i e) d h

-- more bits
pub gone-within : {A : Type 0} {F : Fields → Fields} {f : A → List ℕ} {ok : A → Type 0} {b c p q : ℕ} {source : List ℕ}
    → b ≤ c → Gone F f ok b source p q → Gone F f ok c source p q
gone-within l h = record { x = h.x; fine = h.fine; runs = h.runs; few = omega (arith, h.few, l) }

-- two forms, one behind the other
pub both-gone : {A B : Type 0} {F G : Fields → Fields} {f : A → List ℕ} {g : B → List ℕ} {ok : A → Type 0} {fine : B → Type 0} {b c p q r : ℕ} {source : List ℕ}
    → Gone F f ok b source p q → Gone G g fine c source q r
    → Gone (λ k. F (G k)) (λ (x : A × B). f x.0 ++ g x.1) (λ (x : A × B). ok x.0 × fine x.1) (b + c) source p r
both-gone h k = record { x = (h.x, k.x); fine = (h.fine, k.fine); runs = then_runs h.runs k.runs; few = omega (arith, h.few, k.few) }

pub both-goes : {A B : Type 0} {F : Fields → Fields} (G : Fields → Fields) {f : A → List ℕ} (g : B → List ℕ) {ok : A → Type 0} (fine : B → Type 0) {b : ℕ} (c d : ℕ) {p q : ℕ} {source : List ℕ}
    → b + c ≤ d → Gone F f ok b source p q → (r : Result ℕ Fault) → Goes G g fine c source q r
    → Goes (λ k. F (G k)) (λ (x : A × B). f x.0 ++ g x.1) (λ (x : A × B). ok x.0 × fine x.1) d source p r
both-goes G g fine c d l h (Ok r) k = gone-within l (both-gone h k)
both-goes G g fine c d l h (Err e) s = then-stops h.runs s

-- ---- counted forms

module _ {A : Type 0} (F : Fields → Fields) (values : A → List ℕ) (ok : A → Type 0) (n least most : ℕ) (source : List ℕ) (p : ℕ) where
  abbrev counted_form : Fields → Fields
  counted_form k = field n least most (λ c. times c F k)

  pub counted-gone : (v : ℕ) → Has n least most source p v → (b q : ℕ) → Gone (times v F) (each values) (Many ok v) (v * b) source (p + n) q
      → Gone counted_form (counted_values values) (Every ok) (n + most * b) source p q
  counted-gone v h b q g =
      let e : v * b ≤ most * b = mul-le-mul_right b h.few in
      record {
        x = g.x;
        fine = g.fine.1;
        runs = runs_as (ap (λ (c : ℕ). c ∷ each values g.x) (sym g.fine.0)) (field-runs h (λ c. times c F) g.runs);
        few = omega (arith, g.few, e);
      }

-- ---- words, names

pub word-gone : (w : ℕ) (source : List ℕ) (p v : ℕ) → Has 8 0 (w - 1) source p v → Gone (word_fields w) one Anything 8 source p (p + 8)
word-gone w source p v h = record { x = v; fine = tt; runs = field-runs h (λ v k. k) (none_runs source (p + 8)); few = omega arith }

-- behind a flag
pick-none : (F : Fields → Fields) (source : List ℕ) (p v : ℕ) → v ≡ 0 → Runs (λ k. pick v (F k) k) [] source p p
pick-none F source p zero e = none_runs source p
pick-none F source p (suc v) e = absurd (omega arith)

pick-runs : {F : Fields → Fields} {us source : List ℕ} {p q : ℕ} (v : ℕ) → 0 < v → Runs F us source p q → Runs (λ k. pick v (F k) k) us source p q
pick-runs zero z g = absurd (omega arith)
pick-runs (suc v) z g = g

pick-stops : {F : Fields → Fields} {source : List ℕ} {p : ℕ} {e : Fault} (v : ℕ) → 0 < v → Stops F source p e → Stops (λ k. pick v (F k) k) source p e
pick-stops zero z g = absurd (omega arith)
pick-stops (suc v) z g = g

module _ (w : ℕ) (source : List ℕ) (p : ℕ) where
  pub name-first : {e : Fault} → Stops (word_fields w) source p e → Stops (name_fields w) source p e
  unfolding name_fields
  name-first s = first_stops s

  module _ (at : ℕ) (g : Gone (word_fields w) one Anything 8 source p at) where
    pub name-flag : {e : Fault} → Lacks 1 0 1 source at e → Stops (name_fields w) source p e
    unfolding name_fields
    name-flag h = then-stops g.runs (field-stops h (λ k b. pick b (word_fields w k) k))

    module _ (v : ℕ) (h : Has 1 0 1 source at v) where
      pub name-one : v ≡ 0 → Gone (name_fields w) name_values OneOrTwo name_bits source p (at + 1)
      unfolding name_fields name_values
      name-one e = record {
        x = g.x ∷ [];
        fine = (omega arith, omega arith);
        runs = runs_as (ap (λ (v : ℕ). g.x ∷ v ∷ []) e) (then_runs g.runs (field-runs h (λ b k. pick b (word_fields w k) k) (pick-none (word_fields w) source (at + 1) v e)));
        few = omega (arith, g.few);
      }

      pub name-two : 0 < v → (r : Result ℕ Fault) → Goes (word_fields w) one Anything 8 source (at + 1) r → Goes (name_fields w) name_values OneOrTwo name_bits source p r
      unfolding name_fields name_values
      name-two z (Ok q) u =
          let e : v ≡ 1 = omega (arith, h.few) in
          record {
            x = g.x ∷ u.x ∷ [];
            fine = (omega arith, omega arith);
            runs = runs_as (ap (λ (v : ℕ). g.x ∷ v ∷ u.x ∷ []) e) (then_runs g.runs (field-runs h (λ b k. pick b (word_fields w k) k) (pick-runs v z u.runs)));
            few = omega (arith, g.few, u.few);
          }
      name-two z (Err f) s = then-stops g.runs (field-then-stops h (λ b k. pick b (word_fields w k) k) (pick-stops v z s))

-- ---- parents and marks

words-listed : (p : Name) → each one p ≡ p
words-listed p = each-one (λ w. w) p ∙ map-self (λ w. w) p (λ w i. refl)

module _ (w : ℕ) (source : List ℕ) (p : ℕ) where
  pub parent-stops : {e : Fault} → Lacks 2 1 most_parent_words source p e → Stops (parent_fields w) source p e
  unfolding parent_fields
  parent-stops h = field-stops h (λ k c. times c (word_fields w) k)

  pub parent-goes : (v : ℕ) → Has 2 1 most_parent_words source p v → (i : ℕ) → i ≡ p + 2 → (r : Result ℕ Fault)
      → Goes (times v (word_fields w)) (each one) (Many Anything v) (v * 8) source i r → Goes (parent_fields w) parent_values Anything parent_bits source p r
  unfolding parent_fields parent_values
  parent-goes v h i e (Ok q) g =
      let c = gone-as (λ (x : Name). ap (λ (l : List ℕ). length x ∷ l) (words-listed x)) (counted-gone (word_fields w) one Anything 2 1 most_parent_words source p v h 8 q (gone-from e g)) in
      record { x = c.x; fine = tt; runs = c.runs; few = c.few }
  parent-goes v h i e (Err f) s = field-then-stops h (λ c. times c (word_fields w)) (stops-from e s)

pub names-stops : (w : ℕ) (source : List ℕ) {e : Fault} → Lacks 7 0 most_names source 0 e → Stops (names_fields w) source 0 e
names-stops w source h = field-stops h (λ k c. times c (name_fields w) k)

pub names-goes : (w : ℕ) (source : List ℕ) (v : ℕ) → Has 7 0 most_names source 0 v → (i : ℕ) → i ≡ 7 → (r : Result ℕ Fault)
    → Goes (times v (name_fields w)) (each name_values) (Many OneOrTwo v) (v * name_bits) source i r
    → Goes (names_fields w) (counted_values name_values) (Every OneOrTwo) names_bits source 0 r
names-goes w source v h i e (Ok q) g = counted-gone (name_fields w) name_values OneOrTwo 7 0 most_names source 0 v h name_bits q (gone-from e g)
names-goes w source v h i e (Err f) s = field-then-stops h (λ c. times c (name_fields w)) (stops-from e s)

module _ (source : List ℕ) (p : ℕ) where
  pub mark-stops : {e : Fault} → Lacks 1 0 1 source p e → Stops mark_fields source p e
  unfolding mark_fields
  mark-stops h = field-stops h (λ k b. pick b (field 8 0 255 (λ t. k)) k)

  module _ (v : ℕ) (h : Has 1 0 1 source p v) where
    pub mark-plain : v ≡ 0 → Gone mark_fields mark_values Anything mark_bits source p (p + 1)
    unfolding mark_fields mark_values
    mark-plain e = record {
      x = makelist_mark;
      fine = tt;
      runs = runs_as (ap (λ (v : ℕ). v ∷ []) e) (field-runs h (λ b k. pick b (field 8 0 255 (λ t. k)) k) (pick-none (λ k. field 8 0 255 (λ t. k)) source (p + 1) v e));
      few = omega arith;
    }

    pub tag-stops : 0 < v → {e : Fault} → Lacks 8 0 255 source (p + 1) e → Stops mark_fields source p e
    unfolding mark_fields
    tag-stops z k = field-then-stops h (λ b k. pick b (field 8 0 255 (λ t. k)) k) (pick-stops v z (field-stops k (λ k t. k)))

    pub mark-tag : 0 < v → (t : ℕ) → Has 8 0 255 source (p + 1) t → (n : ℕ) → n ≡ 8 → Gone mark_fields mark_values Anything mark_bits source p (p + 1 + n)
    unfolding mark_fields mark_values
    mark-tag z t k n i =
        let e : v ≡ 1 = omega (arith, h.few) in
        record {
          x = derive_mark t;
          fine = tt;
          runs =
              runs_as (ap (λ (v : ℕ). v ∷ t ∷ []) e)
              (field-runs h (λ b k. pick b (field 8 0 255 (λ t. k)) k)
              (pick-runs v z (field-runs k (λ t k. k) (subst (λ (j : ℕ). Runs (λ k. k) [] source (p + 1 + 8) (p + 1 + j)) (sym i) (none_runs source (p + 1 + 8))))));
          few = omega (arith, i);
        }

  pub marks-stops : {e : Fault} → Lacks 9 0 most_marks source p e → Stops marks_fields source p e
  unfolding marks_fields
  marks-stops h = field-stops h (λ k c. times c mark_fields k)

  pub marks-goes : (v : ℕ) → Has 9 0 most_marks source p v → (i : ℕ) → i ≡ p + 9 → (r : Result ℕ Fault)
      → Goes (times v mark_fields) (each mark_values) (Many Anything v) (v * mark_bits) source i r
      → Goes marks_fields (counted_values mark_values) Anything marks_bits source p r
  unfolding marks_fields
  marks-goes v h i e (Ok q) g =
      let c = counted-gone mark_fields mark_values Anything 9 0 most_marks source p v h mark_bits q (gone-from e g) in
      record { x = c.x; fine = tt; runs = c.runs; few = c.few }
  marks-goes v h i e (Err f) s = field-then-stops h (λ c. times c mark_fields) (stops-from e s)

-- ---- items

sort-flag : (v : ℕ) → v ≤ 1 → cond (eqb v 1) 1 0 ≡ v
sort-flag zero l = refl
sort-flag (suc zero) l = refl
sort-flag (suc (suc v)) l = absurd (omega arith)

module _ (w : ℕ) (source : List ℕ) (p : ℕ) where
  abbrev head_form : Fields → Fields
  head_form k = name_fields w (word_fields w k)

  -- from the number of parents on
  abbrev rest_form : ℕ → Fields → Fields
  rest_form n k = times n (parent_fields w) (marks_fields k)

  abbrev count_form : Fields → Fields
  count_form k = field 5 2 most_parents (λ n. rest_form n k)

  pub made-head : {e : Fault} → Stops head_form source p e → Stops (made_fields w) source p e
  unfolding made_fields
  made-head s = first_stops s

  module _ (head : ℕ) (g : Gone head_form named_values NamedWord (name_bits + 8) source p head) where
    pub made-flag : {e : Fault} → Lacks 1 0 1 source head e → Stops (made_fields w) source p e
    unfolding made_fields
    made-flag h = then-stops g.runs (field-stops h (λ k b. count_form k))

    module _ (v : ℕ) (h : Has 1 0 1 source head v) where
      pub made-count : {e : Fault} → Lacks 5 2 most_parents source (head + 1) e → Stops (made_fields w) source p e
      unfolding made_fields
      made-count k = then-stops g.runs (field-then-stops h (λ b. count_form) (field-stops k (λ k n. rest_form n k)))

      module _ (c : ℕ) (k : Has 5 2 most_parents source (head + 1) c) where
        pub made-rest : {e : Fault} → Stops (rest_form c) source (head + 1 + 5) e → Stops (made_fields w) source p e
        unfolding made_fields
        made-rest s = then-stops g.runs (field-then-stops h (λ b. count_form) (field-then-stops k rest_form s))

        pub made-gone : (s : Sort) → number_of s ≡ v → (q : ℕ) → Gone (rest_form c) listed_values (ManyParents c) (most_parents * parent_bits + marks_bits) source (head + 1 + 5) q
            → GoneItem (made_fields w) (0 ∷ []) made_bits source p (record { at = q; sort = s; parents = c })
        unfolding made_fields item_values
        made-gone s e q t = record {
          x = synthesized g.x.0 g.x.1 (eqb v 1) t.x.0 t.x.1;
          found = record { named = g.fine.0; sorted = sort-flag v h.few ∙ sym e; counted = t.fine.0.0 };
          us = named_values g.x ++ (v ∷ c ∷ listed_values t.x);
          led =
              ap (λ (l : List ℕ). 0 ∷ l)
              (append_assoc (name_values g.x.0) (g.x.1 ∷ []) (v ∷ c ∷ listed_values t.x)
              ∙ ap₂ (λ (i j : ℕ). name_values g.x.0 ++ (g.x.1 ∷ i ∷ j ∷ listed_values t.x)) (sym (bit-flag v h.few)) (sym t.fine.0.0));
          runs = then_runs g.runs (field-runs h (λ b. count_form) (field-runs k rest_form t.runs));
          few = omega (arith, g.few, t.few);
          counted = omega (arith, k.few);
        }

  -- from the trait of an extension line on, and from its flag
  abbrev trait_form : Fields → Fields
  trait_form k = flag_fields (λ t. word_fields w k)

  abbrev virtual_form : Fields → Fields
  virtual_form k = flag_fields (λ v. trait_form k)

  pub line-name : {e : Fault} → Stops (name_fields w) source p e → Stops (line_fields w) source p e
  unfolding line_fields
  line-name s = first_stops s

  module _ (named : ℕ) (g : Gone (name_fields w) name_values OneOrTwo name_bits source p named) where
    pub line-flag : {e : Fault} → Lacks 1 0 1 source named e → Stops (line_fields w) source p e
    unfolding line_fields
    line-flag h = then-stops g.runs (field-stops h (λ k b. trait_form k))

    module _ (v : ℕ) (h : Has 1 0 1 source named v) where
      pub line-trait : {e : Fault} → Lacks 1 0 1 source (named + 1) e → Stops (line_fields w) source p e
      unfolding line_fields
      line-trait k = then-stops g.runs (field-then-stops h (λ b. trait_form) (field-stops k (λ k n. word_fields w k)))

      module _ (t : ℕ) (k : Has 1 0 1 source (named + 1) t) where
        pub line-word : {e : Fault} → Stops (word_fields w) source (named + 1 + 1) e → Stops (line_fields w) source p e
        unfolding line_fields
        line-word s = then-stops g.runs (field-then-stops h (λ b. trait_form) (field-then-stops k (λ n. word_fields w) s))

        pub line-gone : (q : ℕ) → Gone (word_fields w) one Anything 8 source (named + 1 + 1) q
            → GoneItem (line_fields w) (1 ∷ []) line_bits source p (record { at = q; sort = Sort.Line; parents = 0 })
        unfolding line_fields item_values
        line-gone q u = record {
          x = extension g.x (eqb v 1) (eqb t 1) u.x;
          found = record { named = g.fine; sorted = refl; counted = refl };
          us = name_values g.x ++ (v ∷ t ∷ u.x ∷ []);
          led = ap₂ (λ (i j : ℕ). 1 ∷ name_values g.x ++ (i ∷ j ∷ u.x ∷ [])) (sym (bit-flag v h.few)) (sym (bit-flag t k.few));
          runs = then_runs g.runs (field-runs h (λ b. trait_form) (field-runs k (λ n. word_fields w) u.runs));
          few = omega (arith, g.few, u.few);
          counted = omega arith;
        }

  pub item-lead : {e : Fault} → Lacks 1 0 1 source p e → Stops (item_fields w) source p e
  unfolding item_fields
  item-lead h = field-stops h (λ k b. pick b (line_fields w k) (made_fields w k))

  module _ (v : ℕ) (h : Has 1 0 1 source p v) where
    -- the form behind the lead bit
    abbrev lead_form : ℕ → Fields → Fields
    lead_form b k = pick b (line_fields w k) (made_fields w k)

    item-behind : (G : Fields → Fields) → ((k : Fields) → lead_form v k ≡ G k) → (lead : List ℕ) → v ∷ [] ≡ lead
        → (bits : ℕ) → bits ≤ made_bits → (r : Result Entry Fault) → GoesItem G lead bits source (p + 1) r → GoesItem (item_fields w) [] item_bits source p r
    unfolding item_fields
    item-behind G same lead e bits l (Ok q) g = record {
      x = g.x;
      found = g.found;
      us = v ∷ g.us;
      led = ap (λ (us : List ℕ). us ++ g.us) e ∙ g.led;
      runs = field-runs h lead_form (record { same = λ k. ap (λ (f : Fields). from f source (p + 1)) (same k) ∙ g.runs.same k });
      few = omega (arith, g.few);
      counted = g.counted;
    }
    item-behind G same lead e bits l (Err f) s =
        field-then-stops h lead_form (record { same = λ k. ap (λ (f : Fields). from f source (p + 1)) (same k) ∙ s.same k })

    pub item-made : v ≡ 0 → (r : Result Entry Fault) → GoesItem (made_fields w) (0 ∷ []) made_bits source (p + 1) r → GoesItem (item_fields w) [] item_bits source p r
    item-made e r g = item-behind (made_fields w) (λ k. ap (λ (b : ℕ). lead_form b k) e) (0 ∷ []) (ap (λ (b : ℕ). b ∷ []) e) made_bits (omega arith) r g

    pub item-line : 0 < v → (r : Result Entry Fault) → GoesItem (line_fields w) (1 ∷ []) line_bits source (p + 1) r → GoesItem (item_fields w) [] item_bits source p r
    item-line z r g =
        let e : v ≡ 1 = omega (arith, h.few) in
        item-behind (line_fields w) (λ k. ap (λ (b : ℕ). lead_form b k) e) (1 ∷ []) (ap (λ (b : ℕ). b ∷ []) e) line_bits (omega arith) r g
