-- Laws of going through fields: one form after the other, and a form many times.
use Rattle.std.specs.Prelude.{List, [], ◌∷◌, ◌++◌, ◌≡◌, refl, ℕ, ◌+◌, ◌*◌, ◌-◌, ◌≤◌, ◌<◌, length, drop, Option, None, Some, MatchOption, Result, Ok, Err, IsErrAnd, MatchResult}
use Rattle.std.specs.Iterator.{Yields}
use Rattle.std.specs.List.{FoldsTo}
use Rattle.std.specs.declared.ops.Range.{Range}
use Rattle.std.proofs.Common.{add-zero, append_assoc, sym, ◌∙◌, ap₂, subst, arith, length-append}
use Rattle.std.proofs.iter.Yields.{nat_range_steps}
use Rattle.std.proofs.Math.Path.{ap}
use Rattle.std.proofs.Math.Nat.{sub-zero}
use Rattle.std.proofs.lemmas.Result.{err_from_is_err_and}
use Rattle.lists.specs.Lists.{each}
use Rattle.lists.specs.Appending.{each_snoc}
use Rattle.definitions.specs.Bits.{bits_of}
use Rattle.definitions.specs.Parse.{Parsed, done, refused, next}
use Rattle.definitions.specs.Legal.{Every}
use Rattle.definitions.specs.ScheduleFields.{Fields, field, times, packed, unwritten, read_fields}
use Rattle.schedule_fields.specs.PlaceLaws.{times_none, times_more}
use Rattle.fields.specs.declared.Fault.{Fault}
use Rattle.schedule_walk.specs.Walking.{from, onto, Runs, Stops, Has, Lacks, Gone, Goes, Many}

onto-onto : (us vs : List ℕ) (x : Parsed (List ℕ)) → onto us (onto vs x) ≡ onto (us ++ vs) x
onto-onto us vs (done ws rest) = ap (λ (l : List ℕ). done l rest) (sym (append_assoc us vs ws))
onto-onto us vs (refused f) = refl

onto-none : (x : Parsed (List ℕ)) → onto [] x ≡ x
onto-none (done vs rest) = refl
onto-none (refused f) = refl

next-onto : (v : ℕ) (x : Parsed (List ℕ)) → next x (λ vs. λ q. done (v ∷ vs) q) ≡ onto (v ∷ []) x
next-onto v (done vs rest) = refl
next-onto v (refused f) = refl

-- ---- a field

-- one that is refused
pub field-stops : {n least most p : ℕ} {source : List ℕ} {f : Fault} → Lacks n least most source p f → (follow : Fields → ℕ → Fields)
    → Stops (λ k. field n least most (follow k)) source p f
unfolding from read_fields
field-stops h follow = record {
  same = λ k. ap (λ (x : Parsed ℕ). next x (λ v. λ b. next (read_fields packed unwritten (follow k v) 0 b) (λ vs. λ q. done (v ∷ vs) q))) h.same;
}

module _ {n least most p v : ℕ} {source : List ℕ} (h : Has n least most source p v) where
  -- one that is not, and what follows its value
  field-goes : (follow : ℕ → Fields) → from (field n least most follow) source p ≡ onto (v ∷ []) (from (follow v) source (p + n))
  unfolding from read_fields
  field-goes follow =
      ap (λ (x : Parsed ℕ). next x (λ v. λ b. next (read_fields packed unwritten (follow v) 0 b) (λ vs. λ q. done (v ∷ vs) q))) h.same
      ∙ next-onto v (read_fields packed unwritten (follow v) 0 (drop (p + n) (bits_of source)))

  pub field-runs : (G : ℕ → Fields → Fields) {us : List ℕ} {q : ℕ} → Runs (G v) us source (p + n) q
      → Runs (λ k. field n least most (λ v. G v k)) (v ∷ us) source p q
  field-runs G {us} {q} g = record {
    same = λ k.
        field-goes (λ v. G v k)
        ∙ ap (onto (v ∷ [])) (g.same k)
        ∙ onto-onto (v ∷ []) us (from k source q);
  }

  pub field-then-stops : (G : ℕ → Fields → Fields) {f : Fault} → Stops (G v) source (p + n) f → Stops (λ k. field n least most (λ v. G v k)) source p f
  field-then-stops G g = record { same = λ k. field-goes (λ v. G v k) ∙ ap (onto (v ∷ [])) (g.same k) }

-- what a `?` hands back
pub stopped : {T : Type 0} {F : Fields → Fields} {source : List ℕ} {p : ℕ} {f : Fault} (r : Result T Fault) (P : T → Type 0) → IsErrAnd r (λ e. e ≡ f)
    → Stops F source p f → MatchResult r P (λ e. Stops F source p e)
stopped r P h s = let q = err_from_is_err_and r h in rw (q.1, q.2) s

-- ---- one form after the other

pub none_runs : (source : List ℕ) (p : ℕ) → Runs (λ k. k) [] source p p
none_runs source p = record { same = λ k. sym (onto-none (from k source p)) }

module _ {F G : Fields → Fields} {source : List ℕ} {p : ℕ} where
  pub then_runs : {us vs : List ℕ} {q r : ℕ} → Runs F us source p q → Runs G vs source q r → Runs (λ k. F (G k)) (us ++ vs) source p r
  then_runs {us} {vs} {q} {r} f g = record {
    same = λ k. f.same (G k) ∙ ap (onto us) (g.same k) ∙ onto-onto us vs (from k source r);
  }

  pub first_stops : {e : Fault} → Stops F source p e → Stops (λ k. F (G k)) source p e
  first_stops f = record { same = λ k. f.same (G k) }

  pub then-stops : {us : List ℕ} {q : ℕ} {e : Fault} → Runs F us source p q → Stops G source q e → Stops (λ k. F (G k)) source p e
  then-stops {us} f g = record { same = λ k. f.same (G k) ∙ ap (onto us) (g.same k) }

-- values that are written otherwise
pub runs_as : {F : Fields → Fields} {us vs source : List ℕ} {p q : ℕ} → us ≡ vs → Runs F us source p q → Runs F vs source p q
runs_as {F} {us} {vs} {source} {p} {q} e g = subst (λ l. Runs F l source p q) e g

-- ---- a form many times

module _ {A : Type 0} (F : Fields → Fields) (values : A → List ℕ) (ok : A → Type 0) (bits n : ℕ) (source : List ℕ) (p : ℕ) where
  -- Behind i of n: these stand there, and the others follow.
  pub record Been (i q : ℕ) (xs : List A) : Type 0 where
    pub many : Many ok i xs
    pub same : (k : Fields) → from (times n F k) source p ≡ onto (each values xs) (from (times (n - i) F k) source q)
    pub few : q ≤ p + i * bits

  pub been-none : Been 0 p []
  been-none = record {
    many = (refl, tt);
    same = λ k. ap (λ (i : ℕ). from (times i F k) source p) (sym (sub-zero n)) ∙ sym (onto-none (from (times (n - 0) F k) source p));
    few = omega arith;
  }

  every-snoc : (l : List A) (x : A) → Every ok l → ok x → Every ok (l ++ x ∷ [])
  every-snoc [] x h o = (o, tt)
  every-snoc (y ∷ l) x h o = (h.0, every-snoc l x h.1 o)

  module _ (i q : ℕ) (xs : List A) (b : Been i q xs) (l : i < n) where
    -- the form of the next one
    next_one : (k : Fields) → from (times n F k) source p ≡ onto (each values xs) (from (F (times (n - i - 1) F k)) source q)
    next_one k = b.same k ∙ ap (λ (f : Fields). onto (each values xs) (from f source q)) (times_more (n - i) F k (omega arith))

    pub been-stops : {f : Fault} → Stops F source q f → Stops (times n F) source p f
    been-stops s = record { same = λ k. next_one k ∙ ap (onto (each values xs)) (s.same (times (n - i - 1) F k)) }

    pub been-more : (r : ℕ) (g : Gone F values ok bits source q r) → Been (i + 1) r (xs ++ g.x ∷ [])
    been-more r g = record {
      many = (length-append xs (g.x ∷ []) ∙ ap (λ (j : ℕ). j + 1) b.many.0, every-snoc xs g.x b.many.1 g.fine);
      same = λ k.
          next_one k
          ∙ ap (onto (each values xs)) (g.runs.same (times (n - i - 1) F k))
          ∙ onto-onto (each values xs) (values g.x) (from (times (n - i - 1) F k) source r)
          ∙ ap₂ (λ (us : List ℕ) (j : ℕ). onto us (from (times j F k) source r)) (sym (each_snoc values xs g.x)) (omega arith);
      few = omega (arith, g.few, b.few);
    }

  -- all stand there
  pub been-runs : (i q : ℕ) (xs : List A) → n ≤ i → i ≤ n → Been i q xs → Many ok n xs × Runs (times n F) (each values xs) source p q × (q ≤ p + n * bits)
  been-runs i q xs h l b =
      let e : i ≡ n = omega arith in (
        subst (λ (j : ℕ). Many ok j xs) e b.many,
        record { same = λ k. b.same k ∙ ap (λ (f : Fields). onto (each values xs) (from f source q)) (times_none (n - i) F k (omega arith)) },
        subst (λ (j : ℕ). q ≤ p + j * bits) e b.few,
      )

  pub been-all : (i q : ℕ) (xs : List A) → n ≤ i → i ≤ n → Been i q xs → Gone (times n F) (each values) (Many ok n) (n * bits) source p q
  been-all i q xs h l b = let t = been-runs i q xs h l b in record { x = xs; fine = t.0; runs = t.1; few = t.2 }

  -- behind the numbers that a fold was given, where each turn goes through the form once
  module _ {C : Type 0} (f : C) (R : C × ℕ → ℕ → C × ℕ → Type 0)
      (turn : (s t : C × ℕ) (x : ℕ) → R s x t → s.0 ≡ f → (t.0 ≡ f) × Gone F values ok bits source s.1 t.1) where
    folded_from : (is : List ℕ) (s t : C × ℕ) (i : ℕ) (xs : List A) → i + length is ≤ n → s.0 ≡ f → Been i s.1 xs → FoldsTo R s is t
        → (t.0 ≡ f) × (ys : List A) × Been (i + length is) t.1 ys
    folded_from [] s t i xs l e b h =
        (ap (λ (z : C × ℕ). z.0) (sym h) ∙ e, xs, subst (λ (z : C × ℕ). Been (i + 0) z.1 xs) h (subst (λ (j : ℕ). Been j s.1 xs) (sym (add-zero i)) b))
    folded_from (j ∷ is) s t i xs l e b h =
        let o = turn s h.0 j h.1 e in
        let r = folded_from is h.0 t (i + 1) (xs ++ o.1.x ∷ []) (omega arith) o.0 (been-more i s.1 xs b (omega arith) h.0.1 o.1) h.2 in
        (r.0, r.1, subst (λ (k : ℕ). Been k t.1 r.1) (omega arith) r.2)

    pub folded : (is : List ℕ) (t : C × ℕ) → length is ≤ n → FoldsTo R (f, p) is t → (t.0 ≡ f) × (ys : List A) × Been (length is) t.1 ys
    folded is t l h = let r = folded_from is (f, p) t 0 [] (omega arith) refl been-none h in (r.0, r.1, subst (λ (k : ℕ). Been k t.1 r.1) (omega arith) r.2)

  -- what such a fold answers
  pub told : (o : Option ℕ) (r : Result ℕ Fault) (i gap from_here to_here q : ℕ) (xs : List A) (Z : ℕ → Type 0) → i + gap ≡ n → Been i q xs
      → MatchOption o ((gap ≡ 0) × (to_here ≡ from_here)) (λ x. (0 < gap) × (x ≡ from_here) × (to_here ≡ from_here + 1)) → MatchOption o (r ≡ Ok q) Z
      → ((x : ℕ) → Z x → (e : Fault) × (r ≡ Err e) × Stops F source q e) → Goes (times n F) (each values) (Many ok n) (n * bits) source p r
  told None r i gap from_here to_here q xs Z l b g z stop = rw z (been-all i q xs (omega (arith, g.0)) (omega arith) b)
  told (Some x) r i gap from_here to_here q xs Z l b g z stop = let e = stop x z in rw e.1 (been-stops i q xs b (omega (arith, g.0)) e.2)

-- a range that has given so many numbers
pub ranged : (is : List ℕ) (s t : Range ℕ) → Yields nat_range_steps s is t → length is + (t.end - t.start) ≡ s.end - s.start
ranged [] s t y = omega (arith, ap (λ (r : Range ℕ). r.end - r.start) y)
ranged (j ∷ is) s t y = omega (arith, ranged is y.0 t y.2, y.1.0, y.1.1.0, y.1.1.2)
