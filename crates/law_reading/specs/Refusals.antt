-- The answer's number is that of the first refusal that holds.
use Rattle.std.specs.Prelude.{Bool, true, false, cond, List, [], ◌∷◌, ◌++◌, ◌↔◌, ◌≡◌, refl, ℕ, eqb}
use Rattle.std.proofs.Common.{sym, ap, ◌∙◌, eqb-true}
use Rattle.std.proofs.lemmas.Bool.{eqb-false}
use Rattle.lists.specs.Lists.{any, repeats}
use Rattle.lists.specs.Tests.{by, never, or-false-left, or-false-right}
use Rattle.definitions.specs.Answer.{Input, Refusal, reject, accept, first_refusal}
use Rattle.law_orders.specs.Alike.{first-passed}
use Rattle.law_reading.specs.Statements.{NoneHolds, before, refusal_of}

-- none of them has the number n
abbrev pub NoneNumbered : ℕ → List Refusal → Type 0
NoneNumbered n l = any (λ (q : Refusal). eqb q.number n) l ≡ false

pub first_holds : (i : Input) (r : Refusal) (l : List Refusal) → r.holds tt ≡ true → (first_refusal i (r ∷ l)).answer.number ≡ r.number
unfolding first_refusal reject
first_holds i r l e = ap (λ o. o.answer.number) (Rattle.law_orders.specs.Alike.first_holds i r l e)

-- those that do not hold are passed
pub all_pass : (i : Input) (before l : List Refusal) → NoneHolds before → first_refusal i (before ++ l) ≡ first_refusal i l
all_pass i [] l h = refl
all_pass i (q ∷ before) l h = first-passed i q (before ++ l) h.0 ∙ all_pass i before l h.1

-- a number that none of them has, and that is not acceptance, is not answered
not-answered : (i : Input) (n : ℕ) (l : List Refusal) → eqb 0 n ≡ false → NoneNumbered n l → (first_refusal i l).answer.number ≡ n → ⊥
unfolding first_refusal accept
not-answered i n [] z h e = eqb-false 0 n z e
not-answered i n (q ∷ l) z h e =
    by (q.holds tt)
    (λ p. eqb-false q.number n (or-false-left (eqb q.number n) (any (λ (q : Refusal). eqb q.number n) l) h) (sym (first_holds i q l p) ∙ e))
    (λ p. not-answered i n l z (or-false-right (eqb q.number n) (any (λ (q : Refusal). eqb q.number n) l) h) (sym (ap (λ o. o.answer.number) (first-passed i q l p)) ∙ e))

-- no number is 0, and no two are equal
pub record Numbered (l : List Refusal) : Type 0 where
  pub positive : any (λ (q : Refusal). eqb 0 q.number) l ≡ false
  pub apart : repeats (λ (r q : Refusal). eqb q.number r.number) l ≡ false

numbered-first : (r : Refusal) (l : List Refusal) → Numbered (r ∷ l) → (eqb 0 r.number ≡ false) × NoneNumbered r.number l
numbered-first r l d = (
  or-false-left (eqb 0 r.number) (any (λ (q : Refusal). eqb 0 q.number) l) d.positive,
  or-false-left (any (λ (q : Refusal). eqb q.number r.number) l) (repeats (λ (r q : Refusal). eqb q.number r.number) l) d.apart,
)

numbered-rest : (r : Refusal) (l : List Refusal) → Numbered (r ∷ l) → Numbered l
numbered-rest r l d = record {
  positive = or-false-right (eqb 0 r.number) (any (λ (q : Refusal). eqb 0 q.number) l) d.positive;
  apart = or-false-right (any (λ (q : Refusal). eqb q.number r.number) l) (repeats (λ (r q : Refusal). eqb q.number r.number) l) d.apart;
}

-- the number n is answered exactly if its refusal holds and none before it does
pub answered : (i : Input) (n : ℕ) (l : List Refusal) → eqb 0 n ≡ false → Numbered l →
    ((first_refusal i l).answer.number ≡ n) ↔ (NoneHolds (before n l) × ((refusal_of n l).holds tt ≡ true))
unfolding first_refusal accept
answered i n [] z d = (λ e. absurd (eqb-false 0 n z e), λ h. never refl (sym h.1))
answered i n (r ∷ l) z d = go (eqb r.number n) refl (answered i n l z (numbered-rest r l d))
  where
    passed : r.holds tt ≡ false → (first_refusal i (r ∷ l)).answer.number ≡ (first_refusal i l).answer.number
    passed p = ap (λ o. o.answer.number) (first-passed i r l p)

    go : (b : Bool) → eqb r.number n ≡ b → ((first_refusal i l).answer.number ≡ n) ↔ (NoneHolds (before n l) × ((refusal_of n l).holds tt ≡ true)) →
        ((first_refusal i (r ∷ l)).answer.number ≡ n) ↔ (NoneHolds (cond b [] (r ∷ before n l)) × ((cond b r (refusal_of n l)).holds tt ≡ true))
    go true q ih =
        let same = eqb-true r.number n q in (
          λ e.
              by (r.holds tt)
              (λ p. (tt, p))
              (λ p. absurd (not-answered i n l z (rw same at (numbered-first r l d).1) (sym (passed p) ∙ e))),
          λ h. first_holds i r l h.1 ∙ same,
        )
    go false q ih = (
      λ e.
          by (r.holds tt)
          (λ p. absurd (eqb-false r.number n q (sym (first_holds i r l p) ∙ e)))
          (λ p. let t = ih.0 (sym (passed p) ∙ e) in ((p, t.0), t.1)),
      λ h. passed h.0.0 ∙ ih.1 (h.0.1, h.1),
    )

-- and then its refusal is the outcome
pub rejected : (i : Input) (n : ℕ) (l : List Refusal) → NoneHolds (before n l) → (refusal_of n l).holds tt ≡ true → first_refusal i l ≡ reject i (refusal_of n l)
rejected i n [] h e = never refl (sym e)
rejected i n (r ∷ l) h e = go (eqb r.number n) h e (rejected i n l)
  where
    go : (b : Bool) → NoneHolds (cond b [] (r ∷ before n l)) → (cond b r (refusal_of n l)).holds tt ≡ true →
        (NoneHolds (before n l) → (refusal_of n l).holds tt ≡ true → first_refusal i l ≡ reject i (refusal_of n l)) →
        first_refusal i (r ∷ l) ≡ reject i (cond b r (refusal_of n l))
    go true h e ih = Rattle.law_orders.specs.Alike.first_holds i r l e
    go false h e ih = first-passed i r l h.0 ∙ ih h.1 e

-- where none holds, that with the number n does not
pub passed : (n : ℕ) (l : List Refusal) → NoneHolds l → (refusal_of n l).holds tt ≡ false
passed n [] h = refl
passed n (r ∷ l) h = go (eqb r.number n) (passed n l h.1)
  where
    go : (b : Bool) → (refusal_of n l).holds tt ≡ false → (cond b r (refusal_of n l)).holds tt ≡ false
    go true e = h.0
    go false e = e

-- none of two lists holds, and so of either
pub none-append : (l k : List Refusal) → NoneHolds l → NoneHolds k → NoneHolds (l ++ k)
none-append [] k h g = g
none-append (r ∷ l) k h g = (h.0, none-append l k h.1 g)

pub none-front : (l k : List Refusal) → NoneHolds (l ++ k) → NoneHolds l
none-front [] k h = tt
none-front (r ∷ l) k h = (h.0, none-front l k h.1)

-- 0 is answered exactly if none holds
pub none-answered : (i : Input) (l : List Refusal) → any (λ (q : Refusal). eqb 0 q.number) l ≡ false → ((first_refusal i l).answer.number ≡ 0) ↔ NoneHolds l
unfolding first_refusal accept
none-answered i [] z = (λ e. tt, λ h. refl)
none-answered i (q ∷ l) z =
    let first = or-false-left (eqb 0 q.number) (any (λ (q : Refusal). eqb 0 q.number) l) z in
    let t = none-answered i l (or-false-right (eqb 0 q.number) (any (λ (q : Refusal). eqb 0 q.number) l) z) in (
      λ e.
          by (q.holds tt)
          (λ p. absurd (eqb-false 0 q.number first (sym e ∙ first_holds i q l p)))
          (λ p. (p, t.0 (sym (ap (λ o. o.answer.number) (first-passed i q l p)) ∙ e))),
      λ h. ap (λ o. o.answer.number) (first-passed i q l h.0) ∙ t.1 h.1,
    )
