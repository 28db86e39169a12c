-- The steps of the loops over annotations and over the resources that they list.
use Rattle.std.specs.Prelude.{Bool, true, false, ◌||◌, not, cond, List, [], ◌∷◌, ◌++◌, map, ◌≡◌, refl, ℕ, zero, suc, eqb}
use Rattle.std.proofs.Math.Bool.{or-false}
use Rattle.std.proofs.Common.{append-nil, sym, ap, ap₂, ◌∙◌, arith, eq-eqb, ne_eqb}
use Rattle.std.specs.Int.Bits.{bit_and, bit_or}
use Rattle.lists.specs.Lists.{any, repeats}
use Rattle.lists.specs.Tests.{never, same_test, and_left, and_right, and_both, any-in, any_of}
use Rattle.lists.specs.Appending.{any_append}
use Rattle.rows.specs.Rows.{has_bit}
use Rattle.rows.specs.RowLaws.{bit-either, bit-none}
use Rattle.definitions.specs.Checks.{resources_of}
use Rattle.definitions.specs.Items.{associate_of}
use Rattle.law_classes.specs.Numbers.{bit-both}
use Rattle.sheet_records.specs.Annotations.{resource_of, annotation_as}
use Rattle.item_names.specs.Holding.{nonzero-bit}
use Rattle.item_classes.specs.Classes.{meets, lost, Gathers, GathersMore}
use Rattle.item_classes.specs.declared.Classes.{Classes}

-- ---- one set more

any_snoc : {A : Type 0} (f : A → Bool) (l : List A) (x : A) → any f (l ++ (x ∷ [])) ≡ (any f l || f x)
any_snoc f l x = any_append f l (x ∷ []) ∙ ap (λ (b : Bool). any f l || b) (or-false (f x))

crossed : (a b c d : Bool) → ((a || b) || (c || d)) ≡ ((a || c) || (b || d))
crossed true b c d = refl
crossed false true true d = refl
crossed false true false d = refl
crossed false false c d = refl

moved : (a b c d : Bool) → (((a || b) || c) || d) ≡ ((a || c) || (b || d))
moved true b c d = refl
moved false true true d = refl
moved false true false d = refl
moved false false c d = refl

repeats-snoc : {A : Type 0} (s : A → A → Bool) (l : List A) (x : A) → repeats s (l ++ (x ∷ [])) ≡ (repeats s l || any (λ y. s y x) l)
repeats-snoc s [] x = refl
repeats-snoc {A} s (y ∷ l) x =
    ap₂ (λ (a b : Bool). a || b) (any_snoc (s y) l x) (repeats-snoc s l x) ∙ crossed (any (s y) l) (s y x) (repeats s l) (any (λ z. s z x) l)

-- a union meets a set exactly if one of the united does
union-meets : (u x : ℕ) (os : List ℕ) → ((a : ℕ) → has_bit u a ≡ any (λ y. has_bit y a) os) → meets u x ≡ any (λ y. meets y x) os
union-meets u x os e =
    same_test
    (λ p.
    let b = nonzero-bit (bit_and u x) (λ z. never p (ap not (eq-eqb (bit_and u x) 0 z))) in
    let k = sym (bit-both u x b.0) ∙ b.1 in
    let y = any_of (λ y. has_bit y b.0) os (sym (e b.0) ∙ and_left (has_bit u b.0) (has_bit x b.0) k) in
    any-in (λ y. meets y x) y.1 (meet y.0 b.0 y.2 (and_right (has_bit u b.0) (has_bit x b.0) k)))
    (λ p.
    let y = any_of (λ y. meets y x) os p in
    let b = nonzero-bit (bit_and y.0 x) (λ z. never y.2 (ap not (eq-eqb (bit_and y.0 x) 0 z))) in
    let k = sym (bit-both y.0 x b.0) ∙ b.1 in
    meet u b.0 (e b.0 ∙ any-in (λ y. has_bit y b.0) y.1 (and_left (has_bit y.0 b.0) (has_bit x b.0) k)) (and_right (has_bit y.0 b.0) (has_bit x b.0) k))
  where
    meet : (y a : ℕ) → has_bit y a ≡ true → has_bit x a ≡ true → meets y x ≡ true
    meet y a p q =
        ap not (ne_eqb (bit_and y x) 0 (λ z. never (bit-both y x a ∙ and_both p q) (ap (λ (n : ℕ). has_bit n a) z ∙ bit-none a)))

pub gathers-none : (resources : ℕ) → Gathers resources [] [] (record { own = 0; given = 0; wrong = false; missing = false })
gathers-none resources = record { own = bit-none; given = bit-none; wrong = refl; missing = refl }

joined : (u x : ℕ) (l : List ℕ) → ((a : ℕ) → has_bit u a ≡ any (λ y. has_bit y a) l) → (a : ℕ) → has_bit (bit_or u x) a ≡ any (λ y. has_bit y a) (l ++ (x ∷ []))
joined u x l e a = bit-either u x a ∙ ap (λ (b : Bool). b || has_bit x a) (e a) ∙ sym (any_snoc (λ y. has_bit y a) l x)

pub gathers_own : (resources x : ℕ) (c : Classes) → GathersMore resources true x c (record {
  own = bit_or c.own x;
  given = bit_or c.given x;
  wrong = (c.wrong || lost resources x) || meets c.own x;
  missing = c.missing || lost resources x;
})
gathers_own resources x c =
    record {
      more = λ os gs g. record {
        own = joined c.own x os g.own;
        given = joined c.given x gs g.given;
        wrong =
            ap₂ (λ (a b : Bool). (a || lost resources x) || b) g.wrong (union-meets c.own x os g.own)
            ∙ moved (any (lost resources) os) (repeats meets os) (lost resources x) (any (λ y. meets y x) os)
            ∙ ap₂ (λ (a b : Bool). a || b) (sym (any_snoc (lost resources) os x)) (sym (repeats-snoc meets os x));
        missing = ap (λ (a : Bool). a || lost resources x) g.missing ∙ sym (any_snoc (lost resources) gs x);
      };
    }

pub gathers_nested : (resources x : ℕ) (c : Classes) → GathersMore resources false x c (record {
  own = c.own;
  given = bit_or c.given x;
  wrong = c.wrong;
  missing = c.missing || lost resources x;
})
gathers_nested resources x c =
    record {
      more = λ os gs g. record {
        own = λ a. g.own a ∙ ap (any (λ y. has_bit y a)) (sym (append-nil os));
        given = joined c.given x gs g.given;
        wrong = g.wrong ∙ ap (λ (l : List ℕ). any (lost resources) l || repeats meets l) (sym (append-nil os));
        missing = ap (λ (a : Bool). a || lost resources x) g.missing ∙ sym (any_snoc (lost resources) gs x);
      };
    }

-- ---- what an annotation lists

-- what counts of a list, by a test
abbrev pub only_if : {A : Type 0} → Bool → List A → List A
only_if b l = cond b l []

pub own-as : (kind : ℕ) (rows : List (List ℕ)) → associate_of (annotation_as kind rows) ≡ only_if (eqb kind 1) (map resource_of rows)
unfolding annotation_as
own-as zero rows = refl
own-as (suc zero) rows = refl
own-as (suc (suc zero)) rows = refl
own-as (suc (suc (suc zero))) rows = refl
own-as (suc (suc (suc (suc zero)))) rows = refl
own-as (suc (suc (suc (suc (suc zero))))) rows = refl
own-as (suc (suc (suc (suc (suc (suc zero)))))) rows = refl
own-as (suc (suc (suc (suc (suc (suc (suc k))))))) rows = rw (ne_eqb (suc (suc (suc (suc (suc (suc (suc k))))))) 1 (λ q. absurd (omega arith)))

-- an Associate, or a NestAssociate
abbrev pub lists : ℕ → Bool
lists kind = eqb kind 1 || eqb kind 2

pub given-as : (kind : ℕ) (rows : List (List ℕ)) → resources_of (annotation_as kind rows) ≡ only_if (lists kind) (map resource_of rows)
unfolding annotation_as
given-as zero rows = refl
given-as (suc zero) rows = refl
given-as (suc (suc zero)) rows = refl
given-as (suc (suc (suc zero))) rows = refl
given-as (suc (suc (suc (suc zero)))) rows = refl
given-as (suc (suc (suc (suc (suc zero))))) rows = refl
given-as (suc (suc (suc (suc (suc (suc zero)))))) rows = refl
given-as (suc (suc (suc (suc (suc (suc (suc k))))))) rows =
    rw (
      ne_eqb (suc (suc (suc (suc (suc (suc (suc k))))))) 1 (λ q. absurd (omega arith)),
      ne_eqb (suc (suc (suc (suc (suc (suc (suc k))))))) 2 (λ q. absurd (omega arith)),
    )
