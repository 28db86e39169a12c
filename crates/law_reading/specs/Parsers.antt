-- Laws of the parsers, once for each way to build one.
use Rattle.std.specs.Prelude.{Bool, true, false, ◌&&◌, ◌≡◌, leb, length}
use mathlib.Core.List.{List, [], ◌∷◌, ◌++◌, append_assoc, append-nil}
use Rattle.std.proofs.Math.Path.{refl, sym, ap}
use Rattle.std.proofs.Common.{ap₂, ◌∙◌, subst, mod-eq_of_lt, zero-mul, zero-add, one-add, arith, le-leb, leb-true, length-append}
use Prim.Native.Nat.{ℕ, zero, suc, ◌+◌, ◌*◌, ◌/◌, ◌%◌, ◌^◌, ◌≤◌, ◌<◌}
use Rattle.std.proofs.Math.Nat.{pow-succ'}
use Rattle.std.proofs.Math.Arith.{digits_lt}
use Rattle.std.proofs.Math.Pow
use Rattle.std.proofs.Math.Seq
use Rattle.lists.specs.Lists.{each}
use Rattle.lists.specs.Tests.{never, and_left, and_right, and_both}
use Rattle.definitions.specs.Bits.{bit, to_bits}
use Rattle.definitions.specs.Parse.{past, not_allowed, Parsed, done, refused, Parser, next, ◌>>=◌, pure, refuse, choose, field_onto, field, allowed, between, flag, repeat_onto, repeat, counted}
use Rattle.definitions.specs.Packing.{counted_bits}
use Rattle.definitions.specs.Legal.{Every, Counted}
use Rattle.bits.specs.NumberLaws.{bit-lt, bit-odd, odd-bit, to_bits-low}
use Rattle.bits.specs.ReadLaws.{is_done}

-- m reads a from the bits xs, whatever follows them
abbrev pub Reads : {A : Type 0} → Parser A → A → List Bool → Type 0
Reads m a xs = (rest : List Bool) → m (xs ++ rest) ≡ done a rest

-- what m answers on bs: a value, the bits that it was read from and those behind them; or that a field passes the end; or that a
-- value is not allowed, whatever follows
abbrev pub Told : {A : Type 0} → Parser A → (A → List Bool → Type 0) → List Bool → Parsed A → Type 0
Told m S bs (done a rest) = (xs : List Bool) × (bs ≡ xs ++ rest) × S a xs
Told m S bs (refused past) = Unit {0}
Told m S bs (refused not_allowed) = (more : List Bool) → m (bs ++ more) ≡ refused not_allowed

-- m reads nothing but values in S to the bits that they were read from, and more bits change no value that is not allowed
abbrev pub Only : {A : Type 0} → Parser A → (A → List Bool → Type 0) → Type 0
Only m S = (bs : List Bool) → Told m S bs (m bs)

-- the bits are those that the value is written in, and P of it
abbrev pub Exact : {A : Type 0} → (A → List Bool) → (A → Type 0) → A → List Bool → Type 0
Exact enc P a xs = (xs ≡ enc a) × P a

-- m reads the values in P, each from the bits that it is written in, and no others
pub record Codes {A : Type 0} (m : Parser A) (enc : A → List Bool) (P : A → Type 0) : Type 0 where
  pub back : (a : A) → P a → Reads m a (enc a)
  pub only : Only m (Exact enc P)

-- ---- one after the other

pub reads-pure : {A : Type 0} (a : A) → Reads (pure a) a []
reads-pure a rest = refl

pub reads_then : {A B : Type 0} (m : Parser A) (k : A → Parser B) (a : A) (b : B) (xs ys : List Bool) → Reads m a xs → Reads (k a) b ys → Reads (m >>= k) b (xs ++ ys)
reads_then m k a b xs ys f g rest = rw (append_assoc xs ys rest, f (ys ++ rest)) (g rest)

-- where nothing more is read
pub reads_end : {A B : Type 0} (m : Parser A) (k : A → Parser B) (a : A) (b : B) (xs : List Bool) → Reads m a xs → Reads (k a) b [] → Reads (m >>= k) b xs
reads_end m k a b xs f g rest = rw (f rest) (g rest)

pub only-pure : {A : Type 0} (S : A → List Bool → Type 0) (a : A) → S a [] → Only (pure a) S
only-pure S a s bs = ([], refl, s)

pub only-refuse : {A : Type 0} (S : A → List Bool → Type 0) → Only (refuse not_allowed) S
only-refuse S bs = λ more. refl

told-behind : {A : Type 0} (m n : Parser A) (S : A → List Bool → Type 0) (bs xs rest : List Bool) → bs ≡ xs ++ rest →
    ((more : List Bool) → m (bs ++ more) ≡ n (rest ++ more)) → (r : Parsed A) → Told n (λ b ys. S b (xs ++ ys)) rest r → Told m S bs r
told-behind m n S bs xs rest e f (done b left) t = (xs ++ t.0, e ∙ ap (λ l. xs ++ l) t.1 ∙ sym (append_assoc xs t.0 left), t.2)
told-behind m n S bs xs rest e f (refused past) t = tt
told-behind m n S bs xs rest e f (refused not_allowed) t = λ more. f more ∙ t more

pub only_then : {A B : Type 0} (m : Parser A) (k : A → Parser B) (enc : A → List Bool) (P : A → Type 0) (S : B → List Bool → Type 0) →
    Codes m enc P → ((a : A) → P a → Only (k a) (λ b ys. S b (enc a ++ ys))) → Only (m >>= k) S
only_then m k enc P S c g bs = go (m bs) (c.only bs)
  where
    go : (r : Parsed _) → Told m (Exact enc P) bs r → Told (m >>= k) S bs (next r k)
    go (done a rest) t =
        let e : bs ≡ enc a ++ rest = t.1 ∙ ap (λ l. l ++ rest) t.2.0 in
        told-behind (m >>= k) (k a) S bs (enc a) rest e
        (λ more. ap (λ l. next (m l) k) (ap (λ l. l ++ more) e ∙ append_assoc (enc a) rest more) ∙ ap (λ r. next r k) (c.back a t.2.1 (rest ++ more)))
        (k a rest) (g a t.2.1 rest)
    go (refused past) t = tt
    go (refused not_allowed) t = λ more. ap (λ r. next r k) (t more)

pub only-choose : {A : Type 0} (b : Bool) (x y : Parser A) (S : A → List Bool → Type 0) → (b ≡ true → Only x S) → (b ≡ false → Only y S) → Only (choose b x y) S
only-choose true x y S f g = f refl
only-choose false x y S f g = g refl

-- what more is known of the value
pub only-more : {A : Type 0} (m : Parser A) (S R : A → List Bool → Type 0) → ((a : A) (xs : List Bool) → S a xs → R a xs) → Only m S → Only m R
only-more m S R h f bs = go (m bs) (f bs)
  where
    go : (r : Parsed _) → Told m S bs r → Told m R bs r
    go (done a rest) t = (t.0, t.1, h a t.0 t.2)
    go (refused past) t = tt
    go (refused not_allowed) t = t

-- ---- fields

onto-sum : (v x p q : ℕ) → (2 * v + x) * p + q ≡ v * (2 * p) + (x * p + q)
onto-sum v x p q = omega arith

field-reads : (n v w : ℕ) (rest : List Bool) → field_onto v n (to_bits n w ++ rest) ≡ done (v * 2 ^ n + w % 2 ^ n) rest
unfolding field_onto to_bits
field-reads zero v w rest = let e : v ≡ v * 1 + w % 1 = omega arith in ap (λ x. done x rest) e
field-reads (suc n) v w rest =
    let x = w / 2 ^ n % 2 in
    let e : v * 2 ^ suc n + w % 2 ^ suc n ≡ (2 * v + x) * 2 ^ n + w % 2 ^ n =
    ap₂ (λ p r. v * p + r) (pow-succ' 2 n) (ap (λ k. w % 2 ^ k) (sym (one-add n)) ∙ Pow.mod-pow-add w 1 n) ∙ sym (onto-sum v x (2 ^ n) (w % 2 ^ n)) in
    rw (bit-odd, e) (field-reads n (2 * v + x) w rest)

OntoField : ℕ → ℕ → ℕ → List Bool → Type 0
OntoField v n a xs = (w : ℕ) × (a ≡ v * 2 ^ n + w) × (w < 2 ^ n) × (xs ≡ to_bits n w)

-- one bit more, in front
to_bits-more : (n : ℕ) (b : Bool) (v : ℕ) → v < 2 ^ n → to_bits (suc n) (bit b * 2 ^ n + v) ≡ b ∷ to_bits n v
unfolding to_bits
to_bits-more n b v l = rw (Pow.high (bit b) n l, odd-bit b, to_bits-low n (bit b) v l)

field-only : (n v : ℕ) → Only (field_onto v n) (OntoField v n)
unfolding field_onto to_bits OntoField
field-only zero v bs = ([], refl, (0, omega arith, omega arith, refl))
field-only (suc n) v [] = tt
field-only (suc n) v (b ∷ bs) = go (field_onto (2 * v + bit b) n bs) (field-only n (2 * v + bit b) bs)
  where
    go : (r : Parsed ℕ) → Told (field_onto (2 * v + bit b) n) (OntoField (2 * v + bit b) n) bs r → Told (field_onto v (suc n)) (OntoField v (suc n)) (b ∷ bs) r
    go (refused past) t = tt
    go (refused not_allowed) t = t
    go (done a rest) t =
        let w = t.2.0 in
        let l : w < 2 ^ n = t.2.2 in (
          b ∷ t.0,
          ap (λ k. b ∷ k) t.1,
          (
            bit b * 2 ^ n + w,
            t.2.1 ∙ onto-sum v (bit b) (2 ^ n) w ∙ ap (λ p. v * p + (bit b * 2 ^ n + w)) (sym (pow-succ' 2 n)),
            rw (pow-succ' 2 n) (digits_lt (bit-lt b) l),
            ap (λ k. b ∷ k) t.2.3 ∙ sym (to_bits-more n b w l),
          ),
        )

-- a field of n bits holds the numbers below 2 ^ n (FORMAT 2.1)
pub field_codes : (n : ℕ) → Codes (field n) (to_bits n) (λ v. v < 2 ^ n)
unfolding OntoField
field_codes n = record {
  back = λ v h rest. field-reads n 0 v rest ∙ ap (λ x. done x rest) (rw (mod-eq_of_lt h, zero-mul, zero-add));
  only =
      only-more (field n) (OntoField 0 n) (Exact (to_bits n) (λ v. v < 2 ^ n))
      (λ v xs t.
      let e : v ≡ t.0 = t.1 ∙ rw (zero-mul, zero-add) in
      (t.3 ∙ ap (to_bits n) (sym e), rw e t.2))
      (field-only n 0);
}

pub allowed-codes : (n : ℕ) (ok : ℕ → Bool) → Codes (allowed n ok) (to_bits n) (λ v. (v < 2 ^ n) × (ok v ≡ true))
unfolding allowed
allowed-codes n ok =
    let S : ℕ → List Bool → Type 0 = Exact (to_bits n) (λ v. (v < 2 ^ n) × (ok v ≡ true)) in
    record {
      back = λ v h. reads_end (field n) _ v v (to_bits n v) ((field_codes n).back v h.0) (rw h.1 (reads-pure v));
      only =
          only_then (field n) _ (to_bits n) (λ v. v < 2 ^ n) S (field_codes n)
          (λ v l.
          let R : ℕ → List Bool → Type 0 = λ a ys. S a (to_bits n v ++ ys) in
          only-choose (ok v) (pure v) (refuse not_allowed) R (λ e. only-pure R v (append-nil (to_bits n v), (l, e))) (λ e. only-refuse R));
    }

-- what is read, said in other words
pub codes_same : {A : Type 0} {m : Parser A} {enc : A → List Bool} {P : A → Type 0} (Q : A → Type 0) → ((a : A) → P a → Q a) → ((a : A) → Q a → P a) → Codes m enc P → Codes m enc Q
codes_same {m = m} {enc} {P} Q f g c = record {
  back = λ a q. c.back a (g a q);
  only = only-more m (Exact enc P) (Exact enc Q) (λ a xs t. (t.0, f a t.1)) c.only;
}

pub between-codes : (n least most : ℕ) → most < 2 ^ n → Codes (between n least most) (to_bits n) (λ v. (least ≤ v) × (v ≤ most))
between-codes n least most h =
    codes_same (λ v. (least ≤ v) × (v ≤ most))
    (λ v p. (leb-true least v (and_left (leb least v) (leb v most) p.1), leb-true v most (and_right (leb least v) (leb v most) p.1)))
    (λ v p. (omega arith, and_both (le-leb least v p.0) (le-leb v most p.1)))
    (allowed-codes n (λ v. leb least v && leb v most))

pub flag-codes : Codes flag (λ b. b ∷ []) (λ b. Unit {0})
unfolding field_onto
flag-codes = record { back = back; only = only }
  where
    back : (b : Bool) → Unit {0} → Reads flag b (b ∷ [])
    back true u rest = refl
    back false u rest = refl

    only : Only flag (Exact (λ b. b ∷ []) (λ b. Unit {0}))
    only [] = tt
    only (true ∷ bs) = (true ∷ [], refl, (refl, tt))
    only (false ∷ bs) = (false ∷ [], refl, (refl, tt))

-- ---- lists

module _ {A : Type 0} {m : Parser A} {enc : A → List Bool} {P : A → Type 0} (c : Codes m enc P) where
  reads-repeat : (xs l : List A) → Every P l → Reads (repeat_onto xs m (length l)) (xs ++ l) (each enc l)
  unfolding repeat_onto
  reads-repeat xs [] h = rw (append-nil xs) (reads-pure xs)
  reads-repeat xs (x ∷ l) h =
      reads_then m (λ x. repeat_onto (xs ++ (x ∷ [])) m (length l)) x (xs ++ x ∷ l) (enc x) (each enc l) (c.back x h.0)
      (rw (Seq.append_snoc xs x l) at (reads-repeat (xs ++ (x ∷ [])) l h.1))

  OntoList : List A → ℕ → List A → List Bool → Type 0
  OntoList xs n l bits = (ys : List A) × (l ≡ xs ++ ys) × (length ys ≡ n) × Every P ys × (bits ≡ each enc ys)

  only-repeat : (n : ℕ) (xs : List A) → Only (repeat_onto xs m n) (OntoList xs n)
  unfolding repeat_onto OntoList
  only-repeat zero xs = only-pure (OntoList xs zero) xs ([], sym (append-nil xs), refl, tt, refl)
  only-repeat (suc n) xs =
      only_then m (λ x. repeat_onto (xs ++ (x ∷ [])) m n) enc P (OntoList xs (suc n)) c
      (λ x p.
      only-more (repeat_onto (xs ++ (x ∷ [])) m n) (OntoList (xs ++ (x ∷ [])) n) (λ l bits. OntoList xs (suc n) l (enc x ++ bits))
      (λ l bits t. (x ∷ t.0, t.1 ∙ Seq.append_snoc xs x t.0, ap suc t.2, (p, t.3), ap (λ k. enc x ++ k) t.4))
      (only-repeat n (xs ++ (x ∷ []))))

  -- n entries
  pub repeat-codes : (n : ℕ) → Codes (repeat m n) (each enc) (λ l. (length l ≡ n) × Every P l)
  unfolding OntoList
  repeat-codes n = record {
    back = λ l q. subst (λ k. Reads (repeat m k) l (each enc l)) q.0 (reads-repeat [] l q.1);
    only =
        only-more (repeat m n) (OntoList [] n) (Exact (each enc) (λ l. (length l ≡ n) × Every P l))
        (λ l bits t. rw (t.1, t.4) (refl, (t.2, t.3)))
        (only-repeat n []);
  }

  -- a count, and directly behind it so many entries (FORMAT 2.3)
  pub counted-codes : (n least most : ℕ) → most < 2 ^ n → Codes (counted n least most m) (counted_bits n enc) (Counted least most P)
  unfolding counted OntoList
  counted-codes n least most h =
      let b = between-codes n least most h in
      record {
        back = λ l q.
            reads_then (between n least most) (λ k. repeat m k) (length l) l (to_bits n (length l)) (each enc l)
            (b.back (length l) (q.enough, q.few)) (reads-repeat [] l q.every);
        only =
            only_then (between n least most) (λ k. repeat m k) (to_bits n) (λ v. (least ≤ v) × (v ≤ most)) (Exact (counted_bits n enc) (Counted least most P)) b
            (λ k q.
            only-more (repeat m k) (OntoList [] k) (λ l bits. Exact (counted_bits n enc) (Counted least most P) l (to_bits n k ++ bits))
            (λ l bits t. rw (t.1, t.4, ← t.2) (refl, record { enough = rw t.2 q.0; few = rw t.2 q.1; every = t.3 }))
            (only-repeat k []));
      }

-- ---- steps of a construct

module _ {A B : Type 0} {m : Parser A} {enc : A → List Bool} {P : A → Type 0} (c : Codes m enc P) where
  -- a value, then what k reads
  pub reads-next : (k : A → Parser B) (a : A) (b : B) (ys : List Bool) → P a → Reads (k a) b ys → Reads (m >>= k) b (enc a ++ ys)
  reads-next k a b ys p = reads_then m k a b (enc a) ys (c.back a p)

  pub only_next : (k : A → Parser B) (S : B → List Bool → Type 0) → ((a : A) → P a → Only (k a) (λ b ys. S b (enc a ++ ys))) → Only (m >>= k) S
  only_next k S g = only_then m k enc P S c g

  -- the last value
  pub reads-last : (f : A → B) (a : A) → P a → Reads (m >>= λ a. pure (f a)) (f a) (enc a)
  reads-last f a p = reads_end m (λ a. pure (f a)) a (f a) (enc a) (c.back a p) (reads-pure (f a))

  pub only-last : (f : A → B) (S : B → List Bool → Type 0) → ((a : A) → P a → S (f a) (enc a)) → Only (m >>= λ a. pure (f a)) S
  only-last f S g = only_next (λ a. pure (f a)) S (λ a p. only-pure (λ b ys. S b (enc a ++ ys)) (f a) (rw (append-nil (enc a)) (g a p)))

-- ---- what follows from an answer

abbrev behind : {A : Type 0} → Parsed A → List Bool
behind (done a rest) = rest
behind (refused f) = []

-- the values of two answers that are equal
pub done-value : {A : Type 0} (a b : A) (p q : List Bool) → done a p ≡ done b q → a ≡ b
done-value {A} a b p q e = ap value e
  where
    value : Parsed A → A
    value (done x rest) = x
    value (refused f) = a

module _ {A : Type 0} {m : Parser A} {enc : A → List Bool} {P : A → Type 0} (c : Codes m enc P) where
  pub done-only : (bs : List Bool) (a : A) (rest : List Bool) → m bs ≡ done a rest → (bs ≡ enc a ++ rest) × P a
  done-only bs a rest e =
      let t : Told m (Exact enc P) bs (done a rest) = rw e at (c.only bs) in
      (t.1 ∙ ap (λ l. l ++ rest) t.2.0, t.2.1)

  -- two values whose bits begin the same list are one value, and what follows them is the same
  pub one_value : (a b : A) (rest more : List Bool) → P a → P b → enc a ++ rest ≡ enc b ++ more → (a ≡ b) × (rest ≡ more)
  one_value a b rest more p q e =
      let d : done a rest ≡ done b more = sym (c.back a p rest) ∙ ap m e ∙ c.back b q more in
      (done-value a b rest more d, ap behind d)

  -- what is behind the bits read changes no value, neither one that is read nor one that is not allowed
  pub done-stays : (bs : List Bool) (a : A) (rest more : List Bool) → m bs ≡ done a rest → m (bs ++ more) ≡ done a (rest ++ more)
  done-stays bs a rest more e =
      let t = done-only bs a rest e in
      ap m (ap (λ l. l ++ more) t.0 ∙ append_assoc (enc a) rest more) ∙ c.back a t.1 (rest ++ more)

  pub refused-stays : (bs more : List Bool) → m bs ≡ refused not_allowed → m (bs ++ more) ≡ refused not_allowed
  refused-stays bs more e =
      let t : Told m (Exact enc P) bs (refused not_allowed) = rw e at (c.only bs) in
      t more

  -- bits that end before the value does have a field that passes the end
  pub cut_short : (a : A) → P a → (xs ys : List Bool) → enc a ≡ xs ++ ys → 0 < length ys → m xs ≡ refused past
  cut_short a p xs ys e l = go (m xs) refl
    where
      whole : m (xs ++ ys) ≡ done a []
      whole = ap m (sym e ∙ sym (append-nil (enc a))) ∙ c.back a p []

      go : (r : Parsed A) → m xs ≡ r → m xs ≡ refused past
      go (done b rest) q =
          let h : length (rest ++ ys) ≡ 0 = ap (λ r. length (behind r)) (sym (done-stays xs b rest ys q) ∙ whole) in
          absurd (omega (arith, h, length-append rest ys))
      go (refused past) q = q
      go (refused not_allowed) q = never (ap is_done whole) (ap is_done (refused-stays xs ys q))
