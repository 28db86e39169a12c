-- Laws of the fields.
use Rattle.std.specs.Prelude.{Bool, true, false, ◌&&◌, cond, List, [], ◌∷◌, ◌++◌, Option, Some, None, Result, Ok, Err, ok_or, IsErrAnd, ◌≡◌, refl, ℕ, ◌+◌, ◌^◌, ◌≤◌, ◌<◌, leb, ltb, eqb, length, get_or, set}
use Rattle.std.proofs.Math.Bool.{and-true}
use Rattle.std.proofs.Common.{sym, ap, ap₂, ◌∙◌, arith, leb-true, ltb-true, eqb-true, eq-eqb, ne_eqb}
use Rattle.std.proofs.lemmas.Bool.{eqb-false}
use Rattle.std.proofs.lemmas.Result.{err_from_is_err_and}
use Rattle.std.proofs.Math.Seq
use Rattle.lists.specs.Lists.{same_list}
use Rattle.lists.specs.Tabulating.{tabulate-set, length-tabulate}
use Rattle.lists.specs.Tests.{and_left, and_right}
use Rattle.definitions.specs.Bits.{num}
use Rattle.definitions.specs.Comparisons.{same_name}
use Rattle.definitions.specs.Parse.{not_allowed, Parsed, done, refused, Parser, next, pure, refuse, choose, field, allowed, between, repeat, counted}
use Rattle.definitions.specs.Reading.{word_field}
use Rattle.bits.specs.declared.Cursor.{Cursor}
use Rattle.bits.specs.Reading.{read_at, of_read}
use Rattle.bits.specs.ReadLaws.{field-read}
use Rattle.bits.specs.NumberLaws.{num-lt}
use Rattle.fields.specs.ParseLaws.{repeat-length}
use Rattle.fields.specs.Fields.{of_parsed, of_field, optional, two_words, name_of, of_names}
use Rattle.fields.specs.declared.Fault.{Fault}
use Rattle.fields.specs.declared.Name.{Name}
use Rattle.fields.specs.declared.Names.{Names}

-- what the exit of a `?` returns
pub err_was : {T : Type 0} (y : Result T Fault) (r : Fault) → IsErrAnd y (λ e. e ≡ r) → y ≡ Err r
err_was y r h = let p = err_from_is_err_and y h in p.1 ∙ ap (λ (e : Fault). Err e) p.2

-- a field that was read, as the definitions' parser gives it
pub field-of_read : (bs : List Bool) (x : Option (ℕ × Cursor)) → of_field bs (ok_or x Fault.Past) ≡ of_read bs x
field-of_read bs (Some (v, c)) = refl
field-of_read bs None = refl

-- a field's value is below 2 ^ n
pub field-lt : (n : ℕ) (bs : List Bool) (v : ℕ) (rest : List Bool) → 0 < n → field n bs ≡ done v rest → v < 2 ^ n
unfolding read_at
field-lt n bs v rest h e = go (leb (0 + n) (length bs)) (sym (field-read bs 0 n h) ∙ e)
  where
    go : (t : Bool) → of_read bs (cond {A = Option (ℕ × Cursor)} t (Some (num n bs, record { at = 0 + n })) None) ≡ done v rest → v < 2 ^ n
    go true q = let z : num n bs ≡ v = cc in rw (← z) (num-lt n bs)
    go false q = let z : ◌≡◌ {A = ℕ} 0 1 = cc in absurd (omega arith)

-- a value that was allowed is
pub allowed-holds : (n : ℕ) (ok : ℕ → Bool) (bs : List Bool) (v : ℕ) (rest : List Bool) → allowed n ok bs ≡ done v rest → ok v ≡ true
unfolding allowed
allowed-holds n ok bs v rest e = go (field n bs) e
  where
    at : (w : ℕ) (left : List Bool) (t : Bool) → ok w ≡ t → choose t (pure w) (refuse not_allowed) left ≡ done v rest → ok v ≡ true
    at w left true h e = let q : w ≡ v = cc in rw (← q) h
    at w left false h e = let z : ◌≡◌ {A = ℕ} 0 1 = cc in absurd (omega arith)

    go : (x : Parsed ℕ) → next x (λ w. choose (ok w) (pure w) (refuse not_allowed)) ≡ done v rest → ok v ≡ true
    go (done w left) e = at w left (ok w) refl e
    go (refused r) e = let z : ◌≡◌ {A = ℕ} 0 1 = cc in absurd (omega arith)

-- a word is below W
pub word_lt : (W : ℕ) (bs : List Bool) (v : ℕ) (rest : List Bool) → word_field W bs ≡ done v rest → v < W
unfolding word_field
word_lt W bs v rest e = ltb-true v W (allowed-holds 8 (λ w. ltb w W) bs v rest e)

-- a count is between its limits
pub between_in : (n least most : ℕ) (bs : List Bool) (v : ℕ) (rest : List Bool) → between n least most bs ≡ done v rest → (least ≤ v) × (v ≤ most)
between_in n least most bs v rest e =
    let h = allowed-holds n (λ v. leb least v && leb v most) bs v rest e in
    (leb-true least v (and_left (leb least v) (leb v most) h), leb-true v most (and_right (leb least v) (leb v most) h))

-- names of words and of 255 are equal where both bytes are
pub same-words : (a b c d : ℕ) → same_name (two_words a b) (two_words c d) ≡ (eqb a c && eqb b d)
same-words a b c d = ap (λ (t : Bool). eqb a c && t) (go (eqb b 255) (eqb d 255) refl refl)
  where
    go : (p q : Bool) → eqb b 255 ≡ p → eqb d 255 ≡ q → same_list eqb (cond p [] (b ∷ [])) (cond q [] (d ∷ [])) ≡ eqb b d
    go true true e f = sym (eq-eqb b d (eqb-true b 255 e ∙ sym (eqb-true d 255 f)))
    go true false e f = sym (ne_eqb b d (λ g. eqb-false d 255 f (sym g ∙ eqb-true b 255 e)))
    go false true e f = sym (ne_eqb b d (λ g. eqb-false b 255 e (g ∙ eqb-true d 255 f)))
    go false false e f = and-true (eqb b d)

-- one name more
pub names_more : (t : Names) (n : Name) → t.count < length t.first → t.count < length t.second →
    of_names (record { count = t.count + 1; first = set t.first t.count n.first; second = set t.second t.count n.second })
    ≡ of_names t ++ (name_of n ∷ [])
unfolding of_names
names_more t n h k =
    tabulate-set
    (λ i. two_words (get_or t.first i 0) (get_or t.second i 0))
    (λ i. two_words (get_or (set t.first t.count n.first) i 0) (get_or (set t.second t.count n.second) i 0))
    t.count
    (name_of n)
    (λ i s. ap₂ two_words (Seq.get_or-set_other t.first t.count i n.first 0 (λ e. omega arith)) (Seq.get_or-set_other t.second t.count i n.second 0 (λ e. omega arith)))
    (ap₂ two_words (Seq.get_or-set_same t.first t.count n.first 0 h) (Seq.get_or-set_same t.second t.count n.second 0 k))

pub length-of_names : (t : Names) → length (of_names t) ≡ t.count
unfolding of_names
length-of_names t = length-tabulate (λ i. two_words (get_or t.first i 0) (get_or t.second i 0)) t.count

-- a word that was read is one
pub word_some : (bs rest : List Bool) (W : ℕ) (r : Result (ℕ × Cursor) Fault) → W ≤ 255 → of_field bs r ≡ word_field W rest →
    of_parsed optional bs r ≡ next (word_field W rest) (λ w. pure (w ∷ []))
word_some bs rest W (Ok (w, c)) h e = rw (← e, ne_eqb w 255 (λ q. omega (arith, word_lt W rest w _ (sym e))))
word_some bs rest W (Err r) h e = rw (← e)

-- the length of a list with its count is between the count's limits
pub counted-in : {A : Type 0} (n least most : ℕ) (m : Parser A) (bs : List Bool) (xs : List A) (rest : List Bool) → counted n least most m bs ≡ done xs rest →
    (least ≤ length xs) × (length xs ≤ most)
unfolding counted
counted-in {A} n least most m bs xs rest e = go (between n least most bs) refl e
  where
    go : (x : Parsed ℕ) → between n least most bs ≡ x → next x (λ k. repeat m k) ≡ done xs rest → (least ≤ length xs) × (length xs ≤ most)
    go (done k left) h e =
        let l = between_in n least most bs k left h in
        let q : length xs ≡ k = omega (arith, repeat-length m k [] left xs rest e) in
        (omega arith, omega arith)
    go (refused r) h e = let z : ◌≡◌ {A = ℕ} 0 1 = cc in absurd (omega arith)
