-- A sheet that was read is within the limits: what each parser yields.
use Rattle.std.specs.Prelude.{Bool, true, false, ◌&&◌, ◌||◌, List, [], ◌∷◌, ◌++◌, ◌≡◌, refl, ℕ, zero, suc, ◌+◌, ◌-◌, ◌*◌, ◌^◌, ◌≤◌, ◌<◌, eqb, ltb, leb, length, get_or}
use mathlib.Core.List.Memᴰ
use Rattle.std.proofs.Common.{⊎_elim, sym, ap, subst, zero-le, pow-suc, arith, leb-true, ltb-true, eqb-true, length-append}
use Rattle.lists.specs.Lists.{In}
use Rattle.lists.specs.Tests.{never, and_left, and_right, or_cases, or_left, cons-elim}
use Rattle.definitions.specs.Parse.{Fault, not_allowed, Parsed, done, refused, Parser, next, ◌>>=◌, pure, refuse, choose, field_onto, field, allowed, between, flag, repeat_onto, repeat, counted}
use Rattle.definitions.specs.Records.{make_list, associate, nest_associate, alias, inherit, derive, no_derive, Annotation, makelist_mark, derive_mark}
use Rattle.definitions.specs.Comparisons.{dot, hyphen}
use Rattle.definitions.specs.Reading.{is_first_byte, is_word_byte, word, word_field, word_if_flag, name, associated, associated_list, kinds, annotation, mark, variant, type_info, extension, sheet}
use Rattle.bits.specs.ReadLaws.{is_done}
use Rattle.law_lines.specs.Statements.{ReadIsWithin}
use Rattle.law_lines.specs.Within.{WordWithin, WordsWithin, NameWithin, ResourceWithin, AnnotationWithin, MarkWithin, TypeWithin, ExtensionWithin, Within}

-- ---- parsers

-- whatever m yields has P
abbrev Yields : {A : Type 0} → Parser A → (A → Type 0) → Type 0
Yields {A} m P = (bs rest : List Bool) (a : A) → m bs ≡ done a rest → P a

abbrev value_of : {A : Type 0} → A → Parsed A → A
value_of d (done a rest) = a
value_of d (refused f) = d

refused-not : {A C : Type 0} {f : Fault} {a : A} {rest : List Bool} → refused f ≡ done a rest → C
refused-not e = never {b = true} refl (sym (ap is_done e))

yields-pure : {A : Type 0} (P : A → Type 0) (a : A) → P a → Yields (pure a) P
yields-pure P a h bs rest b e = subst P (ap (value_of a) e) h

yields-refuse : {A : Type 0} (P : A → Type 0) (f : Fault) → Yields {A = A} (refuse f) P
yields-refuse P f bs rest b e = refused-not e

yields-any : {A : Type 0} (m : Parser A) → Yields m (λ a. Unit {0})
yields-any m bs rest a e = tt

yields-bind : {A B : Type 0} (m : Parser A) (k : A → Parser B) (P : A → Type 0) (Q : B → Type 0) → Yields m P → ((a : A) → P a → Yields (k a) Q) → Yields (m >>= k) Q
yields-bind {A} m k P Q hm hk bs rest b e = go (m bs) refl e
  where
    go : (p : Parsed A) → m bs ≡ p → next p k ≡ done b rest → Q b
    go (done a r) q f = hk a (hm bs r a q) r rest b f
    go (refused n) q f = refused-not f

yields-choose : {A : Type 0} (P : A → Type 0) (b : Bool) (x y : Parser A) → (b ≡ true → Yields x P) → (b ≡ false → Yields y P) → Yields (choose b x y) P
yields-choose P true x y h k = h refl
yields-choose P false x y h k = k refl

-- each of a list of parsers
abbrev AllYield : {A : Type 0} → (A → Type 0) → List (Parser A) → Type 0
AllYield P [] = Unit {0}
AllYield P (m ∷ ms) = Yields m P × AllYield P ms

yields-get_d : {A : Type 0} (P : A → Type 0) (ms : List (Parser A)) (i : ℕ) (d : Parser A) → AllYield P ms → Yields d P → Yields (get_or ms i d) P
yields-get_d P [] i d h k = k
yields-get_d P (m ∷ ms) zero d h k = h.0
yields-get_d P (m ∷ ms) (suc i) d h k = yields-get_d P ms i d h.1 k

-- ---- fields

field_below : (v n : ℕ) → Yields (field_onto v n) (λ w. w < (v + 1) * 2 ^ n)
unfolding field_onto
field_below v zero bs rest w e = let q : v ≡ w = ap (value_of v) e in omega arith
field_below v (suc n) [] rest w e = refused-not e
field_below v (suc n) (true ∷ bs) rest w e = let h = field_below (2 * v + 1) n bs rest w e in rw (pow-suc 2 n) (omega arith)
field_below v (suc n) (false ∷ bs) rest w e = let h = field_below (2 * v + 0) n bs rest w e in rw (pow-suc 2 n) (omega arith)

allowed-is : (n : ℕ) (ok : ℕ → Bool) → Yields (allowed n ok) (λ v. ok v ≡ true)
unfolding allowed
allowed-is n ok =
    yields-bind (field n) _ (λ v. Unit {0}) _ (yields-any (field n)) (λ v _.
    yields-choose (λ v. ok v ≡ true) (ok v) (pure v) (refuse not_allowed) (λ e. yields-pure (λ v. ok v ≡ true) v e) (λ _. yields-refuse (λ v. ok v ≡ true) not_allowed))

-- ---- lists

-- as many as asked for, each as m yields it
record Listed {A : Type 0} (P : A → Type 0) (n : ℕ) (l : List A) : Type 0 where
  count : length l ≡ n
  every : (x : A) → In x l → P x

repeat-is : {A : Type 0} (m : Parser A) (P : A → Type 0) → Yields m P → (xs : List A) → ((x : A) → In x xs → P x) → (n : ℕ) → Yields (repeat_onto xs m n) (Listed P (length xs + n))
unfolding repeat_onto
repeat-is m P h xs a zero = yields-pure (Listed P (length xs + zero)) xs (record { count = omega arith; every = a })
repeat-is m P h xs a (suc n) =
    yields-bind m _ P _ h (λ x p bs rest l e.
    let k = length-append xs (x ∷ []) in
    let r = repeat-is m P h (xs ++ (x ∷ [])) (λ y i. ⊎_elim (a y) (λ j. subst P (sym (Memᴰ.eq_of_singleton j)) p) (Memᴰ.append_cases xs i)) n bs rest l e in
    let c = r.count in
    record { count = omega arith; every = r.every })

-- from `least` to `most`
record Counted {A : Type 0} (P : A → Type 0) (least most : ℕ) (l : List A) : Type 0 where
  low : least ≤ length l
  high : length l ≤ most
  every : (x : A) → In x l → P x

counted_is : {A : Type 0} (n least most : ℕ) (m : Parser A) (P : A → Type 0) → Yields m P → Yields (counted n least most m) (Counted P least most)
unfolding counted
counted_is n least most m P h =
    yields-bind (between n least most) _ (λ k. (leb least k && leb k most) ≡ true) _ (allowed-is n (λ v. leb least v && leb v most)) (λ k e bs rest l f.
    let r = repeat-is m P h [] (λ x i. absurd (Memᴰ.not-nil i)) k bs rest l f in
    let c = r.count in
    let a = leb-true least k (and_left (leb least k) (leb k most) e) in
    let b = leb-true k most (and_right (leb least k) (leb k most) e) in
    record { low = omega arith; high = omega arith; every = r.every })

-- ---- the sheet, bit by bit

first-is : (b : ℕ) → is_first_byte b ≡ true → dot < b
unfolding is_first_byte
first-is b e =
    ⊎_elim
    (λ h. let l = leb-true 65 b (and_left (leb 65 b) (leb b 90) h) in omega arith)
    (λ h.
    ⊎_elim
    (λ i. let l = leb-true 97 b (and_left (leb 97 b) (leb b 122) i) in omega arith)
    (λ i.
    ⊎_elim
    (λ j. let l = leb-true 48 b (and_left (leb 48 b) (leb b 57) j) in omega arith)
    (λ j. let l = eqb-true b 95 j in omega arith)
    (or_cases (leb 48 b && leb b 57) (eqb b 95) i))
    (or_cases (leb 97 b && leb b 122) ((leb 48 b && leb b 57) || eqb b 95) h))
    (or_cases (leb 65 b && leb b 90) ((leb 97 b && leb b 122) || ((leb 48 b && leb b 57) || eqb b 95)) e)

byte-is : (b : ℕ) → is_word_byte b ≡ true → (hyphen ≤ b) × (b ≡ dot → ⊥)
unfolding is_word_byte
byte-is b e =
    ⊎_elim
    (λ h. let l = first-is b h in (omega arith, λ d. omega arith))
    (λ h. let q = eqb-true b hyphen h in (omega arith, λ d. omega arith))
    (or_cases (is_first_byte b) (eqb b hyphen) e)

word-is : Yields word WordWithin
unfolding word is_word_byte
word-is =
    yields-bind (between 5 1 31) _ (λ n. Unit {0}) _ (yields-any (between 5 1 31)) (λ n _.
    yields-bind (allowed 8 is_first_byte) _ (λ b. is_first_byte b ≡ true) _ (allowed-is 8 is_first_byte) (λ b h.
    yields-bind (repeat (allowed 8 is_word_byte) (n - 1)) _ (Listed (λ c. is_word_byte c ≡ true) (length {A = ℕ} [] + (n - 1))) _
    (repeat-is (allowed 8 is_word_byte) (λ c. is_word_byte c ≡ true) (allowed-is 8 is_word_byte) [] (λ c i. absurd (Memᴰ.not-nil i)) (n - 1)) (λ bs l.
    let each : (c : ℕ) → In c (b ∷ bs) → (hyphen ≤ c) × (c ≡ dot → ⊥) =
    λ c i. cons-elim i (λ e. rw e (byte-is b (or_left (eqb b hyphen) h))) (λ j. byte-is c (l.every c j)) in
    yields-pure WordWithin (b ∷ bs) (record { filled = omega arith; least = λ c i. (each c i).0; no_dot = λ c i. (each c i).1 }))))

word-field-is : (W : ℕ) → Yields (word_field W) (λ w. w < W)
unfolding word_field
word-field-is W bs rest w e = ltb-true w W (allowed-is 8 (λ w. ltb w W) bs rest w e)

word-if-flag-is : (W : ℕ) → Yields (word_if_flag W) (WordsWithin W 0 1)
unfolding word_if_flag
word-if-flag-is W =
    yields-bind flag _ (λ b. Unit {0}) _ (yields-any flag) (λ b _.
    yields-choose (WordsWithin W 0 1) b (word_field W >>= λ w. pure (w ∷ [])) (pure [])
    (λ _. yields-bind (word_field W) _ (λ w. w < W) _ (word-field-is W) (λ w l.
    yields-pure (WordsWithin W 0 1) (w ∷ []) (record { least = zero-le; most = omega arith; below = λ v i. subst (λ n. n < W) (sym (Memᴰ.eq_of_singleton i)) l })))
    (λ _. yields-pure (WordsWithin W 0 1) [] (record { least = zero-le; most = omega arith; below = λ v i. absurd (Memᴰ.not-nil i) })))

name-is : (W : ℕ) → Yields (name W) (NameWithin W)
unfolding name
name-is W =
    yields-bind (word_field W) _ (λ w. w < W) _ (word-field-is W) (λ a l.
    yields-bind (word_if_flag W) _ (WordsWithin W 0 1) _ (word-if-flag-is W) (λ b h.
    let m = h.most in
    yields-pure (NameWithin W) (a ∷ b) (record { least = omega arith; most = omega arith; below = λ v i. cons-elim i (λ e. subst (λ n. n < W) (sym e) l) (h.below v) })))

associated-is : (W : ℕ) → Yields (associated W) (ResourceWithin W)
unfolding associated
associated-is W =
    yields-bind (word_field W) _ (λ w. w < W) _ (word-field-is W) (λ w l.
    yields-bind (word_if_flag W) _ (WordsWithin W 0 1) _ (word-if-flag-is W) (λ d h.
    yields-pure (ResourceWithin W) (record { word = w; dom = d }) (record { word = l; dom = h })))

associated-list-is : (W : ℕ) → Yields (associated_list W) (Counted (ResourceWithin W) 0 15)
unfolding associated_list
associated-list-is W = counted_is 4 0 15 (associated W) (ResourceWithin W) (associated-is W)

-- no resources
none_within : {W : ℕ} (a : Annotation) → Rattle.definitions.specs.Checks.resources_of a ≡ [] → AnnotationWithin W a
none_within a e = record { resources = rw e zero-le; resource = λ u i. absurd (Memᴰ.not-nil (rw e at i)) }

kinds-are : (W : ℕ) (one_word : Bool) → AllYield (AnnotationWithin W) (kinds W one_word)
unfolding kinds
kinds-are W one_word =
    let P = AnnotationWithin W in (
      yields-pure P make_list (none_within make_list refl),
      (
        yields-bind (associated_list W) _ (Counted (ResourceWithin W) 0 15) _ (associated-list-is W)
            (λ rs h. yields-pure P (associate rs) (record { resources = h.high; resource = h.every })),
        (
          yields-choose P one_word _ (refuse not_allowed)
              (λ _. yields-bind (associated_list W) _ (Counted (ResourceWithin W) 0 15) _ (associated-list-is W)
              (λ rs h. yields-pure P (nest_associate rs) (record { resources = h.high; resource = h.every })))
              (λ _. yields-refuse P not_allowed),
          (
            yields-bind (word_field W) _ (λ w. Unit {0}) _ (yields-any (word_field W)) (λ w _. yields-pure P (alias w) (none_within (alias w) refl)),
            (
              yields-bind (counted 4 0 15 (name W)) _ (λ ns. Unit {0}) _ (yields-any (counted 4 0 15 (name W)))
                  (λ ns _. yields-pure P (inherit ns) (none_within (inherit ns) refl)),
              (
                yields-bind (field 8) _ (λ t. Unit {0}) _ (yields-any (field 8)) (λ t _. yields-pure P (derive t) (none_within (derive t) refl)),
                (yields-pure P no_derive (none_within no_derive refl), tt),
              ),
            ),
          ),
        ),
      ),
    )

annotation-is : (W : ℕ) (one_word : Bool) → Yields (annotation W one_word) (AnnotationWithin W)
unfolding annotation
annotation-is W one_word =
    yields-bind (field 3) _ (λ k. Unit {0}) _ (yields-any (field 3)) (λ k _.
    yields-get_d (AnnotationWithin W) (kinds W one_word) k (refuse not_allowed) (kinds-are W one_word) (yields-refuse (AnnotationWithin W) not_allowed))

mark-is : Yields mark MarkWithin
unfolding mark
mark-is =
    yields-bind flag _ (λ b. Unit {0}) _ (yields-any flag) (λ b _.
    yields-choose MarkWithin b (field 8 >>= λ t. pure (derive_mark t)) (pure makelist_mark)
    (λ _. yields-bind (field 8) _ (λ t. t < 256) _ (field_below 0 8) (λ t l. yields-pure MarkWithin (derive_mark t) l))
    (λ _. yields-pure MarkWithin makelist_mark tt))

type-is : (W : ℕ) → Yields (type_info W) (TypeWithin W)
unfolding type_info
type-is W =
    yields-bind (name W) _ (NameWithin W) _ (name-is W) (λ n hn.
    yields-bind variant _ (λ v. Unit {0}) _ (yields-any variant) (λ v _.
    yields-bind flag _ (λ b. Unit {0}) _ (yields-any flag) (λ b _.
    yields-bind flag _ (λ b. Unit {0}) _ (yields-any flag) (λ c _.
    yields-bind (counted 4 0 8 (name W)) _ (Counted (NameWithin W) 0 8) _ (counted_is 4 0 8 (name W) (NameWithin W) (name-is W)) (λ ps hp.
    yields-bind (counted 4 0 12 (annotation W (eqb (length n) 1))) _ (Counted (AnnotationWithin W) 0 12) _
    (counted_is 4 0 12 (annotation W (eqb (length n) 1)) (AnnotationWithin W) (annotation-is W (eqb (length n) 1))) (λ as' ha.
    yields-bind (counted 3 0 7 mark) _ (Counted MarkWithin 0 7) _ (counted_is 3 0 7 mark MarkWithin mark-is) (λ ms hm.
    yields-pure (TypeWithin W) (record { name = n; variant = v; virtual = b; trait = c; parents = ps; annotations = as'; marks = ms })
    (record { name = hn; parents = hp.high; parent = hp.every; annotations = ha.high; annotation = ha.every; marks = hm.high; mark = hm.every }))))))))

extension-is : (W : ℕ) → Yields (extension W) (ExtensionWithin W)
unfolding extension
extension-is W =
    yields-bind (name W) _ (NameWithin W) _ (name-is W) (λ n hn.
    yields-bind (word_field W) _ (λ w. w < W) _ (word-field-is W) (λ w l.
    yields-bind (counted 4 1 8 (name W)) _ (Counted (NameWithin W) 1 8) _ (counted_is 4 1 8 (name W) (NameWithin W) (name-is W)) (λ ps h.
    yields-pure (ExtensionWithin W) (record { name = n; word = w; parents = ps }) (record { name = hn; word = l; parents = h.high; parent = h.every }))))

pub read-is-within : ReadIsWithin
unfolding sheet
read-is-within bits rest s =
    yields-bind (allowed 4 (λ v. eqb v 1)) _ (λ v. Unit {0}) Within (yields-any (allowed 4 (λ v. eqb v 1))) (λ v _.
    yields-bind (counted 8 2 200 word) _ (Counted WordWithin 2 200) Within (counted_is 8 2 200 word WordWithin word-is) (λ ws hw.
    yields-bind (counted 7 0 64 (type_info (length ws))) _ (Counted (TypeWithin (length ws)) 0 64) Within
    (counted_is 7 0 64 (type_info (length ws)) (TypeWithin (length ws)) (type-is (length ws))) (λ ts ht.
    yields-bind (counted 6 0 32 (extension (length ws))) _ (Counted (ExtensionWithin (length ws)) 0 32) Within
    (counted_is 6 0 32 (extension (length ws)) (ExtensionWithin (length ws)) (extension-is (length ws))) (λ es he.
    yields-pure Within (record { words = ws; types = ts; extensions = es })
    (record { least = hw.low; words = hw.high; word = hw.every; types = ht.high; type = ht.every; extensions = he.high; extension = he.every })))))
    bits rest s
