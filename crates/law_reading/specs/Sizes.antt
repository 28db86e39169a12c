-- How many bits a legal map takes at most.
use Rattle.std.specs.Prelude.{Bool, List, [], ◌∷◌, ℕ, ◌+◌, ◌*◌, ◌≤◌, length}
use Rattle.std.proofs.Common.{arith, mul-le-mul_left, length-append}
use Rattle.lists.specs.Lists.{each}
use Rattle.definitions.specs.Bits.{to_bits}
use Rattle.definitions.specs.Records.{Name, Resource, make_list, associate, nest_associate, alias, inherit, derive, no_derive, Annotation, Variant, domain, resource, other, Mark, makelist_mark, derive_mark, TypeInfo, Extension, Sheet}
use Rattle.definitions.specs.Checks.{kind_of}
use Rattle.definitions.specs.Packing.{counted_bits, word_if_flag_bits, name_bits, mark_bits}
use Rattle.definitions.specs.Legal.{Every, Counted, LegalWord, LegalWordIfAny, LegalName, LegalResource, LegalResources, LegalAnnotation, LegalMark, LegalType, LegalExtension, WithinLimits}
use Rattle.definitions.specs.Encoding.{word_bits, resource_bits, content_bits, annotation_bits, variant_bits, type_bits, extension_bits, sheet_bits}
use Rattle.bits.specs.NumberLaws.{length-to_bits}

-- where each entry of P takes at most k bits
each-size : {A : Type 0} (f : A → List Bool) (P : A → Type 0) (k : ℕ) → ((a : A) → P a → length (f a) ≤ k) → (l : List A) → Every P l → length (each f l) ≤ k * length l
each-size f P k h [] e = omega arith
each-size f P k h (x ∷ l) e =
    let a = h x e.0 in
    let b = each-size f P k h l e.1 in
    rw (length-append (f x) (each f l)) (omega arith)

counted-sum : {A : Type 0} (n least most : ℕ) (f : A → List Bool) (P : A → Type 0) (k : ℕ) → ((a : A) → P a → length (f a) ≤ k) →
    (l : List A) → Counted least most P l → length (to_bits n (length l)) + length (each f l) ≤ n + k * most
counted-sum n least most f P k h l c =
    let a = each-size f P k h l c.every in
    let b : k * length l ≤ k * most = mul-le-mul_left k c.few in
    rw (length-to_bits n (length l)) (omega arith)

counted-size : {A : Type 0} (n least most : ℕ) (f : A → List Bool) (P : A → Type 0) (k : ℕ) → ((a : A) → P a → length (f a) ≤ k) →
    (l : List A) → Counted least most P l → length (counted_bits n f l) ≤ n + k * most
counted-size n least most f P k h l c = rw (length-append (to_bits n (length l)) (each f l)) (counted-sum n least most f P k h l c)

field-size : (P : ℕ → Type 0) (n v : ℕ) → P v → length (to_bits n v) ≤ n
field-size P n v p = omega (arith, length-to_bits n v)

any-every : (l : List ℕ) → Every (λ v. Unit {0}) l
any-every [] = tt
any-every (x ∷ l) = (tt, any-every l)

word_size : (w : List ℕ) → LegalWord w → length (word_bits w) ≤ 253
unfolding word_bits
word_size [] h = absurd h
word_size (b ∷ w) h =
    let few = h.1.few in
    counted-size 5 1 31 (to_bits 8) (λ v. Unit {0}) 8 (λ v u. field-size (λ v. Unit {0}) 8 v u) (b ∷ w)
    (record { enough = omega arith; few = omega arith; every = any-every (b ∷ w) })

flagged-size : (W : ℕ) (l : List ℕ) → LegalWordIfAny W l → length (word_if_flag_bits l) ≤ 9
flagged-size W [] h = omega arith
flagged-size W (w ∷ []) h = omega (arith, length-to_bits 8 w)
flagged-size W (w ∷ v ∷ l) h = absurd h

name-size : (W : ℕ) (n : Name) → LegalName W n → length (name_bits n) ≤ 17
unfolding name_bits
name-size W [] h = absurd h
name-size W (a ∷ b) h = rw (length-append (to_bits 8 a) (word_if_flag_bits b)) (omega (arith, length-to_bits 8 a, flagged-size W b h.1))

resource-size : (W : ℕ) (r : Resource) → LegalResource W r → length (resource_bits r) ≤ 17
unfolding resource_bits
resource-size W r h =
    rw (length-append (to_bits 8 r.word) (word_if_flag_bits r.dom)) (omega (arith, length-to_bits 8 r.word, flagged-size W r.dom h.dom))

resources-size : (W : ℕ) (rs : List Resource) → LegalResources W rs → length (counted_bits 4 resource_bits rs) ≤ 259
resources-size W rs h = counted-size 4 0 15 resource_bits (LegalResource W) 17 (resource-size W) rs h

names-size : (W least most : ℕ) (ns : List Name) → Counted least most (LegalName W) ns → length (counted_bits 4 name_bits ns) ≤ 4 + 17 * most
names-size W least most ns h = counted-size 4 least most name_bits (LegalName W) 17 (name-size W) ns h

content-size : (W : ℕ) (n : Name) (a : Annotation) → LegalAnnotation W n a → length (content_bits a) ≤ 259
unfolding content_bits
content-size W n make_list h = omega arith
content-size W n (associate rs) h = resources-size W rs h
content-size W n (nest_associate rs) h = resources-size W rs h.1
content-size W n (alias w) h = omega (arith, length-to_bits 8 w)
content-size W n (inherit ns) h = names-size W 0 15 ns h
content-size W n (derive t) h = omega (arith, length-to_bits 8 t)
content-size W n no_derive h = omega arith

annotation-size : (W : ℕ) (n : Name) (a : Annotation) → LegalAnnotation W n a → length (annotation_bits a) ≤ 262
unfolding annotation_bits
annotation-size W n a h =
    rw (length-append (to_bits 3 (kind_of a)) (content_bits a)) (omega (arith, length-to_bits 3 (kind_of a), content-size W n a h))

variant-size : (v : Variant) → length (variant_bits v) ≤ 2
unfolding variant_bits
variant-size domain = omega (arith, length-to_bits 2 0)
variant-size resource = omega (arith, length-to_bits 2 1)
variant-size other = omega (arith, length-to_bits 2 2)

mark-size : (m : Mark) → LegalMark m → length (mark_bits m) ≤ 9
unfolding mark_bits
mark-size makelist_mark h = omega arith
mark-size (derive_mark t) h = omega (arith, length-to_bits 8 t)

type-size : (W : ℕ) (T : TypeInfo) → LegalType W T → length (type_bits T) ≤ 3375
unfolding type_bits
type-size W T h =
    let n = name-size W T.name h.name in
    let v = variant-size T.variant in
    let p = counted-sum 4 0 8 name_bits (LegalName W) 17 (name-size W) T.parents h.parents in
    let a = counted-sum 4 0 12 annotation_bits (LegalAnnotation W T.name) 262 (annotation-size W T.name) T.annotations h.annotations in
    let m = counted-sum 3 0 7 mark_bits LegalMark 9 mark-size T.marks h.marks in
    simp length-append (omega arith)

extension-size : (W : ℕ) (e : Extension) → LegalExtension W e → length (extension_bits e) ≤ 165
unfolding extension_bits
extension-size W e h =
    let n = name-size W e.name h.name in
    let w = length-to_bits 8 e.word in
    let p = counted-sum 4 1 8 name_bits (LegalName W) 17 (name-size W) e.parents h.parents in
    simp length-append (omega arith)

-- 33,989 bytes at most
pub sheet-size : (s : Sheet) → WithinLimits s → length (sheet_bits s) ≤ 271905
unfolding sheet_bits
sheet-size s h =
    let W = length s.words in
    let v = length-to_bits 4 1 in
    let w = counted-sum 8 2 200 word_bits LegalWord 253 word_size s.words h.words in
    let t = counted-sum 7 0 64 type_bits (LegalType W) 3375 (type-size W) s.types h.types in
    let e = counted-sum 6 0 32 extension_bits (LegalExtension W) 165 (extension-size W) s.extensions h.extensions in
    simp length-append (omega arith)
