-- Laws of the parts of a type.
use Rattle.std.specs.Prelude.{Bool, true, false, cond, Option, Some, None, List, ◌≡◌, ℕ, ◌+◌, ◌*◌, ◌/◌, ◌%◌, ◌≤◌, ◌<◌, eqb, leb, length, drop}
use Rattle.std.proofs.Math.Path.{refl}
use Rattle.std.proofs.Common.{sym, ap, ◌∙◌}
use Rattle.std.proofs.Math.Decide.{dec_le}
use native.Mathlib.Omega.{arith}
use borrow.Author.Tests.{le-leb, lt-leb, leb-true, leb-false}
use Rattle.definitions.specs.Bits.{bits_of, num}
use Rattle.definitions.specs.Parse.{Parsed, done, refused, Parser, next, ◌>>=◌, pure, field, allowed, between, flag, repeat, counted, past, not_allowed}
use Rattle.definitions.specs.Reading.{name, variant, annotation, mark, type_info}
use Rattle.definitions.specs.Records as records
use Rattle.bits.specs.declared.Cursor.{Cursor}
use Rattle.bits.specs.Reading.{read_at}
use Rattle.bits.specs.ReadLaws.{read-in}
use Rattle.std.proofs.lemmas.Option.{some_pair_parts}
use Rattle.bits.specs.NumberLaws.{num-lt}
use Rattle.sheet_draft.specs.Draft.{variant_of}
use Rattle.sheet_types.specs.Variants.{variant-number}
use Rattle.sheet_window.specs.WindowLaws.{field_in, field_past, split}
use Rattle.sheet_notes.specs.Notes.{notes}
use Rattle.sheet_types.specs.Rows.{Top, top, top_of, type_of}

-- ---- 8 bits at once

-- what a read tells
pub read-was : (bs : List Bool) (p n v : ℕ) (c : Cursor) → read_at bs p n ≡ Some (v, c) → (p + n ≤ length bs) × (num n (drop p bs) ≡ v) × (p + n ≡ c.at)
unfolding read_at
read-was bs p n v c e = go (leb (p + n) (length bs)) refl e
  where
    go : (t : Bool) → leb (p + n) (length bs) ≡ t → cond {A = Option (ℕ × Cursor)} t (Some (num n (drop p bs), record { at = p + n })) None ≡ Some (v, c) →
        (p + n ≤ length bs) × (num n (drop p bs) ≡ v) × (p + n ≡ c.at)
    go true h f = let z = some_pair_parts _ _ _ _ f in (leb-true (p + n) (length bs) h, z.0, ap (λ (d : Cursor). d.at) z.1)
    go false h f = let z : ◌≡◌ {A = ℕ} 0 1 = cc in absurd (omega arith)

pub read-not : (bs : List Bool) (p n : ℕ) → read_at bs p n ≡ None → length bs < p + n
unfolding read_at
read-not bs p n e = go (leb (p + n) (length bs)) refl e
  where
    go : (t : Bool) → leb (p + n) (length bs) ≡ t → cond {A = Option (ℕ × Cursor)} t (Some (num n (drop p bs), record { at = p + n })) None ≡ None → length bs < p + n
    go true h f = let z : ◌≡◌ {A = ℕ} 0 1 = cc in absurd (omega arith)
    go false h f = omega (arith, leb-false (p + n) (length bs) h)

-- 8 bits that are there are a read
pub window-read : (s : List ℕ) (p v : ℕ) → p + 8 ≤ 8 * length s → v ≡ num 8 (drop p (bits_of s)) → read_at (bits_of s) p 8 ≡ Some (v, record { at = p + 8 })
window-read s p v h e = rw e (read-in s p 8 h)

module _ (bs : List Bool) (p : ℕ) where
  abbrev h : ℕ
  h = num 8 (drop p bs)

  -- the 8 bits, field by field
  parts : h ≡ num 2 (drop p bs) * 64 + num 1 (drop (p + 2) bs) * 32 + num 1 (drop (p + 3) bs) * 16 + num 4 (drop (p + 4) bs)
  parts =
      let a : h ≡ num 2 (drop p bs) * 64 + num 6 (drop (p + 2) bs) = split bs p 2 6 (p + 2) refl in
      let b : num 6 (drop (p + 2) bs) ≡ num 1 (drop (p + 2) bs) * 32 + num 5 (drop (p + 3) bs) = split bs (p + 2) 1 5 (p + 3) (omega arith) in
      let c : num 5 (drop (p + 3) bs) ≡ num 1 (drop (p + 3) bs) * 16 + num 4 (drop (p + 4) bs) = split bs (p + 3) 1 4 (p + 4) (omega arith) in
      omega (arith, a, b, c)

  two : num 2 (drop p bs) < 4
  two = num-lt 2 (drop p bs)

  one : (q : ℕ) → num 1 (drop q bs) < 2
  one q = num-lt 1 (drop q bs)

  four : num 4 (drop (p + 4) bs) < 16
  four = num-lt 4 (drop (p + 4) bs)

  variant_in : p + 2 ≤ length bs → num 2 (drop p bs) < 3 → variant (drop p bs) ≡ done (variant_of (num 2 (drop p bs))) (drop (p + 2) bs)
  unfolding allowed
  variant_in l s =
      variant-number (drop p bs)
      ∙ rw (field_in bs p 2 (p + 2) (omega arith) refl l, le-leb 0 (num 2 (drop p bs)) (omega arith), le-leb (num 2 (drop p bs)) 2 (omega arith))

  pub top-variant : p + 2 ≤ length bs → 3 ≤ num 2 (drop p bs) → top (drop p bs) ≡ refused not_allowed
  unfolding top allowed
  top-variant l s =
      rw (variant-number (drop p bs), field_in bs p 2 (p + 2) (omega arith) refl l, le-leb 0 (num 2 (drop p bs)) (omega arith), lt-leb (num 2 (drop p bs)) 2 (omega arith))

  module _ (l : p + 8 ≤ length bs) (s : h < 192) where
    pub top_in : h % 16 ≤ 8 → top (drop p bs) ≡ done (top_of h) (drop (p + 8) bs)
    unfolding top allowed
    top_in k =
        let d : h % 16 ≡ num 4 (drop (p + 4) bs) = omega (arith, parts, one (p + 2), one (p + 3), four) in
        let a : h / 64 ≡ num 2 (drop p bs) = omega (arith, parts, one (p + 2), one (p + 3), four) in
        let m : h / 32 ≡ num 2 (drop p bs) * 2 + num 1 (drop (p + 2) bs) = omega (arith, parts, one (p + 2), one (p + 3), four) in
        let b : h / 32 % 2 ≡ num 1 (drop (p + 2) bs) = omega (arith, m, one (p + 2)) in
        let n : h / 16 ≡ num 2 (drop p bs) * 4 + num 1 (drop (p + 2) bs) * 2 + num 1 (drop (p + 3) bs) = omega (arith, parts, one (p + 2), one (p + 3), four) in
        let c : h / 16 % 2 ≡ num 1 (drop (p + 3) bs) = omega (arith, n, one (p + 3)) in
        let e : h % 16 % 9 ≡ num 4 (drop (p + 4) bs) = omega arith in
        rw (
          a,
          b,
          c,
          e,
          variant_in (omega arith) (omega arith),
          field_in bs (p + 2) 1 (p + 3) (omega arith) (omega arith) (omega arith),
          field_in bs (p + 3) 1 (p + 4) (omega arith) (omega arith) (omega arith),
          field_in bs (p + 4) 4 (p + 8) (omega arith) (omega arith) (omega arith),
          le-leb 0 (num 4 (drop (p + 4) bs)) (omega arith),
          le-leb (num 4 (drop (p + 4) bs)) 8 (omega arith),
        )

    pub top_count : 8 < h % 16 → top (drop p bs) ≡ refused not_allowed
    unfolding top allowed
    top_count k =
        let d : h % 16 ≡ num 4 (drop (p + 4) bs) = omega (arith, parts, one (p + 2), one (p + 3), four) in
        rw (
          variant_in (omega arith) (omega (arith, parts)),
          field_in bs (p + 2) 1 (p + 3) (omega arith) (omega arith) (omega arith),
          field_in bs (p + 3) 1 (p + 4) (omega arith) (omega arith) (omega arith),
          field_in bs (p + 4) 4 (p + 8) (omega arith) (omega arith) (omega arith),
          le-leb 0 (num 4 (drop (p + 4) bs)) (omega arith),
          lt-leb (num 4 (drop (p + 4) bs)) 8 (omega arith),
        )

  -- the variant of the 8 bits
  pub top-large : p + 8 ≤ length bs → 192 ≤ h → top (drop p bs) ≡ refused not_allowed
  top-large l s = top-variant (omega arith) (omega (arith, parts, one (p + 2), one (p + 3), four))

  -- the variant is not there
  pub top-none : length bs < p + 2 → top (drop p bs) ≡ refused past
  unfolding top allowed
  top-none l = rw (variant-number (drop p bs), field_past bs p 2 (omega arith) l)

  -- the variant is there, and something behind it is not
  pub top-short : p + 2 ≤ length bs → num 2 (drop p bs) < 3 → length bs < p + 8 → top (drop p bs) ≡ refused past
  unfolding top allowed
  top-short l s k =
      rw (variant_in l s)
      (elim (dec_le (p + 3) (length bs)) [
        | no a ↦ rw (field_past bs (p + 2) 1 (omega arith) (omega arith))
        | yes a ↦ rw (field_in bs (p + 2) 1 (p + 3) (omega arith) (omega arith) a)
            (elim (dec_le (p + 4) (length bs)) [
              | no b ↦ rw (field_past bs (p + 3) 1 (omega arith) (omega arith))
              | yes b ↦ rw (field_in bs (p + 3) 1 (p + 4) (omega arith) (omega arith) b, field_past bs (p + 4) 4 (omega arith) (omega arith))
            ])
      ])

-- ---- a type is its name, its top, its parents and its notes

abbrev rest_of : ℕ → List ℕ → Top → List (List ℕ) → Parser records.TypeInfo
rest_of W n h ps = do
  as' ← counted 4 0 12 (annotation W (eqb (length n) 1))
  ms ← counted 3 0 7 mark
  pure (type_of n h ps (record { annotations = as'; marks = ms }))

abbrev topped : ℕ → List ℕ → Top → Parser records.TypeInfo
topped W n h = do
  ps ← repeat (name W) h.count
  x ← notes W (eqb (length n) 1)
  pure (type_of n h ps x)

pub type-parts : (W : ℕ) (bs : List Bool) →
    type_info W bs
    ≡ next (name W bs) (λ n. top >>= λ h. repeat (name W) h.count >>= λ ps. notes W (eqb (length n) 1) >>= λ x. pure (type_of n h ps x))
unfolding type_info top notes counted
type-parts W bs = go (name W bs)
  where
    marks : (n : List ℕ) (h : Top) (ps : List (List ℕ)) (as' : List records.Annotation) (x : Parsed (List records.Mark)) →
        next x (λ ms. pure (type_of n h ps (record { annotations = as'; marks = ms })))
        ≡ next (next x (λ ms. pure (record { annotations = as'; marks = ms }))) (λ x. pure (type_of n h ps x))
    marks n h ps as' (done ms rest) = refl
    marks n h ps as' (refused r) = refl

    annotations : (n : List ℕ) (h : Top) (ps : List (List ℕ)) (x : Parsed (List records.Annotation)) →
        next x (λ as'. counted 3 0 7 mark >>= λ ms. pure (type_of n h ps (record { annotations = as'; marks = ms })))
        ≡ next (next x (λ as'. counted 3 0 7 mark >>= λ ms. pure (record { annotations = as'; marks = ms }))) (λ x. pure (type_of n h ps x))
    annotations n h ps (done as' rest) = marks n h ps as' (counted 3 0 7 mark rest)
    annotations n h ps (refused r) = refl

    listed : (n : List ℕ) (h : Top) (x : Parsed (List (List ℕ))) → next x (rest_of W n h) ≡ next x (λ ps. notes W (eqb (length n) 1) >>= λ x. pure (type_of n h ps x))
    listed n h (done ps rest) = annotations n h ps (counted 4 0 12 (annotation W (eqb (length n) 1)) rest)
    listed n h (refused r) = refl

    counts : (n : List ℕ) (v : records.Variant) (virtual trait : Bool) (x : Parsed ℕ) →
        next (next x (λ k. repeat (name W) k)) (rest_of W n (record { variant = v; virtual = virtual; trait = trait; count = 0 }))
        ≡ next (next x (λ k. pure (record { variant = v; virtual = virtual; trait = trait; count = k }))) (topped W n)
    counts n v virtual trait (done k rest) = listed n (record { variant = v; virtual = virtual; trait = trait; count = k }) (repeat (name W) k rest)
    counts n v virtual trait (refused r) = refl

    traits : (n : List ℕ) (v : records.Variant) (virtual : Bool) (x : Parsed ℕ) →
        next (next x (λ t. pure (eqb t 1))) (λ trait. counted 4 0 8 (name W) >>= rest_of W n (record { variant = v; virtual = virtual; trait = trait; count = 0 }))
        ≡ next (next (next x (λ t. pure (eqb t 1))) (λ trait. between 4 0 8 >>= λ k. pure (record { variant = v; virtual = virtual; trait = trait; count = k }))) (topped W n)
    traits n v virtual (done t rest) = counts n v virtual (eqb t 1) (between 4 0 8 rest)
    traits n v virtual (refused r) = refl

    virtuals : (n : List ℕ) (v : records.Variant) (x : Parsed ℕ) →
        next (next x (λ t. pure (eqb t 1))) (λ virtual. flag >>= λ trait. counted 4 0 8 (name W) >>= rest_of W n (record { variant = v; virtual = virtual; trait = trait; count = 0 }))
        ≡ next (next (next x (λ t. pure (eqb t 1))) (λ virtual. flag >>= λ trait. between 4 0 8 >>= λ k. pure (record { variant = v; virtual = virtual; trait = trait; count = k }))) (topped W n)
    virtuals n v (done t rest) = traits n v (eqb t 1) (field 1 rest)
    virtuals n v (refused r) = refl

    variants : (n : List ℕ) (x : Parsed records.Variant) →
        next x (λ v. flag >>= λ virtual. flag >>= λ trait. counted 4 0 8 (name W) >>= rest_of W n (record { variant = v; virtual = virtual; trait = trait; count = 0 }))
        ≡ next (next x (λ v. flag >>= λ virtual. flag >>= λ trait. between 4 0 8 >>= λ k. pure (record { variant = v; virtual = virtual; trait = trait; count = k }))) (topped W n)
    variants n (done v rest) = virtuals n v (field 1 rest)
    variants n (refused r) = refl

    go : (x : Parsed (List ℕ)) →
        next x (λ n. variant >>= λ v. flag >>= λ virtual. flag >>= λ trait. counted 4 0 8 (name W) >>= rest_of W n (record { variant = v; virtual = virtual; trait = trait; count = 0 }))
        ≡ next x (λ n. top >>= topped W n)
    go (done n rest) = variants n (variant rest)
    go (refused r) = refl

-- ---- what the code reads

module _ (bs : List Bool) (p : ℕ) where
  module _ (v : ℕ) (c : Cursor) (e : read_at bs p 8 ≡ Some (v, c)) where
    pub whole_top : v < 192 → v % 16 ≤ 8 → done (top_of v) (drop c.at bs) ≡ top (drop p bs)
    whole_top s k =
        let r = read-was bs p 8 v c e in
        let q : num 8 (drop p bs) ≡ v = r.1 in
        sym (top_in bs p r.0 (omega arith) (omega arith) ∙ rw (q, r.2))

    pub large-top : 192 ≤ v → refused not_allowed ≡ top (drop p bs)
    large-top s =
        let r = read-was bs p 8 v c e in
        let q : num 8 (drop p bs) ≡ v = r.1 in
        sym (top-large bs p r.0 (omega arith))

    pub many-top : v < 192 → 8 < v % 16 → refused not_allowed ≡ top (drop p bs)
    many-top s k =
        let r = read-was bs p 8 v c e in
        let q : num 8 (drop p bs) ≡ v = r.1 in
        sym (top_count bs p r.0 (omega arith) (omega arith))

  module _ (v : ℕ) (c : Cursor) (e : read_at bs p 2 ≡ Some (v, c)) where
    pub other-top : v ≡ 3 → refused not_allowed ≡ top (drop p bs)
    other-top s =
        let r = read-was bs p 2 v c e in
        let q : num 2 (drop p bs) ≡ v = r.1 in
        sym (top-variant bs p r.0 (omega arith))

    pub short-top : (v ≡ 3 → ⊥) → read_at bs p 8 ≡ None → refused past ≡ top (drop p bs)
    short-top s f =
        let r = read-was bs p 2 v c e in
        let q : num 2 (drop p bs) ≡ v = r.1 in
        sym (top-short bs p r.0 (omega (arith, num-lt 2 (drop p bs), s)) (read-not bs p 8 f))

  pub no_top : read_at bs p 2 ≡ None → refused past ≡ top (drop p bs)
  no_top e = sym (top-none bs p (read-not bs p 2 e))
