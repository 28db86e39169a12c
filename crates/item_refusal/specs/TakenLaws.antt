-- That the name of what is made is taken, asked of the types of two words and their owners, is what the definitions ask of each T
-- and r.
use Rattle.std.specs.Prelude.{Bool, ◌&&◌, ◌≡◌, refl, ℕ, ◌<◌, eqb, length}
use Rattle.std.proofs.Math.Bool.{true, not}
use Rattle.std.proofs.Math.Path.{sym, ap, ap₂}
use Rattle.std.proofs.Common.{◌∙◌, arith}
use borrow.Author.Tests.{eq-eqb, eqb-true, ltb-true, ltb-false, lt-ltb}
use Rattle.std.specs.Int.Bits.{bit_and, bit_or}
use Rattle.std.proofs.Math.Dec.{ltb}
use Rattle.lists.specs.Lists.{any}
use Rattle.lists.specs.Tests.{by, never, same_test, and_left, and_right, and_both, any-in, any_of}
use Rattle.lists.specs.Places.{get_d-in}
use Rattle.definitions.specs.Records.{Sheet}
use Rattle.definitions.specs.Map.{LineType, LineMap}
use Rattle.law_lines.specs.Statements.{Readable, line_map}
use Rattle.law_lines.specs.Within.{Within}
use Rattle.bitsets.specs.Bitsets.{members}
use Rattle.bitsets.specs.BitLaws.{members-of, in_members}
use Rattle.law_classes.specs.Sets.{both, some, word_of, masked, own_set, above_set, made_set, no_type, type_at}
use Rattle.law_classes.specs.Numbers.{place-of, fits_both, holds-both, holds-either, holds-some}
use Rattle.law_classes.specs.Refusal.{taken_name}
use Rattle.catalogue.specs.Layout.{own_at, above_at, owner_at}
use Rattle.catalogue.specs.Catalogue.{Catalogued}
use Rattle.catalogue.specs.declared.Catalogue.{Catalogue}
use Rattle.item_refusal.specs.Tests.{same_word, takes, pairs_in}
use Rattle.item_refusal.specs.WordLaws.{Named, named-pair, same-word-set, pairs-past, pairs-bit}

module _ (s : Sheet) (ok : Readable s) (within : Within s) (t : Catalogue) (k : Catalogued s t) where
  abbrev m : LineMap
  m = line_map s

  abbrev n : ℕ
  n = length m.types

  -- an owner is a type of the map
  pub owner-lt : (d : ℕ) → d < n → owner_at t d < 64 → owner_at t d < n
  owner-lt d h l =
      by (ltb (owner_at t d) n)
      (λ e. ltb-true (owner_at t d) n e)
      (λ e. absurd (omega (arith, l, k.owned.no_owner d h (ltb-false (owner_at t d) n e))))

  pub owner-is : (d : ℕ) → d < n → owner_at t d < 64 → Named (type_at m (owner_at t d)) (type_at m d) ≡ true
  owner-is d h l = sym (k.owned.owner d (owner_at t d) h (owner-lt d h l)) ∙ eq-eqb (owner_at t d) (owner_at t d) refl

  -- the type at a makes the word of the type at d, which is named after it
  meets : (d a : ℕ) → d < n → a < n → Named (type_at m a) (type_at m d) ≡ true
      → some m (both (made_set m (type_at m a)) (masked (word_of (type_at m d).name))) ≡ not (eqb (bit_and (bit_or (own_at t a) (above_at t a)) (same_word t d)) 0)
  unfolding made_set
  meets d a h i e =
      let T = type_at m a in
      let r = word_of (type_at m d).name in
      let x = bit_or (own_at t a) (above_at t a) in
      let w = same-word-set s ok within t k d T h (get_d-in m.types no_type a i) e in
      let z = k.sets a i in
      holds-some m (bit_and x (same_word t d)) (both (made_set m T) (masked r)) (fits_both m x (same_word t d) w.fits)
      (holds-both m x (same_word t d) (made_set m T) (masked r) (holds-either m (own_at t a) (above_at t a) (own_set T) (above_set m T) z.own z.above) w.is)

  abbrev Owned : LineType → LineType → Bool
  Owned T D = Named T D && some m (both (made_set m T) (masked (word_of D.name)))

  pub taken_is : any (taken_name m) m.types ≡ any (takes t) (members (pairs_in t))
  unfolding takes taken_name
  taken_is =
      same_test
      (λ e.
      let x = any_of (taken_name m) m.types e in
      let T = place-of no_type x.0 m.types x.1 in
      let y = any_of (Owned x.0) m.types x.2 in
      let D = place-of no_type y.0 m.types y.1 in
      let a = T.0 in
      let d = D.0 in
      let o : Owned (type_at m a) (type_at m d) ≡ true = ap₂ Owned T.2 D.2 ∙ y.2 in
      let i : Named (type_at m a) (type_at m d) ≡ true = and_left (Named (type_at m a) (type_at m d)) _ o in
      let q : owner_at t d ≡ a = eqb-true _ _ (k.owned.owner d a D.1 T.1 ∙ i) in
      let l : ltb (owner_at t d) 64 ≡ true = lt-ltb (owner_at t d) 64 (omega (arith, T.1, k.listed.few, q)) in
      any-in (takes t)
      (in_members (pairs_in t) (omega (arith, D.1, k.listed.few))
      (pairs-bit s ok within t k d D.1 ∙ ap not (named-pair s ok within t k (type_at m a) (type_at m d) (get_d-in m.types no_type a T.1) i)))
      (and_both l
      (ap (λ a. not (eqb (bit_and (bit_or (own_at t a) (above_at t a)) (same_word t d)) 0)) q
      ∙ sym (meets d a D.1 T.1 i)
      ∙ and_right (Named (type_at m a) (type_at m d)) _ o)))
      (λ e.
      let x = any_of (takes t) (members (pairs_in t)) e in
      let d = x.0 in
      let b = members-of (pairs_in t) x.1 in
      let a = owner_at t d in
      let l : a < 64 = ltb-true a 64 (and_left (ltb a 64) _ x.2) in
      by (ltb d n)
      (λ j.
      let h = ltb-true d n j in
      let i = owner-is d h l in
      any-in (taken_name m) (get_d-in m.types no_type a (owner-lt d h l))
      (any-in (Owned (type_at m a)) (get_d-in m.types no_type d h)
      (and_both i (meets d a h (owner-lt d h l) i ∙ and_right (ltb a 64) _ x.2))))
      (λ j. never b.1 (pairs-past s ok within t k d (ltb-false d n j))))
