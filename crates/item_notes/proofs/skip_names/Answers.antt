use native.Mathlib.Omega.{arith}
use Rattle.std.proofs.Common.{rules, refl, sym, ◌∙◌, subst, Bool, List, [], ◌∷◌, ◌++◌, length, length-append, ◌≡◌, ℕ, ◌-◌, ◌^◌, ◌≤◌, ◌<◌}
use Rattle.std.proofs.lemmas.Fn.{serves_by, chained_keeps}
use Rattle.std.proofs.Math.ListN.{drop}
use Rattle.definitions.specs.Bits.{bits_of, num}
use Rattle.sheet_notes.specs.NoteLaws.{ranged}
use Rattle.item_notes.specs.Notes.{name_end}
use Rattle.item_notes.specs.NoteLaws.{NamesTo, room, names-start, names-there, names_more, names-all}
use Rattle.item_notes.proofs.skip_names.Goals as goal

-- where a name was passed for each number of xs
module _ (n : ℕ) (bs : List Bool) (at : ℕ) {F : Type 0} (f : F) where
  abbrev Left : List ℕ → F × ℕ → Type 0
  Left xs q = (q.0 ≡ f) × (length xs ≤ n → NamesTo n bs at q.1 (n - length xs))

  keeps : (xs : List ℕ) (q : F × ℕ) (x : ℕ) (v : F × ℕ) → Left xs q → (v.0 ≡ q.0) × (v.1 ≡ name_end q.1 (num 17 (drop q.1 bs))) → Left (xs ++ (x ∷ [])) v
  keeps xs q x v j o =
      let a = length-append xs (x ∷ []) in (
        o.0 ∙ j.0,
        λ l.
            let k : n - length xs - 1 ≡ n - length (xs ++ (x ∷ [])) = omega (arith, a) in
            subst (λ m. NamesTo n bs at v.1 m) k (subst (λ p. NamesTo n bs at p (n - length xs - 1)) (sym o.1)
            (names_more n bs at q.1 (n - length xs) (num 17 (drop q.1 bs)) (omega (arith, a, l)) refl (j.1 (omega (arith, a, l))))),
      )

  starts : Left [] (f, at)
  starts = (refl, λ _. subst (λ m. NamesTo n bs at at m) (omega arith) (names-start n bs at))

pub fold-requires-clause-callable : goal.fold-requires-clause-callable
fold-requires-clause-callable c =
    let a = c.args in
    let bs = bits_of a.s.now in
    serves_by _ (Left a.n bs a.at (record { 0 = a.s })) (λ xs q x v j r. let e = j.0 in keeps a.n bs a.at _ xs q x v j (search rules)) _ _ _ _ (starts a.n bs a.at _)
    (λ xs t q x u y z j.
    let l = ranged xs _ t y (omega arith) in
    let m = names-there a.n bs a.at q.1 (a.n - length xs) (num 17 (drop q.1 bs)) c.requires.names_at (omega (arith, l.0, l.1, z.1.0)) refl (j.1 (omega (arith, l.0, l.1, l.2))) in
    let k : q.1 < 2 ^ 63 = omega (arith, room a.s.now _ c.requires.addressable m) in
    search rules)

pub returns : goal.returns
returns c =
    let a = c.args in
    let bs = bits_of a.s.now in
    let h = c.fold.ensures.ran in
    let l = ranged h.0 _ h.2.1.0 h.2.1.1 (omega arith) in
    let j = chained_keeps _ (Left a.n bs a.at (record { 0 = a.s })) (λ xs q x v i r. let e = i.0 in keeps a.n bs a.at _ xs q x v i (search rules)) h.0 _ _ (starts a.n bs a.at _) h.3 in
    names-all a.n bs a.at c.fold.result (a.n - length h.0) (omega (arith, l.0, l.1, l.2, h.2.1.2.1.0)) (j.1 (omega (arith, l.0, l.1, l.2)))
