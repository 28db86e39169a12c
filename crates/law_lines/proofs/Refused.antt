-- Refused types, tested: each ground of a refusal through the computed side, and all of them in one test.
use Rattle.std.specs.Prelude.{Bool, true, false, ◌&&◌, ◌||◌, not, List, [], ◌∷◌, ◌++◌, ◌↔◌, ◌≡◌, refl, ℕ}
use Rattle.std.proofs.Common.{⊎_elim, sym, ap, ◌∙◌, subst}
use Rattle.std.proofs.lemmas.Bool.{not-true}
use Rattle.lists.specs.Lists.{In, any, null, repeats}
use Rattle.lists.specs.Tests.{by, never, not_so, and_left, or_cases, or_left, or_right, any-in, any_of, any-not, any_none, all-not, null-in}
use Rattle.definitions.specs.Records.{Name, Variant, domain, resource, other, TypeInfo, Sheet}
use Rattle.definitions.specs.Comparisons.{dotted}
use Rattle.definitions.specs.Map.{LineType, line_type_of}
use Rattle.definitions.specs.Making.{declared, is_resource_variant, is_resource, same_item}
use Rattle.definitions.specs.Items.{ancestors, words_made, items_for}
use Rattle.definitions.specs.Lines.{HasMaking, ClassOf, Refused}
use Rattle.law_lines.specs.Statements.{Readable, line_map, DeclaredFor, classes_of, is_refused, RefusedIsTested, any_refused, AcceptedIsTested}
use Rattle.law_lines.specs.Declarations.{type-in, type-of, declared-one, declared-some, declared-none}
use Rattle.law_lines.specs.Associating.{above, made-is, classes-are}
use Rattle.law_lines.specs.Once.{for-once}
use Rattle.law_lines.specs.Identical.{identical-or-not, none-identical}
use Rattle.law_lines.specs.SameItem.{once-tested, tested-once}

-- ---- the grounds

pub variant_is : (v : Variant) → is_resource_variant v ≡ true → v ≡ Variant.resource
variant_is domain e = never e refl
variant_is resource e = refl
variant_is other e = never e refl

module _ (s : Sheet) (ok : Readable s) (T : TypeInfo) where
  abbrev classes : List Name
  classes = classes_of (line_type_of T) (above s ok T)

  -- the first ground: a class that is not declared (FORMAT 4.9)
  pub undeclared-is : (any (λ c. null (declared (line_map s) c)) classes ≡ true) ↔ ((c : Name) × ClassOf s T c × ((D : TypeInfo) → In D s.types → D.name ≡ c → ⊥))
  undeclared-is = (
    λ e. let x = any_of (λ c. null (declared (line_map s) c)) classes e in (x.0, (classes-are s ok T x.0).0 x.1, declared-none s ok x.0 x.2),
    λ h.
        any-in (λ c. null (declared (line_map s) c)) ((classes-are s ok T h.0).1 h.1)
        (by (null (declared (line_map s) h.0)) (λ p. p) (λ p. let d = declared-some s ok h.0 p in absurd (h.2 d.0 d.1 d.2))),
  )

  -- where none is, every class is declared
  pub all-declared : any (λ c. null (declared (line_map s) c)) classes ≡ false → DeclaredFor s T
  all-declared e c h = declared-some s ok c (any-not (λ c. null (declared (line_map s) c)) e ((classes-are s ok T c).1 h))

  resource-is : {D : TypeInfo} {c : Name} → In D s.types → D.name ≡ c → is_resource (line_map s) c ≡ (is_resource_variant D.variant && true)
  unfolding line_type_of
  resource-is i e = rw (declared-one s ok i e)

  -- the second: a class of another variant; an undeclared class is no ground of this kind
  pub no-resource-is : (any (λ c. not (is_resource (line_map s) c)) classes ≡ true)
      ↔ ((c : Name) × (D : TypeInfo) × ClassOf s T c × In D s.types × (D.name ≡ c) × (D.variant ≡ Variant.resource → ⊥))
  no-resource-is =
      let f : Name → Bool = λ c. not (is_resource (line_map s) c) in
      let v : LineType → Bool = λ D. is_resource_variant D.variant in (
        λ e.
            let x = any_of f classes e in
            let c = x.0 in
            let n : is_resource (line_map s) c ≡ false = not-true (is_resource (line_map s) c) x.2 in
            let y = all-not v (declared (line_map s) c) n in
            let d = declared-some s ok c (not_so (λ p. null-in p y.1)) in
            (c, d.0, (classes-are s ok T c).0 x.1, d.1, d.2, λ q. never (resource-is d.1 d.2 ∙ ap (λ w. is_resource_variant w && true) q) n),
        λ h.
            any-in f ((classes-are s ok T h.0).1 h.2)
            (ap not (not_so (λ e. h.5 (variant_is h.1.variant (and_left (is_resource_variant h.1.variant) true (sym (resource-is h.3 h.4) ∙ e)))))),
      )

  -- the third: a word with a making whose T.r is declared
  pub declared-is : (any (λ r. not (null (declared (line_map s) (dotted T.name r)))) (words_made (line_type_of T) (above s ok T)) ≡ true)
      ↔ ((r : ℕ) × (D : TypeInfo) × HasMaking s T r × In D s.types × (D.name ≡ T.name ++ (r ∷ [])))
  declared-is =
      let f : ℕ → Bool = λ r. not (null (declared (line_map s) (dotted T.name r))) in (
        λ e.
            let x = any_of f (words_made (line_type_of T) (above s ok T)) e in
            let d = declared-some s ok (dotted T.name x.0) (not-true (null (declared (line_map s) (dotted T.name x.0))) x.2) in
            (x.0, d.0, (made-is s ok T x.0).0 x.1, d.1, d.2),
        λ h. any-in f ((made-is s ok T h.0).1 h.2) (rw (declared-one s ok h.3 h.4)),
      )

-- ---- one test for all of them

module _ (s : Sheet) (ok : Readable s) (T : TypeInfo) where
  abbrev lost : Bool
  lost = any (λ c. null (declared (line_map s) c)) (classes s ok T)

  abbrev wrong : Bool
  wrong = any (λ c. not (is_resource (line_map s) c)) (classes s ok T)

  abbrev taken : Bool
  taken = any (λ r. not (null (declared (line_map s) (dotted T.name r)))) (words_made (line_type_of T) (above s ok T))

  abbrev twice : Bool
  twice = repeats same_item (items_for (line_map s) (line_type_of T) (above s ok T))

  tested : (lost || (wrong || (taken || twice))) ≡ true → Refused s T
  tested e =
      by lost
      (λ p. let h = (undeclared-is s ok T).0 p in Refused.undeclared h.0 h.1 h.2)
      (λ p.
      ⊎_elim
      (λ q. let h = (no-resource-is s ok T).0 q in Refused.no-resource h.0 h.1 h.2 h.3 h.4 h.5)
      (λ q.
      ⊎_elim
      (λ t. let h = (declared-is s ok T).0 t in Refused.declared h.0 h.1 h.2 h.3 h.4)
      (λ t.
      ⊎_elim
      (λ h. Refused.identical h.0 h.1 h.2 h.3 h.4 h.5)
      (λ n. never t (once-tested (items_for (line_map s) (line_type_of T) (above s ok T)) (for-once s ok T (all-declared s ok T p) n)))
      (identical-or-not s ok T (all-declared s ok T p)))
      (or_cases taken twice q))
      (or_cases wrong (taken || twice) (rw p at e)))

  refused : Refused s T → (lost || (wrong || (taken || twice))) ≡ true
  refused (Refused.undeclared c h n) = or_left (wrong || (taken || twice)) ((undeclared-is s ok T).1 (c, h, n))
  refused (Refused.no-resource c D h i e n) = or_right lost (or_left (taken || twice) ((no-resource-is s ok T).1 (c, D, h, i, e, n)))
  refused (Refused.declared r D h i e) = or_right lost (or_right wrong (or_left twice ((declared-is s ok T).1 (r, D, h, i, e))))
  refused (Refused.identical a b x n h g) =
      or_right lost (or_right wrong (or_right taken
      (by twice (λ t. t) (λ t. absurd (none-identical s ok T (tested-once (items_for (line_map s) (line_type_of T) (above s ok T)) t) a b x n h g)))))

pub refused-is-tested : RefusedIsTested
unfolding is_refused line_type_of
refused-is-tested s ok T = (tested s ok T, refused s ok T)

pub accepted-is-tested : AcceptedIsTested
unfolding any_refused
accepted-is-tested s ok =
    let f : LineType → Bool = λ D. is_refused (line_map s) D (ancestors (line_map s) D) in (
      λ e T i h. never ((refused-is-tested s ok T).1 h) (any-not f e (type-in s i)),
      λ a.
          any_none f (line_map s).types (λ X i.
          let t = type-of s i in
          not_so (λ e. a t.0 t.1 ((refused-is-tested s ok t.0).0 (subst (λ D. f D ≡ true) (sym t.2) e)))),
    )
