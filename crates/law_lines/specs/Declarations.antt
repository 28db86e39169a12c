-- The declarations of a sheet's map: those of its types, in name order, each name once.
use Rattle.std.specs.Prelude.{true, false, [], ◌∷◌, ◌≡◌, refl}
use mathlib.Core.List.Memᴰ
use Rattle.std.proofs.Math.Path.{sym}
use Rattle.std.proofs.Common.{ap, ◌∙◌}
use Rattle.lists.specs.Lists.{In, Sorted, null}
use Rattle.lists.specs.Tests.{never, null-not}
use Rattle.lists.specs.Sorting.{Distinct, sorted-imp, one_key}
use Rattle.definitions.specs.Records.{Name, TypeInfo, Sheet}
use Rattle.definitions.specs.Comparisons.{same_name, name_before, look_up}
use Rattle.definitions.specs.Map.{LineType, type_map_of, line_type_of, line_map_of}
use Rattle.definitions.specs.Making.{declared}
use Rattle.law_orders.specs.Comparisons.{name-strict, same-name, name-same, elem_in, elem_of, look-up-is, NamesAscend, names-once, names_apart, types-is, types-ascend}
use Rattle.lists.specs.Members.{filter-one, sorted-map}
use Rattle.law_lines.specs.Statements.{Readable, line_map}

module _ (s : Sheet) where
  pub type-in : {T : TypeInfo} → In T s.types → In (line_type_of T) (line_map s).types
  unfolding line_map_of
  type-in {T} i = Memᴰ.map line_type_of ((types-is s T).1 i)

  pub type-of : {X : LineType} → In X (line_map s).types → (T : TypeInfo) × In T s.types × (line_type_of T ≡ X)
  unfolding line_map_of
  type-of i = let r = Memᴰ.of_map line_type_of (type_map_of s).types i in (r.0, (types-is s r.0).0 r.1, r.2)

-- P's name stands among T's parents
pub inherits-in : (T : TypeInfo) {p : Name} → In p T.parents → (line_type_of T).inherits p ≡ true
unfolding line_type_of
inherits-in T i = elem_in i

pub inherits-of : (T : TypeInfo) (p : Name) → (line_type_of T).inherits p ≡ true → In p T.parents
unfolding line_type_of
inherits-of T p e = elem_of p T.parents e

pub name-is : (T : TypeInfo) → (line_type_of T).name ≡ T.name
unfolding line_type_of
name-is T = refl

module _ (s : Sheet) (ok : Readable s) where
  pub types-ascending : NamesAscend s.words (type_map_of s).types
  types-ascending = types-ascend s (names-once s ok.once)

  -- two types of one name are one (FORMAT 1.5)
  pub one_type : {T U : TypeInfo} → In T s.types → In U s.types → T.name ≡ U.name → T ≡ U
  one_type i j e = one_key (λ (T : TypeInfo). T.name) s.types (names_apart s (names-once s ok.once)) i j e

  pub declarations-ascend : Sorted (λ (P Q : LineType). name_before s.words P.name Q.name ≡ true) (line_map s).types
  unfolding line_map_of line_type_of
  declarations-ascend = sorted-map (λ (P Q : LineType). name_before s.words P.name Q.name ≡ true) line_type_of (type_map_of s).types types-ascending

  pub declarations-distinct : Distinct (line_map s).types
  declarations-distinct =
      sorted-imp (line_map s).types (λ P Q i j b e. never b (rw e ((name-strict s.words).irreflexive Q.name))) declarations-ascend

  -- two declarations of one name are one
  pub one-declaration : {X Y : LineType} → In X (line_map s).types → In Y (line_map s).types → X.name ≡ Y.name → X ≡ Y
  one-declaration {X} {Y} i j e =
      let x = type-of s i in
      let y = type-of s j in
      let n : x.0.name ≡ y.0.name = sym (name-is x.0) ∙ ap (λ (D : LineType). D.name) x.2 ∙ e ∙ sym (ap (λ (D : LineType). D.name) y.2) ∙ name-is y.0 in
      sym x.2 ∙ ap line_type_of (one_type x.1 y.1 n) ∙ y.2

  -- ---- what is declared under a name

  pub declared-one : {D : TypeInfo} {c : Name} → In D s.types → D.name ≡ c → declared (line_map s) c ≡ line_type_of D ∷ []
  unfolding look_up
  declared-one {D} {c} i e =
      filter-one (λ (X : LineType). same_name X.name c) (line_type_of D) (line_map s).types declarations-distinct (type-in s i) (name-same (name-is D ∙ e))
      (λ Y j t. one-declaration j (type-in s i) (same-name Y.name c t ∙ sym e ∙ sym (name-is D)))

  pub declared-some : (c : Name) → null (declared (line_map s) c) ≡ false → (D : TypeInfo) × In D s.types × (D.name ≡ c)
  declared-some c e =
      let r = null-not (declared (line_map s) c) e in
      let x = (look-up-is (λ (D : LineType). D.name) (line_map s).types c r.0).0 r.1 in
      let t = type-of s x.0 in
      (t.0, t.1, sym (name-is t.0) ∙ ap (λ (D : LineType). D.name) t.2 ∙ x.1)

  pub declared-none : (c : Name) → null (declared (line_map s) c) ≡ true → (D : TypeInfo) → In D s.types → D.name ≡ c → ⊥
  declared-none c e D i n = never e (rw (declared-one i n))
