-- A sheet, its sets as numbers and its order: what the code asks is no empty demand.
use Rattle.std.specs.Prelude.{true, false, List, [], ◌∷◌, ◌≡◌, refl, ℕ, ◌<◌, ◌≤◌, replicate, get_or, take}
use Rattle.std.proofs.Common.{sym, ◌∙◌, eq-eqb, ne_eqb, eqb-true, arith}
use Rattle.lists.specs.Tests.{never, or_left}
use Rattle.definitions.specs.Cases.{run}
use Rattle.law_lines.specs.Statements.{line_map}
use Rattle.definitions.specs.Map.{LineType}
use Rattle.rows.specs.Rows.{has_bit}
use Rattle.rows.specs.RowLaws.{bit-one, bit-none}
use Rattle.order_form.specs.Lists.{elem}
use Rattle.law_classes.specs.Sets.{named, given_set, type_at, SetIs}
use Rattle.item_spread.specs.Spread.{Ordered, Starts, Right, Spread}
use Rattle.law_classes.proofs.Instance.{accepted, accepted-readable, four}

-- what the code starts from
abbrev parents : List ℕ
parents = 0 ∷ 1 ∷ replicate 62 0

abbrev given : List ℕ
given = 12 ∷ 8 ∷ replicate 62 0

abbrev order : List ℕ
order = 0 ∷ 2 ∷ 3 ∷ 1 ∷ []

-- the bits of `parents` and of `given` at one type
abbrev Parented : ℕ → Type 0
Parented t = SetIs (line_map accepted) (get_or parents t 0) (λ (P : LineType). (type_at (line_map accepted) t).inherits P.name)

abbrev Given : ℕ → Type 0
Given t = SetIs (line_map accepted) (get_or given t 0) (given_set (type_at (line_map accepted) t))

past_one : (p : ℕ) → 4 ≤ p → has_bit 1 p ≡ false
past_one p h = bit-one 0 p ∙ ne_eqb 0 p (λ e. absurd (omega arith))

accepted-starts : Starts accepted parents given
unfolding run has_bit given_set named
accepted-starts = record {
  few = omega arith;
  parents = four Parented (four _ refl refl refl refl) (four _ refl refl refl refl) (four _ refl refl refl refl) (four _ refl refl refl refl);
  within = λ t p h k. four (λ t. has_bit (get_or parents t 0) p ≡ false) (bit-none p) (past_one p k) (bit-none p) (bit-none p) t h;
  given = four Given (four _ refl refl refl refl) (four _ refl refl refl refl) (four _ refl refl refl refl) (four _ refl refl refl refl);
}

before-b : (p : ℕ) → has_bit 1 p ≡ true → elem p (0 ∷ 2 ∷ 3 ∷ []) ≡ true
before-b p e = or_left _ (eq-eqb p 0 (sym (eqb-true 0 p (sym (bit-one 0 p) ∙ e))))

accepted-ordered : Ordered order 4 parents
accepted-ordered = record {
  room = omega arith;
  few = omega arith;
  place = four (λ i. get_or order i 0 < 64) (omega arith) (omega arith) (omega arith) (omega arith);
  before = λ i p h k e.
      four (λ i. has_bit (get_or parents (get_or order i 0) 0) p ≡ true → elem p (take i order) ≡ true)
      (λ e. never e (bit-none p)) (λ e. never e (bit-none p)) (λ e. never e (bit-none p)) (before-b p) i h e;
}

-- what the code then makes of `b`: from above `file` and `c.file`
spread-b : (above passed : List ℕ) → Spread order 4 parents given above passed → Right accepted (get_or above 1 0) (get_or passed 1 0) 1
unfolding run
spread-b above passed d = d.right accepted accepted-readable accepted-starts 1 (omega arith) refl
