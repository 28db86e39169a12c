-- The numbers of a row that are left to go through.
use Rattle.std.specs.Prelude.{true, List, [], ◌∷◌, ◌≡◌, ℕ, ◌+◌, ◌-◌, ◌≤◌, ◌<◌, ltb, Option, Some, None, option_map, refl}
use Rattle.std.proofs.Common.{ap, ◌∙◌, arith, ltb-true, ltb-false}
use Rattle.lists.specs.Tests.{by, never, or_left}
use Rattle.rows.specs.Rows.{has}
use Rattle.rows.specs.Lists.{eqb_same, elem, between, elem-before, elem_below}
use Rattle.rows.specs.Next.{Next}
use Rattle.rows.specs.NextLaws.{from_next, from-there, from_all}
use Rattle.synth_classes.specs.declared.numbers.Numbers.{Numbers}

abbrev pub numbers_left : (N : ℕ) → Numbers N → List ℕ
numbers_left N s = between (has s.row) s.from (N - s.from)

-- the next of them, and none
module _ (N : ℕ) (s : Numbers N) (k : ℕ) (n : Next s.row s.from k) where
  pub next_number : k < N → numbers_left N s ≡ k ∷ between (has s.row) (k + 1) (N - (k + 1))
  next_number h = from_next (has s.row) 256 s.from k N n (omega (arith, s.few)) ∙ from-there (has s.row) k N h (n.some (omega (arith, s.few)))

  pub last_number : N ≤ k → numbers_left N s ≡ []
  last_number h = from_all (has s.row) 256 s.from k N n h

-- each is below N
pub number_below : (N : ℕ) (s : Numbers N) (k : ℕ) (rest : List ℕ) → numbers_left N s ≡ k ∷ rest → k < N
number_below N s k rest e =
    let t : elem k (numbers_left N s) ≡ true = ap (elem k) e ∙ or_left (elem k rest) (eqb_same k) in
    by (ltb k s.from)
    (λ q. never t (elem-before (has s.row) k s.from (N - s.from) (ltb-true k s.from q)))
    (λ q. omega (arith, elem_below (has s.row) k s.from (N - s.from) t, ltb-false k s.from q))

pub same_found : (r : Option ℕ) → r ≡ option_map (λ x. x) r
same_found None = refl
same_found (Some k) = refl
