-- A test of the numbers of a set by a walk: what is left to ask, while `left` is left of the set.
use Rattle.std.specs.Prelude.{Bool, true, false, ◌&&◌, ◌||◌, ◌≡◌, ℕ}
use Rattle.std.proofs.Common.{sym, ap, ◌∙◌}
use Rattle.lists.specs.Lists.{any, all}
use Rattle.lists.specs.Tests.{by, never, any-in, all_in}
use Rattle.bitsets.specs.Bitsets.{members, Lowest, Rest}
use Rattle.bitsets.specs.BitLaws.{in_members, members-next, members-none}

module _ (f : ℕ → Bool) (set left : ℕ) where
  -- the lowest number of what is left has the property
  pub any_found : (k : ℕ) → any f (members set) ≡ any f (members left) → Lowest left k → f k ≡ true → true ≡ any f (members set)
  any_found k inv l e = sym (inv ∙ any-in f (in_members left l.place l.there) e)

  -- it does not, and the rest is left
  pub any-passed : (k r : ℕ) → any f (members set) ≡ any f (members left) → Lowest left k → Rest left r → f k ≡ false → any f (members set) ≡ any f (members r)
  any-passed k r inv l t e = inv ∙ ap (any f) (members-next left k r l t) ∙ ap (λ b. b || any f (members r)) e

  -- nothing is left
  pub any-end : any f (members set) ≡ any f (members left) → left ≡ 0 → false ≡ any f (members set)
  any-end inv e = sym (inv ∙ ap (any f) (members-none left e))

  -- the same where all have to have it
  pub all-failed : (k : ℕ) → all f (members set) ≡ all f (members left) → Lowest left k → f k ≡ false → false ≡ all f (members set)
  all-failed k inv l e = sym (inv ∙ by (all f (members left)) (λ t. never (all_in f t (in_members left l.place l.there)) e) (λ t. t))

  pub all-passed : (k r : ℕ) → all f (members set) ≡ all f (members left) → Lowest left k → Rest left r → f k ≡ true → all f (members set) ≡ all f (members r)
  all-passed k r inv l t e = inv ∙ ap (all f) (members-next left k r l t) ∙ ap (λ b. b && all f (members r)) e

  pub all_end : all f (members set) ≡ all f (members left) → left ≡ 0 → true ≡ all f (members set)
  all_end inv e = sym (inv ∙ ap (all f) (members-none left e))
