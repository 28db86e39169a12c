-- How long a list is that is put together of others.
use Rattle.std.specs.Prelude.{List, [], ◌∷◌, ◌≡◌, refl, ℕ, ◌+◌, sum_by, length}
use Rattle.std.proofs.Common.{sym, ap, ◌∙◌, length-append}
use Rattle.std.proofs.lemmas.List.Sums.{sum_by-cons}
use Rattle.lists.specs.Lists.{each}

pub each_long : {A B : Type 0} (f : A → List B) (l : List A) → length (each f l) ≡ sum_by (λ x. length (f x)) l
each_long f [] = refl
each_long f (x ∷ l) = length-append (f x) (each f l) ∙ ap (λ (n : ℕ). length (f x) + n) (each_long f l) ∙ sym (sum_by-cons (λ y. length (f y)) x l)
