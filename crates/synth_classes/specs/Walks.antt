-- Walks over the doms of a row, and the classes of a row.
use Rattle.std.specs.Prelude.{Bool, ◌&&◌, List, [], ◌∷◌, map, find, Some, None, ◌≡◌, refl, ℕ}
use Rattle.std.proofs.Common.{sym, ap, ◌∙◌}
use Rattle.std.proofs.lemmas.Option.{none-some, same_Some}
use Rattle.lists.specs.Lists.{filter}
use Rattle.lists.specs.Tests.{by}
use Rattle.lists.specs.Appending.{map-map, filter_map, filter_alike}
use Rattle.rows.specs.declared.Row.{Row}
use Rattle.rows.specs.Rows.{has}
use Rattle.rows.specs.Lists.{below, filter-between}
use Rattle.synth_annotations.specs.Reading.{dom_at, doms_of}
use Rattle.definitions.specs.Records.{Name}
use Rattle.definitions.specs.Comparisons.{dotted}
use Rattle.synth_classes.specs.Made.{class_name, classes_of}

-- a dom of the row of which f holds
abbrev pub among : Row → (ℕ → Bool) → ℕ → Bool
among doms f k = has doms k && f k

-- those are kept of the doms of the row
pub among-kept : (doms : Row) (f : ℕ → Bool) → below (among doms f) 201 ≡ filter f (below (has doms) 201)
among-kept doms f = sym (filter-between f (has doms) 0 201)

-- what is found first is the first that is kept
kept-found : (f : ℕ → Bool) (l : List ℕ) (k : ℕ) → find f l ≡ Some k → (rest : List ℕ) × (filter f l ≡ k ∷ rest)
kept-found f [] k e = absurd (none-some k e)
kept-found f (x ∷ l) k e =
    by (f x)
    (λ q. let z : x ≡ k = same_Some x k (rw q at e) in (filter f l, rw (q, z)))
    (λ q. let r = kept-found f l k (rw q at e) in (r.0, rw q r.1))

kept-none : (f : ℕ → Bool) (l : List ℕ) → find f l ≡ None → filter f l ≡ []
kept-none f [] e = refl
kept-none f (x ∷ l) e =
    by (f x)
    (λ q. absurd (none-some x (sym (rw q at e))))
    (λ q. rw q (kept-none f l (rw q at e)))

-- the first of them, or none
pub found-first : (doms : Row) (f : ℕ → Bool) (k : ℕ) → find f (below (has doms) 201) ≡ Some k → (rest : List ℕ) × (below (among doms f) 201 ≡ k ∷ rest)
found-first doms f k e = let q = kept-found f (below (has doms) 201) k e in (q.0, among-kept doms f ∙ q.1)

pub found-none : (doms : Row) (f : ℕ → Bool) → find f (below (has doms) 201) ≡ None → below (among doms f) 201 ≡ []
found-none doms f e = among-kept doms f ∙ kept-none f (below (has doms) 201) e

-- ---- the classes of a row

pub class-names : (doms : Row) (word : ℕ) → classes_of doms word ≡ map (class_name word) (below (has doms) 201)
unfolding doms_of
class-names doms word = map-map (λ d. dotted d word) dom_at (below (has doms) 201)

-- the classes of which a test of names holds are those of the doms of which it holds
pub classes-with : (f : Name → Bool) (g : ℕ → Bool) (doms : Row) (word : ℕ) → ((k : ℕ) → f (class_name word k) ≡ g k)
    → filter f (classes_of doms word) ≡ map (class_name word) (below (among doms g) 201)
classes-with f g doms word e =
    ap (filter f) (class-names doms word)
    ∙ filter_map f (class_name word) (below (has doms) 201)
    ∙ ap (map (class_name word)) (filter_alike (λ k. f (class_name word k)) g e (below (has doms) 201) ∙ filter-between g (has doms) 0 201)
