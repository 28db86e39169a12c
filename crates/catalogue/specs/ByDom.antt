-- The classes of a word in the order of their doms (FORMAT 1.6, 4.4). Where no word has a hyphen the places are in that order.
use Rattle.std.specs.Prelude.{true, cond, List, ◌≡◌, ℕ, ◌+◌, ◌*◌, ◌≤◌, ◌<◌, ltb}
use Rattle.lists.specs.Lists.{sort}
use Rattle.rows.specs.Rows.{has_bit}
use Rattle.bitsets.specs.Bitsets.{members, more, less}
use Rattle.catalogue.specs.Layout.{key_at}
use Rattle.catalogue.specs.declared.Catalogue.{Catalogue}

-- By key, and where keys are equal, which no two types of a map have, by place.
abbrev pub key_rank : Catalogue → ℕ → ℕ
key_rank t a = key_at t a * 64 + a

-- What the types of one second word are ordered by: the place, or the key where a word has a hyphen.
unfoldable pub rank : Catalogue → ℕ → ℕ
rank t a = cond t.hyphens (key_rank t a) a

-- The members of a set in that order.
unfoldable pub by_dom : Catalogue → ℕ → List ℕ
by_dom t set = sort (λ a b. ltb (rank t a) (rank t b)) (members set)

-- The set without a member.
abbrev pub but : ℕ → ℕ → ℕ
but set k = less set (more 0 k)

-- The member with the least key.
pub record LeastKey (t : Catalogue) (set k : ℕ) : Type 0 where
  pub place : k < 64
  pub there : has_bit set k ≡ true
  pub least : (j : ℕ) → j < 64 → has_bit set j ≡ true → key_rank t k ≤ key_rank t j

-- The first member by dom.
pub record FirstByDom (t : Catalogue) (set k : ℕ) : Type 0 where
  pub place : k < 64
  pub there : has_bit set k ≡ true
  pub first : (j : ℕ) → j < 64 → has_bit set j ≡ true → rank t k ≤ rank t j
