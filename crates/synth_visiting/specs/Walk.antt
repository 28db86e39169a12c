-- The trail of the visit by places in name order: `reach` over the compact form.
use Rattle.std.specs.Prelude.{Bool, true, false, ◌&&◌, not, List, [], ◌∷◌, ◌++◌, map, ℕ, zero, suc}
use Rattle.order_form.specs.Lists.{elem}
use Rattle.order_form.specs.Reading.{listed}
use Rattle.order_form.specs.declared.Parent.{Parent}
use Rattle.order_form.specs.declared.Parents.{Parents}

-- a type that is interpreted, and for each of its listed parents whether this listing was the first to reach it
pub record Stop : Type 0 where
  pub place : ℕ
  pub fresh : List Bool

abbrev pub spots : List Stop → List ℕ
spots l = map (λ (x : Stop). x.place) l

-- the parents of a type, one after the other
unfoldable pub walk_all : (ℕ → List Stop → List Stop) → List Parent → List Stop → List Bool → List Stop × List Bool
walk_all call [] l fs = (l, fs)
walk_all call (q ∷ qs) l fs = walk_all call qs (call q.place l) (fs ++ ((not (elem q.place (spots l)) && elem q.place (spots (call q.place l))) ∷ []))

-- a type is noted when it is first reached, behind its ancestors (FORMAT 8.6)
unfoldable pub walk : ℕ → Parents → ℕ → List Stop → List Stop
walk zero p t l = l
walk (suc k) p t l =
    elim (elem t (spots l)) [
      | true ↦ l
      | false ↦ let r = walk_all (walk k p) (listed p t) l [] in r.0 ++ (record { place = t; fresh = r.1 } ∷ [])
    ]

-- the first n types, tried in name order (FORMAT 8.6)
unfoldable pub walk_each : ℕ → Parents → ℕ → List Stop
walk_each k p zero = []
walk_each k p (suc n) = walk k p n (walk_each k p n)
