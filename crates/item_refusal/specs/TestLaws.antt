-- What follows the marks of classes, and what has no owner.
use Rattle.std.specs.Prelude.{false, List, [], ◌∷◌, refl, ◌≡◌, ℕ, ◌-◌, ◌/◌, ◌%◌, ◌^◌, ◌≤◌, ◌<◌}
use Rattle.std.proofs.Common.{sym, ap, ◌∙◌}
use native.Mathlib.Omega.{arith}
use borrow.Author.Tests.{eq-eqb, ne_eqb, lt-ltb, le-ltb}
use Rattle.catalogue.specs.Layout.{marks_at, mark_width, owner_at}
use Rattle.catalogue.specs.ByDom.{by_dom, but, FirstByDom}
use Rattle.catalogue.specs.DomLaws.{by_dom-next, by_dom-none}
use Rattle.catalogue.specs.declared.Catalogue.{Catalogue}
use Rattle.item_refusal.specs.Tests.{behind, follow, repeated}

-- ---- marks

module _ (marks left next width : ℕ) where
  pub behind-parted : 64 ≤ left → 64 ≡ behind marks left next width
  unfolding behind
  behind-parted h = rw (le-ltb left 64 h)

  pub behind-short : left < 64 → left < width → 64 ≡ behind marks left next width
  unfolding behind
  behind-short h k = rw (lt-ltb left 64 h, lt-ltb left width k)

  module _ (h : left < 64) (k : width ≤ left) where
    pub behind-same : marks / 2 ^ (left - width) % 2 ^ width ≡ next % 2 ^ width → left - width ≡ behind marks left next width
    unfolding behind
    behind-same e = rw (lt-ltb left 64 h, le-ltb left width k, eq-eqb (marks / 2 ^ (left - width) % 2 ^ width) (next % 2 ^ width) e)

    pub behind-other : (marks / 2 ^ (left - width) % 2 ^ width ≡ next % 2 ^ width → ⊥) → 64 ≡ behind marks left next width
    unfolding behind
    behind-other n = rw (lt-ltb left 64 h, le-ltb left width k, ne_eqb (marks / 2 ^ (left - width) % 2 ^ width) (next % 2 ^ width) n)

-- nothing is behind marks that do not begin so
pub follow_lost : (t : Catalogue) (marks left : ℕ) (l : List ℕ) → left ≡ 64 → follow t marks left l ≡ 64
unfolding follow
follow_lost t marks left [] h = h
follow_lost t marks left (e ∷ l) h = follow_lost t marks (behind marks left (marks_at t e) (mark_width t e)) l (sym (behind-parted marks left (marks_at t e) (mark_width t e) (omega arith)))

-- one class more, and none
pub follow_next : (t : Catalogue) (marks left set e out : ℕ) → FirstByDom t set e → out ≡ behind marks left (marks_at t e) (mark_width t e) → follow t marks left (by_dom t set) ≡ follow t marks out (by_dom t (but set e))
unfolding follow
follow_next t marks left set e out f o = ap (follow t marks left) (by_dom-next t set e f) ∙ ap (λ (x : ℕ). follow t marks x (by_dom t (but set e))) (sym o)

pub follow_stop : (t : Catalogue) (marks left set e : ℕ) → FirstByDom t set e → 64 ≡ behind marks left (marks_at t e) (mark_width t e) → follow t marks left (by_dom t set) ≡ 64
follow_stop t marks left set e f o = follow_next t marks left set e 64 f o ∙ follow_lost t marks 64 (by_dom t (but set e)) refl

pub follow_end : (t : Catalogue) (marks left set : ℕ) → set ≡ 0 → follow t marks left (by_dom t set) ≡ left
unfolding follow
follow_end t marks left set e = ap (follow t marks left) (by_dom-none t set e)

-- ---- an own making that stands again

pub repeated-none : (t : Catalogue) (a c : ℕ) → 64 ≤ owner_at t c → false ≡ repeated t a c
unfolding repeated
repeated-none t a c h = rw (le-ltb (owner_at t c) 64 h)
