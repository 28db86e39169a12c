-- A parent that the rounds take for `self` is one that is spelled so.
use Rattle.std.specs.Prelude.{true, false, ◌||◌, not, List, [], ◌∷◌, ◌↔◌, ◌≡◌, ℕ, eqb}
use Rattle.std.proofs.Common.{sym, ap, ◌∙◌, subst}
use Rattle.std.proofs.lemmas.Bool.{not-false}
use Rattle.lists.specs.Lists.{At, any, ascends, same_list}
use Rattle.lists.specs.Tests.{never, or-false-left, or-false-right, place_at}
use Rattle.lists.specs.Sorting.{Distinct, sorted-imp, ascends-sorted, one_place}
use Rattle.lists.specs.Lexicographic.{same_numbers}
use Rattle.definitions.specs.Records.{Name, Sheet}
use Rattle.definitions.specs.Comparisons.{bytes_before}
use Rattle.definitions.specs.Checks.{resource_bytes, self_bytes, bad_words}
use Rattle.definitions.specs.Map.{number_of, type_map_of}
use Rattle.definitions.specs.Order.{is_self}
use Rattle.definitions.specs.Ancestry.{IsSelf}
use Rattle.law_orders.specs.Comparisons.{same-name, name-same, bytes-strict}

-- refusal 5 leaves words that are distinct, `self` among them
pub words-ascend : (ws : List (List ℕ)) → bad_words ws ≡ false → ascends bytes_before ws ≡ true
unfolding bad_words
words-ascend ws e = not-false (ascends bytes_before ws) (or-false-left (not (ascends bytes_before ws)) (not (any (same_list eqb resource_bytes) ws) || not (any (same_list eqb self_bytes) ws)) e)

has-self : (ws : List (List ℕ)) → bad_words ws ≡ false → any (same_list eqb self_bytes) ws ≡ true
unfolding bad_words
has-self ws e =
    not-false (any (same_list eqb self_bytes) ws)
    (or-false-right (not (any (same_list eqb resource_bytes) ws)) (not (any (same_list eqb self_bytes) ws))
    (or-false-right (not (ascends bytes_before ws)) (not (any (same_list eqb resource_bytes) ws) || not (any (same_list eqb self_bytes) ws)) e))

pub words-distinct : (ws : List (List ℕ)) → bad_words ws ≡ false → Distinct ws
words-distinct ws e =
    sorted-imp ws (λ a b i j h q. never h (ap (bytes_before a) (sym q) ∙ bytes-strict.irreflexive a)) (ascends-sorted bytes-strict ws (words-ascend ws e))

self-at : (s : Sheet) → bad_words s.words ≡ false → At self_bytes (type_map_of s).self s.words
unfolding type_map_of number_of
self-at s e =
    let r = place_at (same_list eqb self_bytes) s.words (has-self s.words e) in
    subst (λ x. At x (type_map_of s).self s.words) (sym (same_numbers self_bytes r.0 r.2)) r.1

pub self-is : (s : Sheet) → bad_words s.words ≡ false → (p : Name) → (is_self (type_map_of s) p ≡ true) ↔ IsSelf s p
unfolding is_self
self-is s e p = (
  λ h. record { number = (type_map_of s).self; spelled = self-at s e; alone = same-name p ((type_map_of s).self ∷ []) h },
  λ h. name-same (h.alone ∙ ap (λ n. n ∷ []) (one_place (words-distinct s.words e) h.spelled (self-at s e))),
)
