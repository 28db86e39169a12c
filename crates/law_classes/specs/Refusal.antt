-- Refusal 9 by sets: a test of sets that says exactly whether a type is refused.
use Rattle.std.specs.Prelude.{Bool, ◌&&◌, ◌||◌, not, List, [], ◌∷◌, map, ℕ}
use Rattle.std.specs.Bool.{beq}
use Rattle.lists.specs.Lists.{any, all, filter, each, same_list, repeats}
use Rattle.definitions.specs.Records.{Name, Resource}
use Rattle.definitions.specs.Comparisons.{same_name, dotted}
use Rattle.definitions.specs.Map.{LineType, LineMap}
use Rattle.definitions.specs.Making.{is_resource_variant, same_mark}
use Rattle.definitions.specs.Items.{owned, given, parents_of}
use Rattle.law_classes.specs.Sets.{both, some, word_of, class_of, masked, own_set, above_set, passed_set, made_set, classes_in}

-- a resource whose class is no declared resource: the look-up of the class among the resources finds no bit
unfoldable pub unmet : LineMap → List Resource → Bool
unmet m us = any (λ (u : Resource). not (some m (λ (D : LineType). same_name D.name (class_of u) && is_resource_variant D.variant))) us

-- some type has it as a parent
unfoldable pub has_child : LineMap → LineType → Bool
has_child m A = some m (λ (T : LineType). T.inherits A.name)

-- A class without a declared resource: of the own Associates, or given at all where there is a child to have it (FORMAT 4.9)
unfoldable pub lost_class : LineMap → LineType → Bool
lost_class m T = unmet m (owned T) || (has_child m T && unmet m (given T))

-- The name of what is made is taken: a type is T.r, and `own | above` of T meets the mask of r
unfoldable pub taken_name : LineMap → LineType → Bool
taken_name m T =
    some m (λ (D : LineType). same_name D.name (dotted T.name (word_of D.name)) && some m (both (made_set m T) (masked (word_of D.name))))

-- Two own makings are identical: one class twice
unfoldable pub own_twice : LineType → Bool
own_twice T = repeats (λ (u w : Resource). same_name (class_of u) (class_of w)) (owned T)

-- the first parents of the inherited making
unfoldable pub firsts : LineMap → LineType → ℕ → List Name
firsts m T r = map (λ (P : LineType). dotted P.name r) (filter (λ P. some m (both (passed_set m P) (masked r))) (parents_of m T))

-- an own one of class C and the inherited one of its word: the only passing parent P has P.r for C, virtual and marks are equal
unfoldable pub identical : LineMap → LineType → ℕ → LineType → Bool
identical m T r C =
    let Cs = classes_in m (both (above_set m T) (masked r)) in
    same_list same_name (C.name ∷ []) (firsts m T r)
    && (beq (T.virtual && C.virtual) (T.virtual && all (λ (E : LineType). E.virtual) Cs) && same_list same_mark C.marks (each (λ (E : LineType). E.marks) Cs))

unfoldable pub crosses : LineMap → LineType → Bool
crosses m T =
    some m (λ (C : LineType). own_set T C && (some m (both (above_set m T) (masked (word_of C.name))) && identical m T (word_of C.name) C))

unfoldable pub set_refused : LineMap → Bool
set_refused m = any (lost_class m) m.types || any (λ T. taken_name m T || (own_twice T || crosses m T)) m.types
