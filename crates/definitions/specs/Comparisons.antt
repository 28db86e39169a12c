-- How names, doms and lists of words compare, one definition each, and how a name is looked up (FORMAT 1.4 to 1.6).
use Rattle.std.specs.Prelude.{Bool, ◌&&◌, ◌||◌, List, [], ◌∷◌, ◌++◌, ℕ, eqb, get_or}
use Rattle.lists.specs.Lists.{any, filter, same_list, list_before}
use Rattle.definitions.specs.Records.{Name, Dom}

-- Two names are one when their words are, since the words of a sheet are distinct (FORMAT 1.4).
abbrev pub same_name : Name → Name → Bool
same_name a b = same_list eqb a b

-- Whether a name stands in a list.
abbrev pub elem_name : Name → List Name → Bool
elem_name a l = any (same_name a) l

-- The order of doms: none first, then by word (FORMAT 1.6).
unfoldable pub dom_before : Dom → Dom → Bool
dom_before d e = list_before d e

-- The order of the word lists of associates: by the first difference, a list before its extensions (FORMAT 1.6).
unfoldable pub words_before : List ℕ → List ℕ → Bool
words_before a b = list_before a b

-- The order of words by their bytes (FORMAT 1.2).
unfoldable pub bytes_before : List ℕ → List ℕ → Bool
bytes_before a b = list_before a b

-- The byte of the dot between the words of a name (FORMAT 1.4).
abbrev pub dot : ℕ
dot = 46

-- The byte of the hyphen, which is below the dot: a name whose word goes on with a hyphen stands before one whose word ends there
-- with a dot (FORMAT 1.1, 1.4).
abbrev pub hyphen : ℕ
hyphen = 45

-- How a name is spelled, given the words: their bytes with the dot between them (FORMAT 1.4).
abbrev pub spelled : List (List ℕ) → Name → List ℕ
spelled ws [] = []
spelled ws (w ∷ []) = get_or ws w []
spelled ws (w ∷ v ∷ n) = get_or ws w [] ++ (dot ∷ spelled ws (v ∷ n))

-- The order of names by the bytes of their spelling, given the words. Names that are spelled alike, which no sheet that passes 5
-- has, go by the numbers of their words, so that it is an order whatever the words are (FORMAT 1.4).
unfoldable pub name_before : List (List ℕ) → Name → Name → Bool
name_before ws a b =
    bytes_before (spelled ws a) (spelled ws b) || (same_list eqb (spelled ws a) (spelled ws b) && list_before a b)

-- What is declared under a name: one or none, since no two have one name (FORMAT 1.5).
unfoldable pub look_up : {A : Type 0} → (A → Name) → List A → Name → List A
look_up name_of l n = filter (λ x. same_name (name_of x) n) l

-- The name `d.r`, or `r` where d is no word: the class of a resource, and the name of what is made (FORMAT 4.2, 4.3).
abbrev pub dotted : List ℕ → ℕ → Name
dotted d r = d ++ (r ∷ [])
