-- One round of the dedup.
use Rattle.std.specs.Prelude.{true, false, List, [], ◌∷◌, ◌++◌, ◌≡◌, ℕ, ◌+◌, ◌<◌, ◌≤◌, length, drop, get_or}
use Rattle.std.proofs.Common.{append-nil, append_assoc, sym, ap, ◌∙◌, add-one, arith, length-append, drop_of_length-le, drop-cons}
use Rattle.bounded.specs.Items.{length-items_of}
use Rattle.rows.specs.Rows.{common, none}
use Rattle.synth_dedup.specs.declared.Entry.{Entry}
use Rattle.synth_dedup.specs.Entries.{Entries, entries_of, inter, diff, stands, unless_empty, merge, Sound}
use Rattle.synth_dedup.specs.EntryLaws.{share-nothing, share-whole}

-- an entry that stands is put behind the others, another is not
pub pushed : (l : List Entry) (e : Entry) → stands e ≡ true → l ++ (e ∷ []) ≡ l ++ unless_empty e
unfolding unless_empty
pushed l e h = rw h

pub not-pushed : (l : List Entry) (e : Entry) → stands e ≡ false → l ≡ l ++ unless_empty e
unfolding unless_empty
not-pushed l e h = rw h (sym (append-nil l))

merge-at : (l : List Entry) (n : Entry) (i : ℕ) (d : Entry) → i < length l
    → merge (drop i l) n ≡ unless_empty (diff (get_or l i d) n) ++ (unless_empty (inter (get_or l i d) n) ++ merge (drop (i + 1) l) (diff n (get_or l i d)))
unfolding merge
merge-at l n i d h = rw (drop-cons l i d h, add-one)

-- what stands in the list, and what is left to do, are the whole
abbrev pub Left : List Entry → List Entry → Entry → List Entry → Type 0
Left out l n all = out ++ merge l n ≡ all

-- a list whose entries begin one of at most 200
pub begins-room : (o : Entries) (rest all : List Entry) → entries_of o ++ rest ≡ all → length all ≤ 200 → o.count ≤ 200
unfolding entries_of
begins-room o rest all e h = omega (arith, ap length e, length-append (entries_of o) rest, length-items_of o)

module _ (out l all : List Entry) (i : ℕ) (n d : Entry) (h : i < length l) (x : Left out (drop i l) n all) (sa : Sound (get_or l i d)) (sn : Sound n) where
  abbrev a : Entry
  a = get_or l i d

  split : out ++ (unless_empty (diff a n) ++ (unless_empty (inter a n) ++ merge (drop (i + 1) l) (diff n a))) ≡ all
  split = ap (λ (z : List Entry). out ++ z) (sym (merge-at l n i d h)) ∙ x

  -- an entry that shares nothing with the newcomer
  pub passed : (o : List Entry) → o ≡ out ++ unless_empty a → none (common a.words n.words) ≡ true → Left o (drop (i + 1) l) n all
  passed o e z =
      let s = share-nothing a n sa sn z in
      let y : out ++ (unless_empty a ++ merge (drop (i + 1) l) n) ≡ all = rw (s.0, s.1, s.2) at split in
      rw (e, append_assoc out (unless_empty a) (merge (drop (i + 1) l) n)) y

  -- one that does leaves its rest, and what both share
  pub rest-left : (o : List Entry) → o ≡ out ++ unless_empty (diff a n) → o ++ (unless_empty (inter a n) ++ merge (drop (i + 1) l) (diff n a)) ≡ all
  rest-left o e = rw (e, append_assoc out (unless_empty (diff a n)) (unless_empty (inter a n) ++ merge (drop (i + 1) l) (diff n a))) split

  pub both-left : (o p : List Entry) → o ≡ out ++ unless_empty (diff a n) → p ≡ o ++ (inter a n ∷ []) → none (common a.words n.words) ≡ false
      → Left p (drop (i + 1) l) (diff n a) all
  both-left o p e f z =
      let y : o ++ ((inter a n ∷ []) ++ merge (drop (i + 1) l) (diff n a)) ≡ all = rw (share-whole a n sa sn z) at (rest-left o e) in
      rw (f, append_assoc o (inter a n ∷ []) (merge (drop (i + 1) l) (diff n a))) y

-- the newcomer's rest goes last
pub last : (out l all : List Entry) (i : ℕ) (n : Entry) → length l ≤ i → Left out (drop i l) n all → out ++ unless_empty n ≡ all
unfolding merge
last out l all i n h e = rw (drop_of_length-le l h) at e
