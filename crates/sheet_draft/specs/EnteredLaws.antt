-- An entry of the rows in name order is that of a row.
use Rattle.std.specs.Prelude.{List, ◌≡◌, ℕ, ◌≤◌, ◌<◌, length, take}
use Rattle.std.proofs.Math.Path.{sym, ap, subst}
use Rattle.std.proofs.Common.{◌∙◌, arith, get_or-take, length-take-le}
use Rattle.std.proofs.Math.ListN.{get_or}
use Rattle.lists.specs.Lists.{In, sort}
use Rattle.lists.specs.Places.{get_d-in}
use Rattle.lists.specs.Sorting.{sort-is}
use Rattle.lists.specs.Tabulating.{tabulate-of}
use Rattle.sheet_draft.specs.declared.Draft.{Draft}
use Rattle.sheet_draft.specs.declared.entry.Entry.{Entry}
use Rattle.sheet_draft.specs.Draft.{key_at}
use Rattle.sheet_draft.specs.Drafted.{entry_at, no_entry, entry_before, entries_of, Entered}

module _ (ws : List (List ℕ)) (d : Draft) (entries : List Entry) (n : ℕ) (few : n ≤ 64) (en : Entered ws d entries n) (a : ℕ) (h : a < n) where
  entry-is : (i : ℕ) × (i < n) × (get_or entries a no_entry ≡ entry_at d i)
  unfolding entries_of
  entry-is =
      let l : length (take n entries) ≡ n = length-take-le n entries (omega (arith, en.long)) in
      let x : In (get_or (take n entries) a no_entry) (take n entries) = get_d-in (take n entries) no_entry a (omega (arith, l)) in
      let y : In (get_or entries a no_entry) (sort (entry_before ws) (entries_of d n)) =
      subst (λ (k : List Entry). In (get_or entries a no_entry) k) en.sorted (subst (λ (e : Entry). In e (take n entries)) (get_or-take n entries a no_entry h) x) in
      tabulate-of (entry_at d) n ((sort-is (entry_before ws) (entries_of d n) (get_or entries a no_entry)).0 y)

  pub row-below : (get_or entries a no_entry).row < n
  row-below = let e = ap (λ (x : Entry). x.row) entry-is.2 in omega (arith, e, entry-is.1)

  pub key-of-row : (get_or entries a no_entry).key ≡ key_at d (get_or entries a no_entry).row
  key-of-row = ap (λ (x : Entry). x.key) entry-is.2 ∙ ap (λ (x : Entry). key_at d x.row) (sym entry-is.2)
