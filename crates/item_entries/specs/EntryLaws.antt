-- The bytes of a name, and its key.
use Rattle.std.specs.Prelude.{List, ◌≡◌, ℕ, ◌+◌, ◌/◌, ◌%◌, ◌<◌, get_or}
use Rattle.std.proofs.Common.{sym, ap, ap₂, ◌∙◌, arith}
use Rattle.lists.specs.Tabulating.{get_d_tabulate}
use Rattle.fields.specs.declared.Name.{Name}
use Rattle.fields.specs.Keys.{name_with}
use Rattle.sheet_draft.specs.declared.entry.Entry.{Entry}
use Rattle.catalogue.specs.declared.Catalogue.{Catalogue}
use Rattle.item_names.specs.Names.{key_of, name_marked}
use Rattle.item_entries.specs.Entries.{key_in, firsts_of, seconds_of}

module _ (entries : List Entry) (a : ℕ) (h : a < 64) where
  pub first-at : get_or (firsts_of entries) a 0 ≡ key_in entries a / 256
  unfolding firsts_of
  first-at = get_d_tabulate (λ i. key_in entries i / 256) 64 a 0 h

  pub second_at_lem : get_or (seconds_of entries) a 0 ≡ (key_in entries a % 256 + 255) % 256
  unfolding seconds_of
  second_at_lem = get_d_tabulate (λ i. (key_in entries i % 256 + 255) % 256) 64 a 0 h

  -- a key is that of its two bytes
  pub key-at : key_in entries a ≡ key_of (get_or (firsts_of entries) a 0) (get_or (seconds_of entries) a 0)
  key-at =
      let k = key_in entries a in
      let e : k ≡ key_of (k / 256) ((k % 256 + 255) % 256) = omega arith in
      e ∙ sym (ap₂ key_of first-at second_at_lem)

  -- what is marked for the bytes of a key
  pub marked-at : (t : Catalogue) (first second : ℕ) {new : Catalogue} → first ≡ key_in entries a / 256 → second ≡ (key_in entries a % 256 + 255) % 256
      → new ≡ name_marked t a first second → new ≡ name_marked t a (get_or (firsts_of entries) a 0) (get_or (seconds_of entries) a 0)
  marked-at t first second e f q = q ∙ ap₂ (name_marked t a) (e ∙ sym first-at) (f ∙ sym second_at_lem)

  -- what is marked for the name of a key, whose first byte is the key's where that has two bytes
  pub named-at : (t : Catalogue) (name : Name) {new : Catalogue} → key_in entries a < 65536 → name ≡ name_with (key_in entries a)
      → new ≡ name_marked t a name.first name.second → new ≡ name_marked t a (get_or (firsts_of entries) a 0) (get_or (seconds_of entries) a 0)
  named-at t name small e q =
      let f : (key_in entries a) / 256 % 256 ≡ key_in entries a / 256 = omega (arith, small) in
      marked-at t name.first name.second (ap (λ (n : Name). n.first) e ∙ f) (ap (λ (n : Name). n.second) e) q
