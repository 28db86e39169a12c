-- What the compact form asks of the draft and the catalogue follows from what these are of a sheet.
use Rattle.std.specs.Prelude.{Bool, List, ◌≡◌, refl, ℕ, ◌*◌, ◌<◌, length}
use Rattle.std.proofs.Math.Path.{ap}
use Rattle.std.proofs.Common.{subst, arith}
use Rattle.definitions.specs.Records.{TypeInfo, Sheet}
use Rattle.definitions.specs.Map.{type_map_of}
use Rattle.law_lines.specs.Within as line
use Rattle.order_form.specs.Reading.{type_at}
use Rattle.order_form.specs.Compact.{Within}
use Rattle.sheet_keys.specs.Keys.{name_of_key}
use Rattle.sheet_draft.specs.Draft.{key_at, type_in}
use Rattle.sheet_draft.specs.Drafted.{Drafted, Entered}
use Rattle.catalogue.specs.Catalogue.{Listed}
use Rattle.catalogue.specs.declared.Catalogue.{Catalogue}
use Rattle.sheet_draft.specs.declared.Draft.{Draft}
use Rattle.sheet_draft.specs.declared.entry.Entry.{Entry}
use Rattle.order_parents.specs.Parents.{row_of}
use Rattle.order_parents.specs.SheetLaws.{ByName, key-within, type-within, rows-count, row-at, prepared-of, rows_of}
use Rattle.order_compact.specs.Compact.{Drafts}
use Rattle.order_compact.specs.Reading.{Drawn}

module _ (s : Sheet) (bs : List Bool) (d : Draft) (entries : List Entry) (n : ℕ) (r : Drafted s bs d n) (en : Entered s.words d entries n) (o : ByName s bs d entries n) where
  pub names_of : (a : ℕ) → a < n → (type_at (type_map_of s) a).name ≡ name_of_key (key_at d (row_of entries a))
  unfolding type_in
  names_of a h = ap (λ (T : TypeInfo). T.name) (row-at s bs d entries n r en o a h)

  pub drafts-of : line.Within s → Drafts d entries n
  drafts-of w =
      let p = prepared-of s bs d entries n r en o w in
      record {
        few = p.few;
        name = λ a h.
            let k =
            key-within (length s.words) (key_at d (row_of entries a))
            (subst (line.NameWithin (length s.words)) (names_of a h) (type-within s w a (omega (arith, rows-count s bs d entries n r en o))).name) in
            omega (arith, k.first, w.words);
        parents = p.keys;
      }

  pub drawn-of : (t : Catalogue) → line.Within s → Listed s t → Within (type_map_of s) → Drawn (type_map_of s) t d entries n (type_map_of s).self
  drawn-of t w l e = record {
    rows = rows_of s bs d entries n r en o t ((type_map_of s).self * 256) w l refl;
    names = names_of;
    within = e;
    word = refl;
  }
