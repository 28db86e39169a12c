-- What the schedule call works on: the tables where rows are written, and the catalogue where it is filled.
use Rattle.std.specs.Prelude.{Bool, true, false, List, ◌≡◌, ℕ, ◌*◌, ◌<◌, length, take, Option}
use Rattle.std.proofs.Common.{refl, sym, ap, ◌∙◌, subst, arith}
use Rattle.lists.specs.Tabulating.{tabulate, tabulate-same}
use Rattle.definitions.specs.Bits.{bits_of}
use Rattle.definitions.specs.Records.{Sheet}
use Rattle.definitions.specs.Map.{TypeMap, type_map_of}
use Rattle.definitions.specs.Order.{has_order}
use Rattle.law_lines.specs.Numbered.{declarations-numbered}
use Rattle.law_lines.specs.Statements.{line_map, any_refused}
use Rattle.rows.specs.Rows.{has_bit}
use Rattle.order_form.specs.Lists.{elem}
use Rattle.order_form.specs.declared.Parents.{Parents}
use Rattle.item_spread.specs.Spread.{Ordered}
use Rattle.order_rounds.specs.declared.sequence.Order.{Order}
use Rattle.synth_own.specs.declared.Location.{Location}
use Rattle.synthesis.specs.Synthesized.{Synthesizes, Synthesized}
use Rattle.synth_places.specs.Places as places
use Rattle.synth_places.specs.PlaceLaws.{readable, noted}
use Rattle.sheet_extensions.specs.Records as extensions
use Rattle.sheet_draft.specs.declared.Decoding.{Decoding}
use Rattle.sheet_decode.specs.Decodes.{Whole}
use Rattle.sheet_draft.specs.declared.Draft.{Draft}
use Rattle.sheet_draft.specs.declared.entry.Entry.{Entry}
use Rattle.catalogue.specs.Catalogue.{Catalogued}
use Rattle.catalogue.specs.declared.Catalogue.{Catalogue}
use Rattle.order_parents.specs.MapLaws.{parent-sets, childed-are}
use Rattle.order_compact.specs.Compact.{Drafts}
use Rattle.order_compact.specs.Reading as compact
use Rattle.order_compact.specs.Reading.{Compacts}
use Rattle.order_compact.specs.SheetLaws.{drafts-of, drawn-of}
use Rattle.item_entries.specs.Entries.{firsts_of, seconds_of}
use Rattle.item_draft.specs.declared.Placing.{Placing}
use Rattle.item_draft.specs.Fill.{Drawn, NamesStand, record_in, Stands, Fillable, Fills}
use Rattle.item_draft.specs.Standing.{record-as, records-stand}
use Rattle.item_draft.specs.Rows as rows
use Rattle.item_refusal.specs.Tests.{Decides}
use Rattle.item_schedule.specs.Schedule.{Orderly}
use Rattle.answers.specs.Answers.{Answer, parts, answer_of}
use Rattle.access.specs.Tables.{Looked, FilledFor, RowsDue}
use Rattle.access.specs.TableLaws as tables
use Rattle.access.specs.EndLaws.{rows-so}

-- ---- the rows of 9

module _ (bytes : List ℕ) (d : Draft) (entries : List Entry) (t : Catalogue) (n : Decoding) (s : Sheet) (f : FilledFor s bytes d entries t n) where
  abbrev bs : List Bool
  bs = bits_of bytes

  pub drafts : Drafts d entries n.count
  drafts = drafts-of s bs d entries n.count f.drawn.drafted f.drawn.entered f.drawn.sorted f.drawn.within

  pub standing : places.Readable n.width (bits_of bytes) d entries n.count
  standing = subst (λ (W : ℕ). places.Readable W bs d entries n.count) (sym f.width) (readable s bs d entries n.count f.drawn)

  pub synthesizes : (p : Parents) (notes : List (Option Location)) → Compacts t d entries n.count n.own p → places.Located n.width (bits_of bytes) d entries n.count notes
      → Synthesizes s t (bits_of bytes) notes p
  synthesizes p notes c k =
      let r = c.reads (type_map_of s) f.sketch in
      let q = subst (λ (W : ℕ). places.Located W bs d entries n.count notes) f.width k in
      let e : p.count ≡ n.count = r.count ∙ rows.count-types s bs d entries n.count f.drawn in
      record {
        held = record {
          readable = f.drawn.readable;
          within = f.drawn.within;
          order = f.order;
          noted = λ a h. noted s bs d entries n.count f.drawn notes q a (omega (arith, e));
          reads = r;
        };
        known = record { readable = f.drawn.readable; within = f.drawn.within; listed = f.catalogued.listed };
      }

pub rows-due : (bytes : List ℕ) (d : Draft) (entries : List Entry) (t : Catalogue) (n : Decoding) (p : Parents) (notes : List (Option Location)) → Compacts t d entries n.count n.own p
    → places.Located n.width (bits_of bytes) d entries n.count notes → (limit : ℕ) (b b' : List ℕ) (count : ℕ) (more : Bool) (a : Answer)
    → Synthesized t (bits_of bytes) notes p limit b b' count more → answer_of a ≡ parts 9 0 count more → RowsDue bytes d entries t n limit b b' a
rows-due bytes d entries t n p notes c k limit b b' count more a q u = record {
  due = λ s f r l. rows-so limit s f.drawn.readable f.order l b b' count more a r (q.written s (synthesizes bytes d entries t n s f p notes c k)) u;
}

-- ---- the catalogue

module _ (bytes : List ℕ) (d : Draft) (entries : List Entry) (t : Catalogue) (n : Decoding) (w : Whole bytes d entries t n) (u : Catalogue) (places : Order) (r : Placing) (o : Looked d entries t u n places true r) where
  abbrev s : Sheet
  s = w.s

  abbrev m : TypeMap
  m = type_map_of w.s

  names : NamesStand (firsts_of entries) (seconds_of entries) n.count (length s.words) u r.words
  names =
      subst (λ (x : ℕ). NamesStand (firsts_of entries) (seconds_of entries) n.count x u r.words) w.width
      (tables.stand bytes d entries t n w o.named u r.words o.parents o.names o.put)

  records : tabulate (record_in u) n.extensions ≡ s.extensions
  unfolding extensions.records_in extensions.record_in
  records =
      records-stand s t u n.extensions
      (tabulate-same (record_in t) (extensions.record_in t) n.extensions (λ e h. record-as t e) ∙ w.extensions.records)
      (ap (λ (x : Catalogue). x.extensions) o.put.kept ∙ ap (λ (x : Catalogue). x.extensions) o.names.kept)

  word-is : n.resource ≡ m.resource
  unfolding type_map_of
  word-is = w.resource

  pub stands : Stands w.s (bits_of bytes) d entries places u n r
  stands =
      let q = tables.rows_before bytes d entries t n w o.named u r.words o.parents o.names o.put in
      let p = parent-sets m d entries n.count (n.own * 256) o.named u o.parents q o.put in
      let c = childed-are m d entries n.count (n.own * 256) o.named u o.parents q o.put in
      record {
        drawn = tables.drawn bytes d entries t n w;
        wide = w.width;
        word = word-is;
        names = names;
        parents = record { bits = p.bits; within = p.within; childed = λ b h. ap (λ (y : ℕ). has_bit y b) o.childed ∙ c.bits b h };
        ordered = subst (λ (i : ℕ). Ordered places.types.items i u.parents) (sym (o.organized.counted refl)) (o.organized.ordered refl);
        placed = λ a h. ap (λ (i : ℕ). elem a (take i places.types.items)) (o.organized.counted refl) ∙ o.organized.has refl a h;
        extensions = records;
        numbered = λ e. declarations-numbered s (tables.readable bytes d entries t n w) (tables.within bytes d entries t n w) (w.plain e);
      }

  pub fillable : Fillable (bits_of bytes) d entries places u n r
  fillable = record { sheet = s; stands = stands }

  pub has-order : has_order (type_map_of w.s) ≡ true
  has-order = tables.found-is bytes d entries t n w u places true r o

  module _ (v : Catalogue) (lost b : Bool) (g : Fills (bits_of bytes) d entries places u n r v lost) (x : Decides v lost b) where
    catalogued : Catalogued s v
    catalogued = g.catalogued s stands

    drawn : Drawn s (bits_of bytes) d entries n.count
    drawn = tables.drawn bytes d entries t n w

    pub filled-for : FilledFor w.s bytes d entries v n
    filled-for = record {
      short = w.holds.short;
      drawn = drawn;
      width = w.width;
      sketch =
          subst (λ (y : ℕ). compact.Drawn m v d entries n.count y) (sym (tables.self-is bytes d entries t n w))
          (drawn-of s (bits_of bytes) d entries n.count w.drafted w.entered drawn.sorted v (tables.within bytes d entries t n w) catalogued.listed (tables.listable bytes d entries t n w));
      catalogued = catalogued;
      order = has-order;
    }

    -- the test of the catalogue is that of the map
    pub refused-is : b ≡ any_refused (line_map w.s)
    refused-is = x.right s (tables.readable bytes d entries t n w) (tables.within bytes d entries t n w) catalogued (g.lost s stands)

    pub orderly : b ≡ false → Orderly w.s v places
    orderly e = record {
      readable = tables.readable bytes d entries t n w;
      within = tables.within bytes d entries t n w;
      catalogued = catalogued;
      accepted = sym refused-is ∙ e;
      names =
          tables.names_in_lem bytes d entries t n w u places r o v
          (λ a h.
          let l : a < length (line_map s).types = omega (arith, rows.count-is s (bits_of bytes) d entries n.count (tables.drawn bytes d entries t n w)) in
          (catalogued.listed.entry a l).name ∙ rows.name-of-listed s (bits_of bytes) d entries n.count (tables.drawn bytes d entries t n w) a h);
    }
