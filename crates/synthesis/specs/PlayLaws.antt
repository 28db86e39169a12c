-- Type by type.
use Rattle.std.specs.Prelude.{Bool, true, ◌&&◌, List, [], ◌++◌, map, ◌≡◌, ℕ, ◌≤◌, ◌<◌, length, get_or, Option, None}
use Rattle.std.proofs.Common.{sym, ap, ap₂, ◌∙◌, arith}
use Rattle.std.proofs.lemmas.List.{length-map}
use Rattle.lists.specs.Lists.{null}
use Rattle.lists.specs.Appending.{map-map}
use Rattle.definitions.specs.Records.{Name, Sheet}
use Rattle.definitions.specs.Map.{TypeMap, LineType, line_type_of, line_map_of, type_map_of}
use Rattle.definitions.specs.Inherited.{InheritedAnnotation, dedup, own_associates}
use Rattle.definitions.specs.Synthesis as definitions
use Rattle.definitions.specs.Synthesis.{listed_parents, interpret_type, interpret_all}
use Rattle.law_lines.specs.Statements.{line_map}
use Rattle.rows.specs.Rows.{has_bit}
use Rattle.order_form.specs.Lists.{tab, tab-length}
use Rattle.order_form.specs.Reading.{how_many, listed, type_at, listed-length}
use Rattle.order_form.specs.declared.Parent.{Parent}
use Rattle.order_form.specs.declared.Parents.{Parents}
use Rattle.synth_own.specs.declared.Location.{Location}
use Rattle.catalogue.specs.declared.Catalogue.{Catalogue}
use Rattle.synth_dedup.specs.declared.inherited.Inherited.{Inherited}
use Rattle.synth_dedup.specs.Reading.{inherited_of}
use Rattle.synth_own.specs.Owning as owning
use Rattle.synth_own.specs.Owning.{OwnAssociates, OwnFit, OwnOf}
use Rattle.order_parents.specs.SheetLaws.{line-count, line_at}
use Rattle.emitting.specs.declared.Writer.{Writer}
use Rattle.emitting.specs.Writing.{state}
use Rattle.synth_interpretation.specs.Emit.{emit}
use Rattle.synth_classes.specs.Made.{type_names}
use Rattle.synth_interpreting.specs.Annotations.{own_entries_in, interpreted_at, TypeDone}
use Rattle.synth_interpreting.specs.OwnLaws.{own-entries}
use Rattle.synth_store.specs.declared.Saved.{Saved}
use Rattle.synth_handing.specs.Handing.{names_of, handed_to, StoredParents, Ready, Gathered, KeepsIt}
use Rattle.synth_handing.specs.Keeping.{eight, got-all}
use Rattle.law_synth_map.specs.HeldLaws.{parents-below, parents-are}
use Rattle.law_synth_map.specs.Limits.{own-fits}
use Rattle.law_parents.specs.Placed.{ParentsBelow}
use Rattle.synth_hearing.specs.Hearing.{FlagsOf, WithOk}
use Rattle.synth_hearing.specs.declared.Flags.{Flags}
use Rattle.synthesis.specs.Playing.{Flagged, Receives, Turn, Plays}
use Rattle.synthesis.specs.GoingLaws.{goes_on}

-- ---- what is received

-- with every parent stored, those with a flag are
pub flagged-stored : (p : Parents) (m : TypeMap) (st : List Saved) (t flags : ℕ) → how_many p t ≤ 8 → StoredParents p m st t 255 → StoredParents p m st t flags
flagged-stored p m st t flags h s = record { at = λ i l e. s.at i l (eight i (omega arith)) }

pub ready-flags : (p : Parents) (bs : List Bool) (ns : List (Option Location)) (st : List Saved) (t flags : ℕ) → Ready p bs ns st t 255 → Ready p bs ns st t flags
ready-flags p bs ns st t flags r =
    record {
      sheet = r.sheet;
      held = r.held;
      low = r.low;
      stored = flagged-stored p (type_map_of r.sheet) st t flags (r.held.reads.types t r.low).most r.stored;
    }

module _ (p : Parents) (bs : List Bool) (ns : List (Option Location)) (st : List Saved) (t : ℕ) (f : Flags) (after : List Saved) (l : t < p.count) where
  -- no call failed
  pub receives-all : (r : Inherited) → Flagged p t f → f.all ≡ true → KeepsIt p bs ns st t after r → Receives p bs ns st t f after r
  receives-all r g e k =
      record {
        reads = λ s h sp.
            let m = type_map_of s in
            k.reads s h sp
            ∙ ap (dedup m.words)
            (sym
            (got-all m (tab (has_bit f.row) (how_many p t)) (listed_parents m (type_at m t))
            (tab-length (has_bit f.row) (how_many p t) ∙ sym (ap length (parents-are s bs ns p h t l) ∙ length-map (listed p t) (λ (q : Parent). type_at m q.place) ∙ listed-length p t))
            (sym g.whole ∙ e)));
        stored = k.stored;
        others = k.others;
        long = k.long;
      }

  pub receives-some : (r whole : Inherited) → Gathered p bs ns st t f.row r → KeepsIt p bs ns st t after whole → Receives p bs ns st t f after r
  receives-some r whole g k =
      record {
        reads = λ s h sp. g.reads s h (flagged-stored p (type_map_of s) st t f.row (h.reads.types t l).most sp);
        stored = k.stored;
        others = k.others;
        long = k.long;
      }

-- ---- the interpretation of a type is that of the map

names-are : (s : Sheet) → type_names (line_map s) ≡ names_of (type_map_of s)
unfolding type_names line_map_of line_type_of
names-are s = map-map (λ (D : LineType). D.name) line_type_of (type_map_of s).types

pub interpreted-type : (s : Sheet) (T : ℕ) → T < length (type_map_of s).types → (o : OwnAssociates) (h : Inherited) (got : List InheritedAnnotation)
    → map owning.read_own (owning.listed o) ≡ own_associates (type_at (type_map_of s) T) → inherited_of (names_of (type_map_of s)) h ≡ dedup (type_map_of s).words got
    → interpreted_at (line_map s) T o h ≡ interpret_type (type_map_of s) (type_at (type_map_of s) T) got
unfolding interpreted_at interpret_type
interpreted-type s T l o h got w r =
    let m = type_map_of s in
    ap (λ (D : LineType). interpret_all (line_map s) D (own_entries_in o ++ inherited_of (type_names (line_map s)) h) []) (line_at s T l)
    ∙ ap₂ (λ (a b : List InheritedAnnotation). interpret_all (line_map_of m) (line_type_of (type_at m T)) (a ++ b) [])
    (own-entries (type_at m T) o w)
    (ap (λ (ns : List Name). inherited_of ns h) (names-are s) ∙ r)

-- ---- one type

module _ (tb : Catalogue) (bs : List Bool) (ns : List (Option Location)) (p : Parents) (st : List Saved) (t : ℕ) (u : Turn tb bs ns p st t) where
  pub turn_below : ParentsBelow p t
  turn_below = parents-below u.sheet bs ns p u.so.held t u.low

  pub turn-fits : OwnFit bs (get_or ns t None)
  turn-fits = own-fits u.sheet bs ns p u.so.held t u.low

  module _ (f : Flags) (after : List Saved) (got : Inherited) (v : Receives p bs ns st t f after got) (own : OwnAssociates) (y : OwnOf bs (get_or ns t None) own) where
    pub plays : (fresh ok : ℕ) (clean : Bool) (w w' : Writer) (ok' : ℕ) → FlagsOf p t fresh ok f → TypeDone tb t own got w clean w'
        → WithOk ok t (f.all && clean) ok' → Plays tb bs ns p st w (record { place = t; fresh = fresh; ok = ok }) after w' ok'
    plays fresh ok clean w w' ok' fl e k =
        record {
          same = e.same;
          going = λ s z sp before w₀ q g x.
              let m = type_map_of s in
              let h = z.held in
              let l : t < length m.types = omega (arith, u.low, h.reads.count) in
              let c : t < length (line_map s).types = omega (arith, l, line-count s) in
              let d = e.right s z.known c in
              let i : interpreted_at (line_map s) t own got ≡ interpret_type m (type_at m t) (handed_to m p t f.row) =
              interpreted-type s t l own got (handed_to m p t f.row) (y.reads (type_at m t) (h.noted t u.low)) (v.reads s h sp) in
              goes_on m p h.reads t u.low (parents-below s bs ns p h t u.low) (parents-are s bs ns p h t u.low) before w₀ fresh w ok g x f fl w' ok' clean q
              (d.rows ∙ ap (λ (x : definitions.Interpreted). emit w.limit (state w) x.rows) i)
              (d.clean ∙ ap (λ (x : definitions.Interpreted). null x.rows) i)
              k;
          stored = v.stored;
          others = v.others;
          long = v.long;
        }
