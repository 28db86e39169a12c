-- What all listed parents hand on, and what stands in the store afterwards.
use Rattle.std.specs.Prelude.{Bool, true, List, [], ◌∷◌, ◌++◌, ◌≡◌, refl, ℕ, zero, suc, ◌<◌, length, Option}
use mathlib.Core.List.Memᴰ
use Rattle.std.proofs.Common.{sym, ap, ap₂, ◌∙◌, subst, arith}
use Rattle.std.proofs.lemmas.List.{length-map}
use Rattle.lists.specs.Lists.{In, all, each}
use Rattle.lists.specs.Tests.{and_left, and_right}
use Rattle.rows.specs.Rows.{has_bit}
use Rattle.definitions.specs.Records.{TypeInfo, Sheet}
use Rattle.definitions.specs.Map.{TypeMap, type_map_of}
use Rattle.definitions.specs.Inherited.{InheritedAnnotation, dedup, handed_on}
use Rattle.definitions.specs.Synthesis.{only_if, listed_parents}
use Rattle.law_synthesis.specs.Statements.{inherited_by}
use Rattle.law_visit.specs.Trail.{got_from}
use Rattle.synth_dedup.specs.declared.inherited.Inherited.{Inherited}
use Rattle.synth_dedup.specs.Reading.{inherited_of}
use Rattle.synth_store.specs.Store.{Stores}
use Rattle.synth_store.specs.declared.Saved.{Saved}
use Rattle.order_form.specs.Lists.{tab, tab-length, tab-split, all-tab-of}
use Rattle.order_form.specs.Reading.{parent_at, how_many, listed, type_at, listed-length}
use Rattle.order_form.specs.declared.Parent.{Parent}
use Rattle.order_form.specs.declared.Parents.{Parents}
use Rattle.synth_own.specs.declared.Location.{Location}
use Rattle.synth_map.specs.HeldMap.{HeldMap}
use Rattle.law_synth_map.specs.HeldLaws.{parents-are}
use Rattle.synth_handing.specs.Handing.{names_of, Stored, StoredParents, handed_to, Gathered, KeepsIt}

-- the parents of a type are stored, whichever have a flag
pub stored-parents : (p : Parents) (m : TypeMap) (st : List Saved) (t flags : ℕ) → ((q : Parent) → In q (listed p t) → Stored m st q.place) → StoredParents p m st t flags
unfolding listed
stored-parents p m st t flags h =
    record {
      at = λ i l b.
          let s = tab-split (λ i. parent_at p t i) (how_many p t) i l in
          h (parent_at p t i) (subst (In (parent_at p t i)) (sym s.1) (Memᴰ.append_right (tab (λ i. parent_at p t i) i) (Memᴰ.head refl)));
    }

-- ---- all flags

pub eight : (i : ℕ) → i < 8 → has_bit 255 i ≡ true
unfolding has_bit
eight zero h = refl
eight (suc zero) h = refl
eight (suc (suc zero)) h = refl
eight (suc (suc (suc zero))) h = refl
eight (suc (suc (suc (suc zero)))) h = refl
eight (suc (suc (suc (suc (suc zero))))) h = refl
eight (suc (suc (suc (suc (suc (suc zero)))))) h = refl
eight (suc (suc (suc (suc (suc (suc (suc zero))))))) h = refl
eight (suc (suc (suc (suc (suc (suc (suc (suc i)))))))) h = absurd (omega arith)

pub got-all : (m : TypeMap) (fs : List Bool) (Ps : List TypeInfo) → length fs ≡ length Ps → all (λ f. f) fs ≡ true → got_from m fs Ps ≡ each (handed_on m) Ps
got-all m [] [] e a = refl
got-all m [] (P ∷ Ps) e a = absurd (omega (arith, e))
got-all m (f ∷ fs) [] e a = absurd (omega (arith, e))
got-all m (f ∷ fs) (P ∷ Ps) e a =
    let h : only_if f (handed_on m P) ≡ handed_on m P = rw (and_left f (all (λ f. f) fs) a) refl in
    ap₂ (λ (x y : List InheritedAnnotation). x ++ y)
    h
    (got-all m fs Ps (omega (arith, e)) (and_right f (all (λ f. f) fs) a))

-- with all flags every listed parent hands on
all-handed : (s : Sheet) (bs : List Bool) (ns : List (Option Location)) (p : Parents) (t : ℕ) → HeldMap s bs ns p → t < p.count
    → handed_to (type_map_of s) p t 255 ≡ each (handed_on (type_map_of s)) (listed_parents (type_map_of s) (type_at (type_map_of s) t))
all-handed s bs ns p t h l =
    let m = type_map_of s in
    got-all m (tab (has_bit 255) (how_many p t)) (listed_parents m (type_at m t))
    (tab-length (has_bit 255) (how_many p t) ∙ sym (ap length (parents-are s bs ns p h t l) ∙ length-map (listed p t) (λ (q : Parent). type_at m q.place) ∙ listed-length p t))
    (all-tab-of (has_bit 255) (λ f. f) (how_many p t) (λ i k. eight i (omega (arith, k, (h.reads.types t l).most))))

-- ---- stored

module _ (p : Parents) (bs : List Bool) (ns : List (Option Location)) (st : List Saved) (t : ℕ) (after : List Saved) (r : Inherited) (l : t < p.count) (g : Gathered p bs ns st t 255 r) (w : Stores st t r after) where
  all_read : (s : Sheet) → HeldMap s bs ns p → StoredParents p (type_map_of s) st t 255
      → inherited_of (names_of (type_map_of s)) r ≡ inherited_by (type_map_of s) (type_at (type_map_of s) t)
  all_read s h k = g.reads s h k ∙ ap (dedup (type_map_of s).words) (all-handed s bs ns p t h l)

  pub keeps-by : KeepsIt p bs ns st t after r
  keeps-by =
      record {
        reads = all_read;
        stored = λ s h k. record { list = r; holds = w.holds; reads = all_read s h k };
        others = λ m u n b.
            record {
              list = b.list;
              holds = rw (w.others u n) b.holds;
              reads = b.reads;
            };
        long = w.long;
      }
