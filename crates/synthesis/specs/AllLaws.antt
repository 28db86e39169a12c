-- All types, in the order of the trail.
use mathlib.Core.Bool.{Bool, true, false}
use Rattle.std.specs.Prelude.{List, [], ◌∷◌, refl, eqb, get_or, Option}
use Rattle.std.proofs.Math.Bool.{or-false}
use Rattle.std.proofs.Math.Path.{◌≡◌, sym, ap, subst}
use Rattle.std.proofs.Common.{◌∙◌, arith}
use Prim.Native.Nat.{ℕ, zero, suc, ◌+◌, ◌<◌, ◌≤◌}
use borrow.Author.Tests.{eqb-true, eqb-false, eq-eqb, ne_eqb}
use Rattle.lists.specs.Lists.{any}
use Rattle.lists.specs.Tests.{by, never}
use Rattle.lists.specs.Appending.{any_append}
use Rattle.emitting.specs.Emitting as emitting
use Rattle.definitions.specs.Comparisons.{same_name}
use Rattle.definitions.specs.Packing.{row_bytes}
use Rattle.definitions.specs.Synthesis.{listed_parents, interpret_type}
use Rattle.definitions.specs.Map.{TypeMap, type_map_of}
use Rattle.rows.specs.RowLaws.{bit-none}
use Rattle.order_form.specs.Lists.{tab, tab-step, any-tab-at, elem, elem-cases}
use Rattle.order_form.specs.Reading.{type_at, Reads}
use Rattle.order_form.specs.declared.Parents.{Parents}
use Rattle.synth_own.specs.declared.Location.{Location}
use Rattle.catalogue.specs.declared.Catalogue.{Catalogue}
use Rattle.emitting.specs.declared.Writer.{Writer}
use Rattle.emitting.specs.Writing.{counted, state, counted-over, same_self, same_then}
use Rattle.synth_interpretation.specs.Emit.{emit}
use Rattle.law_visit.specs.Trail as visit
use Rattle.law_visit.specs.Trail.{Reached, seen_in, flags_of, got_from, play, play_all, nothing_played}
use Rattle.synth_visiting.specs.Trails.{zero_arrival, item_at, reached_at, TrailOf}
use Rattle.synth_visiting.specs.declared.Trail.{Trail}
use Rattle.synth_store.specs.declared.Saved.{Saved}
use Rattle.synth_handing.specs.Handing.{Stored, StoredParents}
use Rattle.synth_handing.specs.Keeping.{stored-parents}
use Rattle.synthesis.specs.Going.{Going}
use Rattle.synthesis.specs.GoingLaws.{same-name, play-last}
use Rattle.synthesis.specs.Playing.{Turn, Plays, AllReady, PlayedTo, AllPlayed}

-- ---- places in the trail

elem-place : (x : ℕ) (f : ℕ → ℕ) (n : ℕ) → elem x (tab f n) ≡ true → (j : ℕ) × (j < n) × (f j ≡ x)
elem-place x f zero e = absurd (mathlib.Core.Bool.false≢true e)
elem-place x f (suc n) e =
    elem-cases x (tab f n) (f n ∷ []) e
    (λ q. let r = elem-place x f n q in (r.0, omega (arith, r.1), r.2))
    (λ q. (n, omega arith, sym (eqb-true x (f n) (sym (or-false (eqb x (f n))) ∙ q))))

any-tab-none : {A : Type 0} (f : A → Bool) (g : ℕ → A) (n : ℕ) → ((j : ℕ) → j < n → f (g j) ≡ false) → any f (tab g n) ≡ false
any-tab-none f g zero h = refl
any-tab-none f g (suc n) h = any_append f (tab g n) (g n ∷ []) ∙ rw (any-tab-none f g n (λ j l. h j (omega arith)), h n (omega arith))

module _ (tb : Catalogue) (bs : List Bool) (ns : List (Option Location)) (p : Parents) (w₀ : Writer) (r : Trail) where
  pub played-none : (st : List Saved) → PlayedTo tb bs ns p w₀ r 0 st w₀ 0
  unfolding emitting.emit play_all
  played-none st = record { same = same_self w₀; going = λ s z. record { emits = refl; well = λ a l. bit-none a }; stored = λ s h j l. absurd (omega arith) }

  module _ (y : TrailOf p r) (i : ℕ) (l : i < r.arrivals.count) where
    -- the type at i is none of those before it
    not-before : (j : ℕ) → j < i → item_at r j ≡ item_at r i → ⊥
    not-before j h e = never (any-tab-at (item_at r) (eqb (item_at r i)) i j h (eq-eqb (item_at r i) (item_at r j) (sym e))) (y.once i l)

    not_seen : (m : TypeMap) → Reads p m → seen_in (tab (reached_at p m r) i) (type_at m (item_at r i)).name ≡ false
    not_seen m z =
        any-tab-none (λ (x : Reached). same_name (type_at m (item_at r i)).name x.type.name) (reached_at p m r) i
        (λ j h.
        same-name m p z (item_at r i) (item_at r j) (y.below i l) (y.below j (omega (arith, l, h)))
        ∙ ne_eqb (item_at r j) (item_at r i) (not-before j h))

    -- its parents are among them
    pub parents-stored : (m : TypeMap) (st : List Saved) → ((j : ℕ) → j < i → Stored m st (item_at r j)) → StoredParents p m st (item_at r i) 255
    parents-stored m st f =
        stored-parents p m st (item_at r i) 255
        (λ q v. let k = elem-place q.place (item_at r) i (y.ready i l q v) in subst (λ (a : ℕ). Stored m st a) k.2 (f k.0 k.1))

    pub played-more : (st : List Saved) (w : Writer) (ok : ℕ) (st' : List Saved) (w' : Writer) (ok' : ℕ) → PlayedTo tb bs ns p w₀ r i st w ok
        → Plays tb bs ns p st w (record { place = item_at r i; fresh = (get_or r.arrivals.items i zero_arrival).fresh; ok = ok }) st' w' ok' → PlayedTo tb bs ns p w₀ r (i + 1) st' w' ok'
    played-more st w ok st' w' ok' g x =
        record {
          same = same_then w₀ w w' g.same x.same;
          going = λ s z.
              let m = type_map_of s in
              subst (λ (k : List Reached). Going m p k w₀ w' ok') (sym (tab-step (reached_at p m r) i))
              (x.going s z (parents-stored m st (g.stored s z.held)) (tab (reached_at p m r) i) w₀ g.same.limit (g.going s z) (not_seen m z.held.reads));
          stored = λ s h j k.
              by (eqb j i)
              (λ e. subst (λ (a : ℕ). Stored (type_map_of s) st' (item_at r a)) (sym (eqb-true j i e)) (x.stored s h (parents-stored (type_map_of s) st (g.stored s h))))
              (λ e. let z : j < i = omega (arith, k, eqb-false j i e) in x.others (type_map_of s) (item_at r j) (not-before j z) (g.stored s h j z));
        }

    pub turn : (q : Trail) (st : List Saved) (w : Writer) (ok : ℕ) → AllReady tb bs ns p w₀ q → PlayedTo tb bs ns p w₀ r i st w ok → Turn tb bs ns p st (item_at r i)
    turn q st w ok a g =
        record {
          sheet = a.sheet;
          so = a.so;
          low = y.below i l;
          stored = parents-stored (type_map_of a.sheet) st (g.stored a.sheet a.so.held);
        }

  -- one past the limit the rows of the types that follow are not written
  full-stays : (m : TypeMap) (g : ℕ → Reached) (i n : ℕ) (x : emitting.State) → x.1 ≡ w₀.limit + 1 → i ≤ n
      → x ≡ emit w₀.limit (state w₀) (play_all m nothing_played (tab g i)).rows
      → x ≡ emit w₀.limit (state w₀) (play_all m nothing_played (tab g n)).rows
  unfolding play
  full-stays m g i zero x o h e = subst (λ (k : ℕ). x ≡ emit w₀.limit (state w₀) (play_all m nothing_played (tab g k)).rows) (let z : i ≡ 0 = omega (arith, h) in z) e
  full-stays m g i (suc n) x o h e =
      by (eqb i (suc n))
      (λ q. subst (λ (k : ℕ). x ≡ emit w₀.limit (state w₀) (play_all m nothing_played (tab g k)).rows) (eqb-true i (suc n) q) e)
      (λ q.
      let d = play_all m nothing_played (tab g n) in
      let P = (g n).type in
      let rs = (interpret_type m P (got_from m (flags_of d.told (g n).fresh (listed_parents m P)) (listed_parents m P))).rows in
      sym (ap (λ (k : ℕ). emit w₀.limit (x.0, k) rs) o ∙ emitting.emit-full row_bytes w₀.limit x.0 rs ∙ ap (λ (k : ℕ). (x.0, k)) (sym o))
      ∙ ap (λ (s : emitting.State). emit w₀.limit s rs) (full-stays m g i n x o (omega (arith, h, eqb-false i (suc n) q)) e)
      ∙ sym (emitting.emit-append row_bytes w₀.limit (state w₀) d.rows rs)
      ∙ ap (λ (x : visit.Played). emit w₀.limit (state w₀) x.rows) (sym (play-last m nothing_played (tab g n) (g n))))

  pub played-full : (i : ℕ) (st : List Saved) (w : Writer) (ok : ℕ) → i ≤ r.arrivals.count → w.more ≡ true → PlayedTo tb bs ns p w₀ r i st w ok
      → AllPlayed tb bs ns p w₀ r w
  played-full i st w ok l f g =
      record {
        same = g.same;
        emits = λ s z.
            let m = type_map_of s in
            let e = (g.going s z).emits in
            let k : counted w ≡ w₀.limit + 1 = omega (arith, counted-over w f, g.same.limit) in
            full-stays m (reached_at p m r) i r.arrivals.count (state w) k l e;
      }
