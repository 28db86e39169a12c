-- The whole synthesis.
use Rattle.std.specs.Prelude.{Bool, List, ◌≡◌, ℕ, ◌*◌, ◌≤◌, length, Option}
use Rattle.std.specs.Borrow.{MutBor}
use Rattle.std.proofs.Common.{sym, ap, ◌∙◌}
use Rattle.definitions.specs.Map.{type_map_of}
use Rattle.definitions.specs.Synthesis.{synthesis}
use Rattle.definitions.specs.Packing.{row_bytes}
use Rattle.order_form.specs.Lists.{tab}
use Rattle.order_form.specs.declared.Parents.{Parents}
use Rattle.synth_own.specs.declared.Location.{Location}
use Rattle.catalogue.specs.declared.Catalogue.{Catalogue}
use Rattle.emitting.specs.declared.Report.{Report}
use Rattle.emitting.specs.declared.Writer.{Writer}
use Rattle.emitting.specs.Writing.{counted, Begins, Tells, told-rows, told-more, emits_begun}
use Rattle.synth_interpretation.specs.Emit.{emit}
use Rattle.law_visit.specs.Trail.{nothing_played, play_all}
use Rattle.synth_visiting.specs.Trails.{reached_at, TrailOf}
use Rattle.synth_visiting.specs.Along.{rows-along}
use Rattle.synth_visiting.specs.declared.Trail.{Trail}
use Rattle.synthesis.specs.Playing.{AllPlayed}
use Rattle.synthesis.specs.Synthesized.{Synthesized, as_written}

-- a writer that began in a slice, is behind the trail and is asked
module _ (tb : Catalogue) (bs : List Bool) (ns : List (Option Location)) (p : Parents) (r : Trail) (y : TrailOf p r) where
  pub synthesized-by : (limit : ℕ) (slice : MutBor (List ℕ)) (w w' : Writer) (a : Report) (new : List ℕ) → 6 * limit ≤ length slice.now
      → Begins slice limit w → AllPlayed tb bs ns p w r w' → Tells w' a → new ≡ w'.buf.now → Synthesized tb bs ns p limit slice.now new a.rows a.more
  synthesized-by limit slice w w' a new h b g t q =
      let k : w'.limit ≡ limit = g.same.limit ∙ b.limit in
      rw (told-rows w' a t, told-more w' a t, k, q)
      (record {
        written = λ s z.
            let m = type_map_of s in
            let rs = (play_all m nothing_played (tab (reached_at p m r) r.arrivals.count)).rows in
            as_written limit (synthesis m).rows slice.now w'.buf.now (counted w') h
            (emits_begun row_bytes slice limit w w' rs b (record { same = g.same; state = g.emits s z })
            ∙ ap (emit limit (slice.now, 0)) (sym (rows-along p r y m z.held.reads)));
      })
