-- One call of the visit.
use Rattle.std.specs.Prelude.{Bool, true, false, [], ◌≡◌, refl, ℕ, suc}
use Rattle.std.proofs.Common.{◌∙◌}
use Rattle.definitions.specs.Records.{TypeInfo}
use Rattle.definitions.specs.Comparisons.{elem_name}
use Rattle.definitions.specs.Map.{TypeMap}
use Rattle.definitions.specs.Synthesis.{interpret_type, Visited, Heard, hear_all, listed_parents, finish, visit}

unfoldable pub choose : {A : Type 0} → Bool → A → A → A
choose b c d = elim b [ true ↦ c | false ↦ d ]

abbrev pub heard_by : ℕ → TypeMap → TypeInfo → Visited → Heard
heard_by k m T v = hear_all m (visit k m) (listed_parents m T) (record { ok = true; got = []; visited = v })

visit-step : (k : ℕ) (m : TypeMap) (T : TypeInfo) (v : Visited)
    → visit (suc k) m T v ≡ choose (elem_name T.name v.seen) (record { ok = true; visited = v }) (finish T (heard_by k m T v) (interpret_type m T (heard_by k m T v).got))
unfolding visit choose
visit-step k m T v = refl

pub visit-seen : (k : ℕ) (m : TypeMap) (T : TypeInfo) (v : Visited) → elem_name T.name v.seen ≡ true → visit (suc k) m T v ≡ record { ok = true; visited = v }
unfolding choose
visit-seen k m T v e = visit-step k m T v ∙ rw e

pub visit-new : (k : ℕ) (m : TypeMap) (T : TypeInfo) (v : Visited) → elem_name T.name v.seen ≡ false
    → visit (suc k) m T v ≡ finish T (heard_by k m T v) (interpret_type m T (heard_by k m T v).got)
unfolding choose
visit-new k m T v e = visit-step k m T v ∙ rw e
