use Rattle.std.proofs.Common.{ap, replicate, refl}
use Rattle.rows.specs.declared.Row.{Row}
use Rattle.sheet_records.specs.declared.Kind.TheVariants.{MakeList}
use Rattle.synth_dedup.specs.Entries.{entries_of}
use Rattle.synth_dedup.proofs.no_entries.Goals as goal

pub returns : goal.returns
unfolding entries_of
returns c = (refl, refl, ap (λ (r : Row). replicate 201 (record { kind = MakeList; words = r; parents = 0 })) c.empty_row.ensures)
