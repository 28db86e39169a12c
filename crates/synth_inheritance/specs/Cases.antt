-- An own associate at the limits.
use Rattle.std.specs.Prelude.{◌∷◌, refl, ℕ, zero, suc, ◌<◌, replicate, get_or}
use Rattle.std.proofs.Common.{arith}
use Rattle.sheet_records.specs.declared.Kind.TheVariants.{NestAssociate}
use Rattle.synth_annotations.specs.declared.info.AnnotationInfo.{AnnotationInfo}
use Rattle.synth_inheritance.specs.declared.own.OwnAssociate.{OwnAssociate}

-- a NestAssociate of the words 0, 63, 64, 191, 192, 199, each with the doms none and 199
abbrev edges : AnnotationInfo
edges = record {
  kind = NestAssociate;
  tag = 0;
  count = 6;
  words = 0 ∷ 63 ∷ 64 ∷ 191 ∷ 192 ∷ 199 ∷ replicate 9 0;
  doms = replicate 15 (record { a = 1; b = 0; c = 0; d = 256 });
  few = omega arith;
}

pub edges-own : OwnAssociate
edges-own = record { info = edges; associate = refl; below = small; ascending = refl }
  where
    small : (i : ℕ) → i < 6 → get_or edges.words i 0 < 200
    small zero h = omega arith
    small (suc zero) h = omega arith
    small (suc (suc zero)) h = omega arith
    small (suc (suc (suc zero))) h = omega arith
    small (suc (suc (suc (suc zero)))) h = omega arith
    small (suc (suc (suc (suc (suc zero))))) h = omega arith
    small (suc (suc (suc (suc (suc (suc i)))))) h = absurd (omega arith)
