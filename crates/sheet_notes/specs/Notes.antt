-- What stands behind a type's parents, and what stepping over it gives.
use Rattle.std.specs.Prelude.{Bool, ◌&&◌, not, List, ℕ, zero, suc, eqb, drop, Result, Ok, Err}
use Rattle.definitions.specs.Parse.{Parsed, done, refused, Parser, next, ◌>>=◌, pure, counted}
use Rattle.definitions.specs.Reading.{annotation, mark}
use Rattle.definitions.specs.Records.{Annotation, Mark}
use Rattle.fields.specs.Fields.{fault_of}
use Rattle.fields.specs.declared.Fault.{Fault}
use Rattle.bits.specs.declared.Cursor.{Cursor}

pub record Notes : Type 0 where
  pub annotations : List Annotation
  pub marks : List Mark

unfoldable pub notes : ℕ → Bool → Parser Notes
notes W one_word = do
  as' ← counted 4 0 12 (annotation W one_word)
  ms ← counted 3 0 7 mark
  pure (record { annotations = as'; marks = ms })

-- what was read and not kept
abbrev pub forget : {A : Type 0} → Parsed A → Parsed ℕ
forget (done a rest) = done 0 rest
forget (refused r) = refused r

-- m, n times, nothing kept
unfoldable pub steps : {A : Type 0} → Parser A → ℕ → Parser ℕ
steps m zero bs = done 0 bs
steps m (suc n) bs = next (forget (m bs)) (λ k. steps m n)

-- the cursor behind what was stepped over
abbrev pub of_skip : List Bool → Result Cursor Fault → Parsed ℕ
of_skip bs (Ok c) = done 0 (drop c.at bs)
of_skip bs (Err r) = refused (fault_of r)

abbrev pub nested_in_two : ℕ → Bool → Bool
nested_in_two kind single = eqb kind 2 && not single
