-- What the diagnosis of refusal 8 leaves, for every map that the compact form reads.
use Rattle.std.specs.Borrow.{MutBor}
use Rattle.std.specs.Prelude.{Bool, ◌≡◌, refl, ℕ, zero, suc, ◌+◌, ◌*◌, ◌≤◌, min, ltb, length, take}
use mathlib.Core.List.{List, [], ◌∷◌, ◌++◌, map, cons≢nil}
use Rattle.std.proofs.Common.{sym, ap, ap₂, ◌∙◌, arith, lt-ltb, le-ltb, ltb-true, ltb-false}
use Rattle.std.proofs.lemmas.List.{length-map}
use Rattle.lists.specs.Lists.{each}
use Rattle.lists.specs.Tests.{by}
use Rattle.definitions.specs.Map.{TypeMap}
use Rattle.definitions.specs.OrderRows as rules
use Rattle.definitions.specs.Packing.{row_bytes}
use Rattle.definitions.specs.Answer.{overwrite}
use Rattle.order_form.specs.Reading.{Reads}
use Rattle.order_form.specs.declared.Parents.{Parents}
use Rattle.emitting.specs.Emitting.{State, emit-all}
use Rattle.emitting.specs.Row.{bytes_of}
use Rattle.order_diagnosis.specs.Rows.{order_rows}
use Rattle.emitting.specs.Writing.{counted, Begins, Tells, told-rows, told-more, emits_begun}
use Rattle.emitting.specs.declared.Report.{Report}
use Rattle.emitting.specs.declared.Writer.{Writer}
use Rattle.order_diagnosis.specs.Emit.{emit, Emits}
use Rattle.order_diagnosis.specs.Same.{rows_are}

-- the first rows up to the limit at the start of the slice and no other byte, how many these are, and whether there are more
pub record Reported (p : Parents) (limit : ℕ) (old new : List ℕ) (count : ℕ) (more : Bool) : Type 0 where
  pub written : (m : TypeMap) → Reads p m → new ≡ overwrite (each row_bytes (take limit (rules.order_rows m))) old
  pub counted : (m : TypeMap) → Reads p m → count ≡ min limit (length (rules.order_rows m))
  pub rest : (m : TypeMap) → Reads p m → more ≡ ltb limit (length (rules.order_rows m))

-- as many bytes of as many rows
each_take : {A B : Type 0} (f : A → List ℕ) (g : B → List ℕ) (n : ℕ) (a : List A) (b : List B) → map f a ≡ map g b → each f (take n a) ≡ each g (take n b)
each_take f g zero a b e = refl
each_take f g (suc n) [] [] e = refl
each_take f g (suc n) [] (y ∷ b) e = absurd (cons≢nil (sym e))
each_take f g (suc n) (x ∷ a) [] e = absurd (cons≢nil e)
each_take f g (suc n) (x ∷ a) (y ∷ b) e =
    let i : f x ≡ g y = cc e in
    let j : map f a ≡ map g b = cc e in
    ap₂ (λ (k l : List ℕ). k ++ l) i (each_take f g n a b j)

module _ (p : Parents) (limit : ℕ) (old new : List ℕ) (n : ℕ) (h : 6 * limit ≤ length old) (e : ◌≡◌ {A = State} (new, n) (emit limit (old, 0) (order_rows p))) where
  done : ◌≡◌ {A = State} (new, n) (overwrite (each bytes_of (take limit (order_rows p))) old, min (limit + 1) (length (order_rows p)))
  done = e ∙ emit-all bytes_of (λ r. refl) limit old (order_rows p) h

  pub total : n ≡ min (limit + 1) (length (order_rows p))
  total = ap (λ (w : State). w.1) done

  pub as_written : (m : TypeMap) → Reads p m → new ≡ overwrite (each row_bytes (take limit (rules.order_rows m))) old
  as_written m r =
      ap (λ (w : State). w.0) done
      ∙ ap (λ (b : List ℕ). overwrite b old) (sym (each_take row_bytes bytes_of limit (rules.order_rows m) (order_rows p) (rows_are p m r)))

  pub as_many : (m : TypeMap) → Reads p m → length (rules.order_rows m) ≡ length (order_rows p)
  as_many m r = sym (length-map (rules.order_rows m) row_bytes) ∙ ap length (rows_are p m r) ∙ length-map (order_rows p) bytes_of

  pub reported : Reported p limit old new (min n limit) (ltb limit n)
  reported = record {
    written = as_written;
    counted = λ m r. omega (arith, as_many m r, total);
    rest = λ m r.
        by (ltb limit n)
        (λ t. t ∙ sym (lt-ltb limit (length (rules.order_rows m)) (omega (arith, as_many m r, total, ltb-true limit n t))))
        (λ t. t ∙ sym (le-ltb limit (length (rules.order_rows m)) (omega (arith, as_many m r, total, ltb-false limit n t))));
  }

-- a writer that began in a slice, is behind the rows and is asked
pub reported-by : (p : Parents) (limit : ℕ) (slice : MutBor (List ℕ)) (w w' : Writer) (r : Report) (new : List ℕ) → 6 * limit ≤ length slice.now
    → Begins slice limit w → Emits w w' (order_rows p) → Tells w' r → new ≡ w'.buf.now → Reported p limit slice.now new r.rows r.more
reported-by p limit slice w w' r new h b e t q =
    let k : w'.limit ≡ limit = e.same.limit ∙ b.limit in
    rw (told-rows w' r t, told-more w' r t, k, q) (reported p limit slice.now w'.buf.now (counted w') h (emits_begun bytes_of slice limit w w' (order_rows p) b e))
