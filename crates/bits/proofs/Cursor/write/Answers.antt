use mathlib.Core.List.{List}
use mathlib.Core.Path.{sym, ap, ◌∙◌}
use Prim.Native.Nat.{ℕ, ◌+◌, ◌*◌, ◌-◌, ◌/◌, ◌%◌}
use native.Mathlib.Omega.{arith}
use Rattle.definitions.specs.Bits.{to_bits}
use Rattle.bits.specs.Writing.{put}
use Rattle.bits.specs.NumberLaws.{length-to_bits}
use Rattle.bits.specs.WriteLaws.{put-none, put_on}
use Rattle.bits.proofs.Cursor.write.Goals as goal

pub returns-then-n-eq0 : goal.returns-then-n-eq0
returns-then-n-eq0 c =
    let a = c.args in
    record { holds = sym (put-none _ a.self.at a.n a.v (omega arith)); next = omega (arith, length-to_bits a.n a.v) }

pub returns-then-n-room : goal.returns-then-n-room
returns-then-n-room c =
    let a = c.args in
    record { holds = c.put_chunk.ensures; next = omega (arith, length-to_bits a.n a.v) }

pub returns : goal.returns
returns c =
    let a = c.args in
    let p = a.self.at in
    let m = 8 - p % 8 in
    record {
      holds =
          c.put_rest.ensures
          ∙ ap (λ (b : List ℕ). put b (8 * (p / 8 + 1)) (to_bits (a.n - m) a.v)) c.put_chunk-2.ensures
          ∙ put_on a.buf.now p a.n m (p / 8 + 1) a.v (omega arith) (omega arith);
      next = omega (arith, length-to_bits a.n a.v);
    }
