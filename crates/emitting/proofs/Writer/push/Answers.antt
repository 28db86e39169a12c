use Rattle.std.proofs.Common.{arith, refl, ◌≡◌, ◌+◌, ◌<◌, false, add-zero, lt-ltb}
use Rattle.lists.specs.Tests.{by}
use Rattle.emitting.specs.declared.Writer.{Writer}
use Rattle.emitting.proofs.Writer.push.Goals as goal

-- below the limit there are no more
not-more : (w : Writer) → w.count < w.limit → w.more ≡ false
not-more w h = by w.more (λ e. absurd (omega (arith, w.full e, h))) (λ e. e)

pub returns : goal.returns
returns c =
    let a = c.args in
    let s = a.self.now in
    record {
      same = record { slice = refl; limit = refl };
      state =
          rw (not-more s (omega (arith, c.if-self.false)), add-zero s.count, add-zero (s.count + 1), lt-ltb s.count s.limit (omega (arith, c.if-self.false)), c.write_row.ensures, c.from.ensures, c.unwrap_or.ensures, c.unwrap_or-other.ensures) refl;
    }
