use Rattle.std.proofs.Common.{arith, ◌++◌, ◌≡◌, List, ℕ, ◌+◌, ◌-◌, ◌*◌, ◌≤◌, append_assoc, length, take, drop, drop-drop}
use Rattle.std.proofs.Math.Seq.{sets}
use Rattle.std.proofs.lemmas.List.Edits.{sets-eq}
use Rattle.emitting.specs.Row.{row_bytes}
use Rattle.emitting.proofs.write_row.Goals as goal

-- xs in the place of k others
placed : (b xs : List ℕ) (at k : ℕ) → k ≡ length xs → at + length xs ≤ length b → take at b ++ (xs ++ drop k (drop at b)) ≡ sets b at xs
placed b xs at k e h = rw (sets-eq xs b at h, e, drop-drop (length xs) at b, append_assoc)

pub returns : goal.returns
returns c =
    let a = c.args in
    rw c.copy_from_slice.ensures.after
    (placed a.buf.now (row_bytes a.row) (6 * a.n) (6 * a.n + 6 - 6 * a.n) (omega arith) (omega (arith, c.requires)))
