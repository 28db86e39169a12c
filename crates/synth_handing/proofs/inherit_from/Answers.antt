use Rattle.std.proofs.Common.{◌^◌, ℕ, List, length, subst, ap, ◌∙◌, arith}
use Rattle.definitions.specs.Bits.{bits_of}
use Rattle.bitsets.specs.Bitsets.{more}
use Rattle.synth_inheritance.specs.declared.own.OwnAssociate.{OwnAssociate}
use Rattle.synth_inheritance.specs.Own.{JoinsParent}
use Rattle.synth_inheritance.specs.OwnLaws.{joins-taken}
use Rattle.synth_handing.specs.Steps.{takes-by}
use Rattle.synth_handing.proofs.inherit_from.Goals as goal

pub returns : goal.returns
unfolding more
returns c =
    let a = c.args in
    let o = c.own_associates-own in
    let f = c.fetch-p in
    let r = c.inherit_parent.new.h in
    let k = c.as_slice.result.now in
    let same = ap (λ (n : ℕ). more 0 n) (omega (arith, c.requires.low)) in
    let bit = subst (λ (b : ℕ). JoinsParent a.h.now k (length k) f.result b r) (c.with_one-parent.ensures ∙ same) c.inherit_parent.ensures in
    let own = subst (λ (l : List OwnAssociate). JoinsParent a.h.now l (length l) f.result (2 ^ a.place) r) c.as_slice.ensures bit in
    takes-by a.h.now (bits_of a.s.now) a.x a.saved.now a.place o.result f.result r o.ensures f.ensures (joins-taken a.h.now o.result.items o.result.count f.result (2 ^ a.place) r own)
