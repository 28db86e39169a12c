use Rattle.std.proofs.Common.{ap, refl}
use Rattle.definitions.specs.Bits.{bits_of}
use Rattle.catalogue.specs.declared.Catalogue.{Catalogue}
use Rattle.item_draft.specs.Filling.{filled, rows-there, keys-fit, notes-ready}
use Rattle.item_draft.proofs.fill.Goals as goal

pub put_heads-resources-requires : goal.put_heads-resources-requires
put_heads-resources-requires c =
    let s = c.args in
    let f = c.requires.fillable in
    (f.stands.drawn.drafted.few, rows-there (bits_of s.s.now) s.x.draft.now s.x.entries.now s.order.now s.t.now s.x.read s.o f)

pub extended_by-extended-requires : goal.extended_by-extended-requires
extended_by-extended-requires c =
    let s = c.args in
    keys-fit (bits_of s.s.now) s.x.draft.now s.x.entries.now s.order.now s.t.now s.x.read s.o c.requires.fillable _ (ap (λ (x : Catalogue). x.extensions) c.put_heads-resources.ensures.kept)

pub put_notes-lost-requires-clause-notes_ready : goal.put_notes-lost-requires-clause-notes_ready
put_notes-lost-requires-clause-notes_ready c =
    let s = c.args in
    notes-ready (bits_of s.s.now) s.x.draft.now s.x.entries.now s.order.now s.t.now s.x.read s.o c.requires.fillable _ refl

pub returns : goal.returns
returns c =
    let s = c.args in
    let h = c.put_heads-resources in
    let e = c.extended_by-extended in
    let x = c.put_notes-lost in
    filled (bits_of s.s.now) s.x.draft.now s.x.entries.now s.order.now s.x.read s.o s.t.now h.new.t _ x.new.t c.spread.new.t _ h.result e.result x.result
    (record { heads = h.ensures; extends = e.ensures; numbers = refl; notes = x.ensures; spread = c.spread.ensures })
