use native.Mathlib.Omega.{arith}
use Rattle.std.proofs.Common.{sym, ap, ◌∙◌}
use Rattle.definitions.specs.Bits.{bits_of}
use Rattle.sheet_records.specs.Kinds.{number_of}
use Rattle.item_notes.specs.NoteLaws.{room, names_at, names-fit, rows_fit, listed, kind-known, one-of, listing-kind, inherit-names, inherit-room, skipped_names, word-room, skipped_word, skipped_none}
use Rattle.item_notes.proofs.with_annotation.Goals as goal

pub of-kind-requires : goal.of-kind-requires
of-kind-requires c = let a = c.args in kind-known (bits_of a.s.now) a.g.at c.peek-w.result c.peek-w.ensures c.requires.annotation_at

pub overflow_add-behind : goal.overflow_add-behind
overflow_add-behind c =
    let a = c.args in
    let p = c.peek-w in
    let k = listing-kind _ _ c.of-kind.ensures c.in-Associate.is in
    omega (arith, room a.s.now _ c.requires.addressable (names-fit (bits_of a.s.now) a.g.at p.result p.ensures k c.requires.annotation_at))

pub with_rows-requires-clause-names_at : goal.with_rows-requires-clause-names_at
with_rows-requires-clause-names_at c =
    let a = c.args in
    let p = c.peek-w in
    names_at (bits_of a.s.now) a.g.at p.result p.ensures (listing-kind _ _ c.of-kind.ensures c.in-Associate.is) c.requires.annotation_at

pub returns-in-Associate : goal.returns-in-Associate
returns-in-Associate c =
    let a = c.args in
    let p = c.peek-w in
    let k = listing-kind _ _ c.of-kind.ensures c.in-Associate.is in
    listed a.t.now a.resources p.result (bits_of a.s.now) a.g c.with_rows.result p.ensures k (rw c.of-kind.ensures at c.with_rows.ensures)

pub overflow_add-at : goal.overflow_add-at
overflow_add-at c =
    let a = c.args in
    let p = c.peek-w in
    let k = sym c.of-kind.ensures ∙ ap number_of c.in-Inherit.is in
    omega (arith, room a.s.now _ c.requires.addressable (inherit-room a.t.now a.resources p.result (bits_of a.s.now) a.g p.ensures k c.requires.annotation_at))

pub skip_names-next-requires-clause-names_at : goal.skip_names-next-requires-clause-names_at
skip_names-next-requires-clause-names_at c =
    let a = c.args in
    let p = c.peek-w in
    let k = sym c.of-kind.ensures ∙ ap number_of c.in-Inherit.is in
    inherit-names a.t.now a.resources p.result (bits_of a.s.now) a.g p.ensures k c.requires.annotation_at

pub returns-in-Inherit : goal.returns-in-Inherit
returns-in-Inherit c =
    let a = c.args in
    let p = c.peek-w in
    let k = sym c.of-kind.ensures ∙ ap number_of c.in-Inherit.is in
    skipped_names a.t.now a.resources p.result (bits_of a.s.now) a.g p.ensures k _ c.skip_names-next.ensures

pub overflow_add-result : goal.overflow_add-result
overflow_add-result c =
    let a = c.args in
    let p = c.peek-w in
    let k = one-of _ _ _ _ c.of-kind.ensures c.in-Alias.is in
    omega (arith, room a.s.now _ c.requires.addressable (word-room a.t.now a.resources p.result (bits_of a.s.now) a.g p.ensures k c.requires.annotation_at))

pub returns-in-Alias : goal.returns-in-Alias
returns-in-Alias c =
    let a = c.args in
    let p = c.peek-w in
    skipped_word a.t.now a.resources p.result (bits_of a.s.now) a.g p.ensures (one-of _ _ _ _ c.of-kind.ensures c.in-Alias.is)

pub overflow_add-result-in-MakeList : goal.overflow_add-result-in-MakeList
overflow_add-result-in-MakeList c =
    let a = c.args in
    let p = c.peek-w in
    omega (arith, room a.s.now _ c.requires.addressable (rows_fit (bits_of a.s.now) a.g.at p.result p.ensures c.requires.annotation_at))

pub returns-in-MakeList : goal.returns-in-MakeList
returns-in-MakeList c =
    let a = c.args in
    let p = c.peek-w in
    skipped_none a.t.now a.resources p.result (bits_of a.s.now) a.g p.ensures (one-of _ _ _ _ c.of-kind.ensures c.in-MakeList.is)
