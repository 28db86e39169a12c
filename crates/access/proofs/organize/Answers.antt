use mathlib.Core.Path.{refl}
use Rattle.access.specs.TableLaws.{keys-fit, narrow, prepared, own-put, asked}
use Rattle.access.proofs.organize.Goals as goal

pub put_names-words-requires : goal.put_names-words-requires
put_names-words-requires c = let w = c.requires.decoded.whole in record { keys_fit = keys-fit _ _ _ _ _ w; width_bound = narrow _ _ _ _ _ w }

pub put_parents-parents-requires : goal.put_parents-parents-requires
put_parents-parents-requires c = record { prepared = prepared _ _ _ _ _ c.requires.decoded.whole }

pub organize_type_map-requires : goal.organize_type_map-requires
organize_type_map-requires c =
    let n = c.put_names-words in
    let p = c.put_parents-parents in
    asked _ _ _ _ _ c.requires.decoded.whole _ _ n.result p.result n.ensures (own-put _ _ _ _ _ _ _ _ c.from.ensures p.ensures)

pub returns-then-not-organize_type_map : goal.returns-then-not-organize_type_map
returns-then-not-organize_type_map c = (
  record { words = c.put_names-words.result; childed = c.put_parents-parents.result.set },
  record {
    named = c.put_names-words.new.t;
    parents = c.put_parents-parents.result;
    names = c.put_names-words.ensures;
    put = own-put _ _ _ _ _ _ _ _ c.from.ensures c.put_parents-parents.ensures;
    childed = refl;
    organized = c.if-not-organize_type_map.ensures;
  },
)
