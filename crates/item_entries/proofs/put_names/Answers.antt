use Rattle.item_names.specs.NamesLaws.{words-few}
use Rattle.item_entries.proofs.put_names.Goals as goal

pub put_words-requires : goal.put_words-requires
put_words-requires c =
    words-few _ _ c.args.x.read.count c.args.x.read.width _ _ _ c.requires.keys_fit.few c.requires.width_bound c.put_sets.ensures c.put_owners.ensures
