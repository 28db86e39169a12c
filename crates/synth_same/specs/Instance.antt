-- A sheet and its catalogue, on which two makings of one word are identical: what is asked of a table can be met.
use Rattle.law_classes.proofs.Instance.{crossed, crossed-readable, crossed-within}
use Rattle.item_refusal.specs.Instance.{crossed_table, crossed-catalogued}
use Rattle.synth_classes.specs.Known.{Known}

pub crossed-known : Known crossed crossed_table
crossed-known = record { readable = crossed-readable; within = crossed-within; listed = crossed-catalogued.listed }
