use mathlib.Core.Bool.{not, true}
use mathlib.Core.List.{[]}
use mathlib.Core.Path.{◌≡◌, sym, ap, ◌∙◌}
use native.Mathlib.Omega.{arith}
use lib.ListN.{length}
use Rattle.lists.specs.Tests.{never}
use Rattle.definitions.specs.Reading.{word}
use Rattle.fields.specs.ParseLaws.{repeat-length}
use Rattle.sheet_words.specs.ReachingLaws.{plain-none}
use Rattle.sheet_words.proofs.reaching.fill.Goals as goal

pub returns-then-not-plain : goal.returns-then-not-plain
returns-then-not-plain c ws rest e p =
    let z : length ws ≡ c.args.n = omega (arith, repeat-length word c.args.n [] _ ws rest e) in
    let any : c.put_reaches.new.reach.any ≡ true = c.put_reaches.ensures.same ∙ ap not c.if-not-plain.true in
    record {
      few = omega (arith, c.requires, z);
      none = λ q. never any q;
      each = λ q w h. c.put_reaches.ensures.each ws rest e w (omega (arith, z));
    }

pub returns-else-not-plain : goal.returns-else-not-plain
returns-else-not-plain c ws rest e p =
    let z : length ws ≡ c.args.n = omega (arith, repeat-length word c.args.n [] _ ws rest e) in
    record {
      few = omega (arith, c.requires, z);
      none = λ q. plain-none ws (sym p ∙ c.if-not-plain.false);
      each = λ q. never q (ap not c.if-not-plain.false);
    }
