use Rattle.std.proofs.Common.{rules}
use Rattle.jser_find.proofs.SpelledLemmas.{gives, goes_on}
use Rattle.jser_find.proofs.spelled.next_byte.Goals as goal

pub characters-preserved : goal.characters-preserved
characters-preserved c =
    goes_on c.args.text.now c.args.from c.characters.at c.characters.spot c.in-Goes.next (search rules) (search rules) (search rules) c.characters.invariant

pub returns-in-Gives : goal.returns-in-Gives
returns-in-Gives c =
    gives c.args.text.now c.args.from c.characters.at c.characters.spot c.in-Gives.next c.in-Gives.byte (search rules) (search rules) (search rules) c.characters.invariant
