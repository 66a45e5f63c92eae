use Rattle.std.proofs.Common.{rules, ◌≡◌}
use Rattle.jser_reader.specs.Tags.{block_byte}
use Rattle.jser_reader.proofs.TagLemmas.{top_block}
use Rattle.jser_reader.proofs.machine.Machine.top.Goals as goal

pub returns-in-Some-Block : goal.returns-in-Some-Block
returns-in-Some-Block c =
    let is : c.args.byte ≡ block_byte c.in-Some-Block.long = search rules in
    λ none. top_block c.in-Some-Block.long c.args.byte _ _ _ is c.next_block.ensures.next c.next_block.ensures.result
