use Rattle.std.proofs.Common.{rules, ◌≡◌}
use Rattle.jser_reader.specs.Tags.{block_byte}
use Rattle.jser_reader.proofs.TagLemmas.{note_block, note_reset, note_end}
use Rattle.jser_reader.proofs.machine.Machine.note.Goals as goal

pub returns-in-Some-Block : goal.returns-in-Some-Block
returns-in-Some-Block c =
    let is : c.args.byte ≡ block_byte c.in-Some-Block.long = search rules in
    λ notes. note_block c.in-Some-Block.long c.args.byte _ _ _ is c.next_block.ensures.next c.next_block.ensures.result

pub returns-in-Some-Reset : goal.returns-in-Some-Reset
returns-in-Some-Reset c =
    let is : c.args.byte ≡ 0x79 = search rules in
    λ notes. note_reset c.args.byte _ _ _ _ is c.refuse-in-Some-Reset.ensures.stops c.refuse-in-Some-Reset.ensures.result

pub returns-in-Some-EndBlockData : goal.returns-in-Some-EndBlockData
returns-in-Some-EndBlockData c =
    let is : c.args.byte ≡ 0x78 = search rules in
    λ notes. note_end c.args.byte _ _ _ is (c.end_notes.ensures.end notes) c.end_notes.ensures.result
