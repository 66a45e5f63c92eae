use Rattle.std.proofs.Common.{refl}
use Rattle.jser_trees.proofs.AnswerLemmas.{stop_tells, finish_tells}
use Rattle.jser_trees.proofs.read.read_to_end.Goals as goal

pub returns-in-Ok : goal.returns-in-Ok
returns-in-Ok g c =
    finish_tells g.G.Gate.told c.args.reader.now.gate c.args.reader.now c.skip.new.self c.finish.new.self c.args.bytes.now c.finish.result
    refl c.requires c.in-Ok.ensures.gate c.in-Ok.ensures.tells c.finish.ensures.tells

pub returns-in-Err : goal.returns-in-Err
returns-in-Err g c =
    stop_tells g.G.Gate.told c.args.reader.now.gate c.args.reader.now c.skip.new.self c.args.bytes.now c.in-Err.stop refl
    c.requires c.in-Err.ensures.tells
