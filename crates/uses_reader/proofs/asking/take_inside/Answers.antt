use Rattle.uses_reader.proofs.AskingLemmas.{skips_free}
use Rattle.uses_reader.proofs.asking.take_inside.Goals as goal

pub returns : goal.returns
returns g c = skips_free (g.G.Gate.told c.args.reader.now.gate) c.args.piece.now c.skip.result c.args.reader.now.machine c.args.reader.now.tally c.skip.ensures.memory
