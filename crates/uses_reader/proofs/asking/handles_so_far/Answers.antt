use Rattle.uses_reader.proofs.AskingLemmas.{assigned_here}
use Rattle.uses_reader.proofs.asking.handles_so_far.Goals as goal

pub returns-clause-assigned : goal.returns-clause-assigned
returns-clause-assigned g c =
    assigned_here (g.G.Gate.told c.args.reader.now.gate) c.epoch_handles.result c.args.reader.now.machine c.args.reader.now.tally c.epoch_handles.ensures.assigned

pub returns-clause-settled : goal.returns-clause-settled
returns-clause-settled g c =
    λ front cut. c.tokens_begin_streams.ensures (g.G.Gate.told c.args.reader.now.gate) front cut c.args.reader.now.machine c.args.reader.now.tally
