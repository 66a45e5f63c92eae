use Rattle.std.proofs.Common.{rules}
use Rattle.jser_names.proofs.SourceLemmas.{reads_stop}
use Rattle.jser_names.proofs.ReadOnLemmas.{halted_stop}
use Rattle.jser_names.proofs.source.take_all.Goals as goal

pub returns-in-Err-take-clause-refused : goal.returns-in-Err-take-clause-refused
returns-in-Err-take-clause-refused g c =
    reads_stop g.T.Taker.took (g.R.Source.to_come c.args.source.now) (g.R.Source.to_come c.reads.source) (g.R.Source.to_come c.read_some.new.source) c.reads.left c.in-Ok.count
    c.read_some.new.buffer c.split_at.result.0.now c.in-Err-take.stop c.halted-in-Err-take.result.fault c.reads.taker c.take.new.self c.reads.invariant.reads c.in-Ok.ensures.took
    (search rules) c.in-Err-take.ensures c.halted-in-Err-take.ensures.ends

pub returns-in-Err-take-clause-read : goal.returns-in-Err-take-clause-read
returns-in-Err-take-clause-read g c =
    halted_stop g.T.Taker.took (g.R.Source.to_come c.args.source.now) (g.R.Source.to_come c.reads.source) (g.R.Source.to_come c.read_some.new.source) c.reads.left c.in-Ok.count
    c.read_some.new.buffer c.reads.taker c.halted-in-Err-take.result c.reads.invariant.reads c.in-Ok.ensures.took c.halted-in-Err-take.ensures.left
