use Rattle.std.proofs.Common.{Err}
use Rattle.jser_records.specs.declared.run.Trouble.TheVariants as trouble
use Rattle.jser_records.specs.Arriving.{ahead}
use Rattle.jser_records.proofs.InputLemmas.{reads_flushed}
use Rattle.jser_records.proofs.run.read_by.Goals as goal

pub returns-in-Ok-clause-reads : goal.returns-in-Ok-clause-reads
returns-in-Ok-clause-reads g c =
    reads_flushed c.args.shape c.read_shape-read.result c.read_shape-read.result c.args.clerk.now c.read_shape-read.new.clerk c.flush.new.self (ahead c.args.inbox.now) _ _ _ _ _ _
    c.read_shape-read.ensures.reads c.flush.ensures.quiet (λ w. w)

pub returns-in-Err-clause-reads : goal.returns-in-Err-clause-reads
returns-in-Err-clause-reads g c =
    reads_flushed {Y = Unit {0}} c.args.shape c.read_shape-read.result (Err trouble.Write) c.args.clerk.now c.read_shape-read.new.clerk c.flush.new.self (ahead c.args.inbox.now) _ _ _ _ _ _
    c.read_shape-read.ensures.reads c.flush.ensures.quiet (λ w. absurd w)
