use Rattle.jser_records.specs.Arriving.{ahead}
use Rattle.jser_records.proofs.InputLemmas.{wrote}
use Rattle.jser_records.proofs.run.read_from.Goals as goal

pub returns-in-Ok : goal.returns-in-Ok
returns-in-Ok g c =
    wrote c.args.asked c.args.rules.now (ahead c.args.inbox.now) c.in-Ok.clerk c.read_by-read.new.clerk _ _ _ _ c.read_by-read.result c.tally.result c.in-Ok.ensures.how c.in-Ok.ensures.passes
    c.in-Ok.ensures.number c.in-Ok.ensures.tally c.in-Ok.ensures.output c.in-Ok.ensures.faults c.in-Ok.ensures.terms c.read_by-read.ensures.reads c.read_by-read.ensures.empty
    c.read_by-read.ensures.told c.tally.ensures
