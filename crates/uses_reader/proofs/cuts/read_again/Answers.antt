use Rattle.uses_reader.proofs.CutLemmas.{totals_again}
use Rattle.uses_reader.proofs.cuts.read_again.Goals as goal

pub returns-in-Ok : goal.returns-in-Ok
returns-in-Ok c = totals_again c.one_reading.ensures c.args.bytes.now c.args.answer c.in-Ok.totals c.requires c.in-Ok.ensures
