use Rattle.uses_check.proofs.HeadlineLemmas.{reports_same}
use Rattle.uses_check.proofs.headline.reports_again.Goals as goal

pub returns-in-Ok : goal.returns-in-Ok
returns-in-Ok g c =
    reports_same c.one_reading.ensures c.args.filter.now c.args.options c.args.bytes.now _ c.args.report c.in-Ok.other c.requires.told c.requires.reported
    c.in-Ok.ensures.accepted
