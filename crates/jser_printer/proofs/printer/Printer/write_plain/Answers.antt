use Rattle.std.proofs.Common.{refl}
use Rattle.jser_reading.specs.Labels.{text_token}
use Rattle.jser_printer.proofs.StepLemmas.{ok_by, err_by}
use Rattle.jser_printer.proofs.printer.Printer.write_plain.Goals as goal

pub returns-clause-said : goal.returns-clause-said
returns-clause-said g c = ok_by c.write_seen.result c.write_seen.ensures.said (λ says long. says (text_token long c.args.plain.bytes.now) refl)

pub returns-clause-goes : goal.returns-clause-goes
returns-clause-goes g c = ok_by c.write_seen.result c.write_seen.ensures.goes (λ goes_on long. goes_on (text_token long c.args.plain.bytes.now) refl)

pub returns-clause-front : goal.returns-clause-front
returns-clause-front g c = err_by c.write_seen.result c.write_seen.ensures.front (λ begins long. begins (text_token long c.args.plain.bytes.now) refl)
