use Rattle.jser_index.proofs.PlainLemmas.{plain_said, plain_goes, plain_begins}
use Rattle.jser_index.proofs.ShowLemmas.{ok_by, err_by}
use Rattle.jser_index.proofs.show.write_text.Goals as goal

pub returns-in-Some-clause-said : goal.returns-in-Some-clause-said
returns-in-Some-clause-said g c =
    ok_by c.write_plain.result c.write_plain.ensures.said (plain_said _ _ _ _ c.args.printer.now c.in-Some.plain.bytes.now c.args.bytes.now c.in-Some.ensures.is c.in-Some.ensures.ascii)

pub returns-in-Some-clause-goes : goal.returns-in-Some-clause-goes
returns-in-Some-clause-goes g c =
    ok_by c.write_plain.result c.write_plain.ensures.goes (plain_goes c.args.printer.now c.write_plain.new.self c.in-Some.plain.bytes.now c.args.bytes.now c.in-Some.ensures.is c.in-Some.ensures.ascii)

pub returns-in-Some-clause-front : goal.returns-in-Some-clause-front
returns-in-Some-clause-front g c =
    err_by c.write_plain.result c.write_plain.ensures.front (plain_begins _ _ _ _ c.args.printer.now c.in-Some.plain.bytes.now c.args.bytes.now c.in-Some.ensures.is c.in-Some.ensures.ascii)
