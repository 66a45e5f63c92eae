use Rattle.std.proofs.Common.{subst}
use Rattle.jser_printer.specs.Seen.{Sees}
use Rattle.jser_printer.proofs.StepLemmas.{ok_by, err_by}
use Rattle.jser_printer.proofs.printer.Printer.write_next.Goals as goal

pub returns-in-Some-clause-said : goal.returns-in-Some-clause-said
returns-in-Some-clause-said g c =
    ok_by c.write_seen.result c.write_seen.ensures.said (λ says told is. says told (subst (λ s. Sees s told) c.in-Some.is (c.see.ensures told is)))

pub returns-in-Some-clause-goes : goal.returns-in-Some-clause-goes
returns-in-Some-clause-goes g c =
    ok_by c.write_seen.result c.write_seen.ensures.goes (λ goes_on told is. goes_on told (subst (λ s. Sees s told) c.in-Some.is (c.see.ensures told is)))

pub returns-in-Some-clause-front : goal.returns-in-Some-clause-front
returns-in-Some-clause-front g c =
    err_by c.write_seen.result c.write_seen.ensures.front (λ begins told is. begins told (subst (λ s. Sees s told) c.in-Some.is (c.see.ensures told is)))
