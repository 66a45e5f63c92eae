use Rattle.jser_index.proofs.PartLemmas.{decoded}
use Rattle.jser_index.proofs.ShowLemmas.{begins_none, ok_by, err_by, err_any}
use Rattle.jser_index.proofs.show.write_units.Goals as goal

pub returns-in_err-text-clause-front : goal.returns-in_err-text-clause-front
returns-in_err-text-clause-front g c = err_any c.from_residual.result (λ told e. begins_none _ _ _)

pub returns-clause-said : goal.returns-clause-said
returns-clause-said g c =
    ok_by c.write_next.result c.write_next.ensures.said (λ says told e. says told (decoded told c.args.bytes c.in_ok-text.text e c.in_ok-text.ensures))

pub returns-clause-goes : goal.returns-clause-goes
returns-clause-goes g c =
    ok_by c.write_next.result c.write_next.ensures.goes (λ goes_on told e. goes_on told (decoded told c.args.bytes c.in_ok-text.text e c.in_ok-text.ensures))

pub returns-clause-front : goal.returns-clause-front
returns-clause-front g c =
    err_by c.write_next.result c.write_next.ensures.front (λ begins told e. begins told (decoded told c.args.bytes c.in_ok-text.text e c.in_ok-text.ensures))
