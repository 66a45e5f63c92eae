use Rattle.std.proofs.Common.{subst, ◌∙◌}
use Rattle.jser_printer.specs.Passing.{Passed}
use Rattle.jser_printer.proofs.StepLemmas.{says_step, step_settles, says_settled, says_begun, on_err_any}
use Rattle.jser_printer.proofs.printer.Printer.write_all_due.Goals as goal

pub returns-in_err-write_one_due-clause-front : goal.returns-in_err-write_one_due-clause-front
returns-in_err-write_one_due-clause-front g c =
    on_err_any c.from_residual.result (says_begun _ _ _ _ _ _ _ c.dues.self c.dues.invariant.said c.write_one_due.ensures.said)

pub dues-preserved : goal.dues-preserved
dues-preserved g c =
    let passed = subst (λ more. Passed more c.dues.self c.write_one_due.new.self) c.if-branch.true c.in_ok-write_one_due.ensures.passed in
    record {
      said = says_step _ _ _ _ _ _ _ c.dues.self c.write_one_due.new.self c.dues.invariant.said c.write_one_due.ensures.said passed.1;
      settles = c.dues.invariant.settles ∙ step_settles c.dues.self c.write_one_due.new.self passed.1;
    }

pub returns-clause-said : goal.returns-clause-said
returns-clause-said g c =
    let passed = subst (λ more. Passed more c.dues.self c.write_one_due.new.self) c.if-branch.false c.in_ok-write_one_due.ensures.passed in
    says_settled _ _ _ _ _ _ _ c.dues.self c.dues.invariant.said c.write_one_due.ensures.said passed.0
