use Rattle.std.proofs.Common.{IfErr, subst}
use Rattle.jser_check.specs.Answers.{IfRefused, Refuses}
use Rattle.uses_check.proofs.pieces.check_alone.Goals as goal

pub returns-clause-refused : goal.returns-clause-refused
returns-clause-refused c =
    subst (λ f. IfErr c.check_first.result (IfRefused (Refuses f c.args.options c.args.message.now))) c.new-checker.ensures.filter
    (subst (λ o. IfErr c.check_first.result (IfRefused (Refuses c.new-checker.result.reader.gate.filter o c.args.message.now))) c.new-checker.ensures.options c.check_first.ensures.refused)
