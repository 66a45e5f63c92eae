use Rattle.jser_printer.proofs.StepLemmas.{says_then, begins_dues, begins_all, on_ok_any, on_err_any}
use Rattle.jser_printer.proofs.printer.Printer.write_seen.Goals as goal

pub returns-in_err-write_all_due-clause-front : goal.returns-in_err-write_all_due-clause-front
returns-in_err-write_all_due-clause-front g c =
    on_err_any c.from_residual.result (λ told is. begins_dues _ _ _ _ c.args.self.now told c.in_err-write_all_due.ensures.front)

pub returns-clause-said : goal.returns-clause-said
returns-clause-said g c =
    on_ok_any c.write_settled.result (λ told is. says_then _ _ _ _ _ _ c.args.self.now c.write_all_due.new.self told
    c.in_ok-write_all_due.ensures.said c.in_ok-write_all_due.ensures.settled (c.write_settled.ensures.said told is))

pub returns-clause-front : goal.returns-clause-front
returns-clause-front g c =
    on_err_any c.write_settled.result (λ told is. begins_all _ _ _ _ _ (says_then _ _ _ _ _ _ c.args.self.now c.write_all_due.new.self told
    c.in_ok-write_all_due.ensures.said c.in_ok-write_all_due.ensures.settled (c.write_settled.ensures.said told is)))
