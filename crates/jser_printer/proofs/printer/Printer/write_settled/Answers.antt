use Rattle.jser_printer.proofs.StepLemmas.{says_told}
use Rattle.jser_printer.proofs.printer.Printer.write_settled.Goals as goal

pub returns-clause-said : goal.returns-clause-said
returns-clause-said g c = λ told is. says_told _ _ _ _ _ _ c.args.self.now told c.write_here.ensures.said is c.marks-marks.ensures
