use Rattle.jser_scan.proofs.ScanLemmas.{says_class}
use Rattle.jser_scan.proofs.answer.write_class.Goals as goal

pub returns-in-Some : goal.returns-in-Some
returns-in-Some g c =
    says_class _ _ _ _ _ _ c.args.class.now c.in-Some.units c.as_slice.result.now c.in-Some.is c.as_slice.ensures.value c.write.ensures c.write_quoted.ensures
