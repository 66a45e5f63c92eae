use Rattle.jser_scan.proofs.ScanLemmas.{member_class}
use Rattle.jser_scan.proofs.json.write_class.Goals as goal

pub returns-in-Some : goal.returns-in-Some
returns-in-Some g c =
    member_class _ _ _ _ _ _ c.args.class.now c.in-Some.units c.as_slice.result.now c.in-Some.is c.as_slice.ensures.value c.write.ensures c.write_json_text.ensures
