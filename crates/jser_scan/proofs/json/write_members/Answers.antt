use Rattle.jser_scan.proofs.ScanLemmas.{members_hidden, members_refused}
use Rattle.jser_scan.proofs.json.write_members.Goals as goal

pub returns-in-Refused : goal.returns-in-Refused
returns-in-Refused g c =
    members_refused _ _ _ _ _ _ c.args.found.now c.in-Refused.refusal c.in-Refused.class c.in-Refused.is c.write_refusal.ensures c.write_class.ensures

pub returns-in-Hidden : goal.returns-in-Hidden
returns-in-Hidden g c =
    members_hidden _ _ _ _ _ _ _ _ _ _ c.args.found.now c.in-Hidden.from_byte c.in-Hidden.to_byte c.in-Hidden.class c.in-Hidden.is
    c.write_count.ensures c.write_count-in-Hidden.ensures c.write.ensures c.write_class-in-Hidden.ensures
