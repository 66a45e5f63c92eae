use Rattle.std.proofs.Common.{sym, subst}
use Rattle.jser_scan.specs.LastSeen.{AreLast}
use Rattle.jser_scan.proofs.NameLemmas.{name_told}
use Rattle.jser_scan.proofs.check.check.Goals as goal

pub returns-in-Err-Stop-Refused-clause-name : goal.returns-in-Err-Stop-Refused-clause-name
returns-in-Err-Stop-Refused-clause-name g c =
    name_told c.args.tail.now.bytes c.check_reader.new.source.bytes c.args.tail.now.last c.check_reader.new.source.last c.refused.result c.requires
    c.check_reader.ensures.remembers c.check_reader.ensures.within
    (λ bytes are few. c.refused.ensures.name bytes (subst (λ last. AreLast last bytes) (sym c.last.ensures) are) few)
