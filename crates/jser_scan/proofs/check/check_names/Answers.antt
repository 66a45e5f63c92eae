use Rattle.std.proofs.Common.{Err, ap, subst, sym, true, ◌∙◌}
use Rattle.jser_check.specs.declared.AnywhereFault.TheVariants as fault
use Rattle.jser_check.specs.Passing.{asking}
use Rattle.jser_check.specs.Reads.{SourceTells}
use Rattle.jser_scan.specs.Founds.{options_in}
use Rattle.jser_scan.specs.LastSeen.{AreLast}
use Rattle.jser_scan.proofs.FoundLemmas.{refused_anywhere}
use Rattle.jser_scan.proofs.NameLemmas.{name_told}
use Rattle.jser_scan.proofs.check.check_names.Goals as goal

pub returns-in-Err-Stop-Refused-clause-found : goal.returns-in-Err-Stop-Refused-clause-found
returns-in-Err-Stop-Refused-clause-found g c =
    refused_anywhere c.args.rules.now c.args.tail.now.bytes c.in-Err-Stop-Refused.refusal c.refused.result
    (subst (λ r. SourceTells (asking c.args.rules.now.filter (options_in c.args.rules.now) true) c.args.tail.now.bytes r)
    (c.in-Err-Stop-Refused.is ∙ ap Err (c.in-Err-Stop-Refused.field-0-is ∙ ap fault.Stop c.in-Err-Stop-Refused.field-0-0-is)) c.check_anywhere.ensures.tells)
    c.refused.ensures.is

pub returns-in-Err-Stop-Refused-clause-name : goal.returns-in-Err-Stop-Refused-clause-name
returns-in-Err-Stop-Refused-clause-name g c =
    name_told c.args.tail.now.bytes c.check_anywhere.new.source.bytes c.args.tail.now.last c.check_anywhere.new.source.last c.refused.result c.requires
    c.check_anywhere.ensures.remembers c.check_anywhere.ensures.within
    (λ bytes are few. c.refused.ensures.name bytes (subst (λ last. AreLast last bytes) (sym c.last.ensures) are) few)

pub returns-in-Err-Hidden-clause-name : goal.returns-in-Err-Hidden-clause-name
returns-in-Err-Hidden-clause-name g c =
    name_told c.args.tail.now.bytes c.check_anywhere.new.source.bytes c.args.tail.now.last c.check_anywhere.new.source.last c.hidden.result c.requires
    c.check_anywhere.ensures.remembers c.check_anywhere.ensures.within
    (λ bytes are few. c.hidden.ensures.name bytes (subst (λ last. AreLast last bytes) (sym c.last-in-Err-Hidden.ensures) are) few)
