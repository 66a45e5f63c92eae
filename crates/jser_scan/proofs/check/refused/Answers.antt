use Rattle.std.proofs.Common.{◌<◌, ◌+◌, length, sym, subst}
use Rattle.std.specs.Prelude.{◌⊎◌}
use Rattle.jser_scan.specs.NamePlaces.{TellsName}
use Rattle.jser_scan.proofs.NameLemmas.{tells_last}
use Rattle.jser_scan.proofs.check.refused.Goals as goal

pub returns-clause-told : goal.returns-clause-told
returns-clause-told c = λ bytes are few.
    subst (λ found. (c.args.refusal.from_byte + 2 + length c.args.last.now.kept < length bytes) ⊎ TellsName c.args.rules.now bytes found) (sym c.found_of.ensures)
    (tells_last c.args.rules.now bytes c.args.refusal c.refused_name-class.result (c.args.refusal.from_byte + 2 + length c.args.last.now.kept < length bytes)
    (λ is. c.refused_name-class.ensures.none is bytes are few))
