use Rattle.jser_anywhere.proofs.QuietLemmas.{hurried}
use Rattle.jser_anywhere.proofs.scan.Scan.hurry_outside.Goals as goal

pub returns : goal.returns
returns c =
    hurried c.args.self.now c.go_past.new.self c.args.piece.now c.args.at c.quiet_until-to.result c.requires.at.0 c.requires.name c.requires.even c.requires.odd
    c.quiet_until-to.ensures c.go_past.ensures
