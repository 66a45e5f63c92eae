use Rattle.std.proofs.Common.{◌≡◌, true, false, arith, rules}
use Rattle.std.specs.Option.{is_some}
use Rattle.jser_anywhere.specs.Texts.{is_first}
use Rattle.jser_anywhere.specs.Steps.{may_begin}
use Rattle.jser_anywhere.proofs.ReadLemmas.{hurried_inside}
use Rattle.jser_anywhere.proofs.scan.Scan.hurry_inside.Goals as goal

pub returns : goal.returns
returns c =
    let quiet : may_begin c.args.piece.now c.args.at ≡ false = search rules in
    let first : is_first c.args.name.text.group ≡ true = search rules in
    let some : is_some c.args.name.text.skip ≡ true = search rules in
    hurried_inside c.args.self.now c.read_past.new.self c.args.name c.args.piece.now c.args.at c.text_until-to.result c.requires.at.0 (omega (arith, c.text_until-to.ensures.few, c.from.ensures))
    quiet first some c.text_until-to.ensures.text c.requires.name c.requires.even c.requires.odd c.read_past.ensures
