use Rattle.std.proofs.Common.{rules, arith, ◌<◌, ◌≤◌, ◌≡◌, length, get_or}
use Rattle.std.proofs.lemmas.Bool.Decides.{nat_tests}
use Rattle.jser_printer.proofs.SaysLemmas.{says_none}
use Rattle.jser_records.proofs.WordLemmas.{says_sign, says_signs}
use Rattle.jser_records.proofs.sign.write_all.Goals as goal

pub signs-init : goal.signs-init
signs-init g c = (omega arith, says_none _ _ _)

pub signs-preserved : goal.signs-preserved
signs-preserved g c =
    let inside : c.signs.index < length c.args.signs.now = search rules in
    (omega (arith, inside), says_sign _ _ _ _ _ _ c.args.json c.args.signs.now c.signs.index c.in-Some.sign.now inside (search rules) c.signs.invariant.1 c.write_sign.ensures)

pub returns : goal.returns
returns g c =
    let over : length c.args.signs.now ≤ c.signs.index = search rules in
    says_signs _ _ _ _ c.args.json c.args.signs.now c.signs.index over c.signs.invariant.1
