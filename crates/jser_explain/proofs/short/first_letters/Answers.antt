use Rattle.std.proofs.Common.{sym}
use Rattle.std.proofs.lemmas.List.{take_all}
use Rattle.jser_explain.proofs.short.first_letters.Goals as goal

pub returns-then-units-le-MOST : goal.returns-then-units-le-MOST
returns-then-units-le-MOST c = sym (take_all 200 c.args.units.now c.if-units-le-MOST.true)
