use Rattle.std.proofs.Common.{◌+◌, refl, rules}
use Rattle.jser_scan.proofs.NameLemmas.{none_between, spells_none}
use Rattle.jser_scan.proofs.class.name_in.Goals as goal

pub returns-in-Some-clause-none : goal.returns-in-Some-clause-none
returns-in-Some-clause-none c = λ is.
    spells_none c.args.rules.now c.args.bytes.now c.in-Some.text.now c.args.from (c.args.from + 2) c.args.to c.in-Some.ensures.text refl (c.refused_text.ensures.none is)

pub returns-in-None-clause-none : goal.returns-in-None-clause-none
returns-in-None-clause-none c = λ is. none_between c.args.rules.now c.args.bytes.now c.args.from c.args.to (c.in-None.ensures.none refl)
