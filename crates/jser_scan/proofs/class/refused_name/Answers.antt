use Rattle.std.proofs.Common.{◌+◌, ◌≡◌, Ok, Some, None, inl, inr, sym, ap, subst, ◌∙◌, rules}
use Rattle.jser_scan.proofs.NameLemmas.{gone_or_none, spells_none}
use Rattle.jser_scan.proofs.class.refused_name.Goals as goal

pub returns-in-Some-2-clause-none : goal.returns-in-Some-2-clause-none
returns-in-Some-2-clause-none c = λ is bytes are few.
    inr (spells_none c.args.rules.now bytes c.in-Some-2.text.items c.args.from c.in-Some.start c.args.to (search (rules, are, few)) (search rules)
    (λ units told spelled. c.refused_text.ensures.none is units told (search (rules, spelled))))

pub returns-in-None-clause-none : goal.returns-in-None-clause-none
returns-in-None-clause-none c = λ is bytes are few.
    gone_or_none c.args.rules.now c.args.last.now bytes c.args.from c.in-Some.start c.args.to (search rules) (search (rules, are, few))
