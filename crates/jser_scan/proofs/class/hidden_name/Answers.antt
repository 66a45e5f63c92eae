use Rattle.std.proofs.Common.{inl, inr, rules}
use Rattle.jser_scan.proofs.NameLemmas.{class_named, gone_or_hidden, hides_none}
use Rattle.jser_scan.proofs.class.hidden_name.Goals as goal

pub returns-in-Some-2-clause-stands : goal.returns-in-Some-2-clause-stands
returns-in-Some-2-clause-stands c = λ bytes are few.
    class_named bytes c.in-Some.part.items c.args.from c.args.to c.in-Some-2.class c.if_refused.result (search (rules, are, few)) (search rules) c.if_refused.ensures.same

pub returns-in_default-clause-none : goal.returns-in_default-clause-none
returns-in_default-clause-none c = λ is bytes are few. gone_or_hidden c.args.rules.now c.args.last.now bytes c.args.from c.args.to (search (rules, are, few))

pub returns-in-Some-2-clause-none : goal.returns-in-Some-2-clause-none
returns-in-Some-2-clause-none c = λ is bytes are few.
    inr (hides_none c.args.rules.now bytes c.in-Some.part.items c.args.from c.args.to (search (rules, are, few))
    (inr (record { units = c.in-Some-2.class.items; stands = search rules; passes = search (rules, is) })))

pub returns-clause-none : goal.returns-clause-none
returns-clause-none c = λ is bytes are few.
    inr (hides_none c.args.rules.now bytes c.in-Some.part.items c.args.from c.args.to (search (rules, are, few)) (inl (λ units there. c.in_ok-class.ensures.none (search rules) units (search (rules, there)))))
