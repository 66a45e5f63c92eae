use Rattle.std.proofs.Common.{not, ap, subst}
use Rattle.jser_records.proofs.StretchLemmas.{MoreSpelled, value_ended_by, value_goes_on}
use Rattle.jser_records.proofs.lines.take_value.Goals as goal

pub returns-in-Some-clause-on : goal.returns-in-Some-clause-on
returns-in-Some-clause-on c = λ asked line long apart was.
    let written = c.args.spelling in
    let old = c.args.current.now.reading in
    let mid = c.spell.new.self.reading in
    value_ended_by written asked line c.args.text.now c.split_at.result.1.now c.in-Some.at _ old mid c.take_behind.new.current.reading c.in-Some.ensures c.split_at.ensures.back
    (subst (λ xs. MoreSpelled written xs old mid) c.split_at.ensures.front
    (record { spelled = c.spell.ensures.spelled; answered = c.spell.ensures.answered; key = c.spell.ensures.key })) (ap not c.is_there-is_first.ensures) c.take_behind.ensures.key
    c.take_behind.ensures.came c.take_behind.ensures.stopped long apart was

pub returns-in-None-clause-on : goal.returns-in-None-clause-on
returns-in-None-clause-on c = λ asked line long apart was.
    value_goes_on c.args.spelling asked line c.args.text.now c.args.current.now.reading c.spell-in-None.new.self.reading c.in-None.ensures
    (record { spelled = c.spell-in-None.ensures.spelled; answered = c.spell-in-None.ensures.answered; key = c.spell-in-None.ensures.key }) long apart was

pub returns-in-Some-clause-held : goal.returns-in-Some-clause-held
returns-in-Some-clause-held c = λ raw had. c.take_behind.ensures.held raw (c.spell.ensures.held raw had)
