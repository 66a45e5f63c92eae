use Rattle.std.proofs.Common.{sym, ◌∙◌}
use Rattle.jser_records.proofs.StretchLemmas.{last_value_lost, last_value_more, stopped_lost}
use Rattle.jser_records.proofs.lines.take_last_value.Goals as goal

pub returns-then-is_some-clause-on : goal.returns-then-is_some-clause-on
returns-then-is_some-clause-on c = λ asked line long apart was.
    let old = c.args.current.now.reading in
    let new = c.lose_key.new.self in
    last_value_lost c.args.spelling asked line c.args.text.now c.memchr.result old new c.memchr.ensures (sym c.is_some.ensures ∙ c.if-is_some.true) long c.lose_key.ensures.lost
    (stopped_lost old new c.lose_key.ensures.rest c.lose_key.ensures.lost) was

pub returns-else-is_some-clause-on : goal.returns-else-is_some-clause-on
returns-else-is_some-clause-on c = λ asked line long apart was.
    last_value_more c.args.spelling asked line c.args.text.now c.memchr.result c.args.current.now.reading c.spell.new.self.reading c.memchr.ensures (sym c.is_some.ensures ∙ c.if-is_some.false)
    (record { spelled = c.spell.ensures.spelled; answered = c.spell.ensures.answered; key = c.spell.ensures.key }) long apart was
