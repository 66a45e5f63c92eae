use Rattle.std.proofs.Common.{[], inl}
use Rattle.jser_check.specs.Pieces.{asked_by}
use Rattle.jser_check.proofs.WholeLemmas.{answer_ends, front_after, front_decided}
use Rattle.jser_check.proofs.check.Check.answer.Goals as goal

pub returns-in-Ok-clause-tells : goal.returns-in-Ok-clause-tells
returns-in-Ok-clause-tells g c = λ h.
    answer_ends (asked_by c.args.self.now) (asked_by c.feed.new.self) c.args.bytes.now c.finish.result c.feed.ensures.asks (c.finish.ensures.tells c.args.bytes.now (c.in-Ok.ensures.tells [] h))

pub returns-in-Ok-clause-whole : goal.returns-in-Ok-clause-whole
returns-in-Ok-clause-whole g c = λ h.
    front_after (asked_by c.args.self.now) (asked_by c.feed.new.self) c.args.bytes.now _ c.finish.result c.feed.ensures.asks (c.finish.ensures.whole c.args.bytes.now (c.in-Ok.ensures.tells [] h))

pub returns-in-Err-clause-tells : goal.returns-in-Err-clause-tells
returns-in-Err-clause-tells g c = λ h. inl (c.in-Err.ensures.tells [] h)

pub returns-in-Err-clause-whole : goal.returns-in-Err-clause-whole
returns-in-Err-clause-whole g c = λ h.
    front_decided c.args.self.now.reader.gate.filter c.args.self.now.reader.gate.options c.args.bytes.now _ c.in-Err.fault (c.in-Err.ensures.whole [] h)
