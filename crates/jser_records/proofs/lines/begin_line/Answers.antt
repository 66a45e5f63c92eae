use Rattle.std.proofs.Common.{[], inl, subst, sym}
use Rattle.jser_records.specs.Keys.{HasNoKey}
use Rattle.jser_records.proofs.FrameLemmas.{held_key}
use Rattle.jser_records.proofs.LineLemmas.{ready_held}
use Rattle.jser_records.proofs.lines.begin_line.Goals as goal

pub returns-clause-held : goal.returns-clause-held
returns-clause-held c = c.take_front.ensures.held c.args.front.now (c.hold.ensures.held [] c.begin.ensures.held)

pub returns-clause-on : goal.returns-clause-on
returns-clause-on c = λ long.
    let begun = c.begin.new.self.reading in
    let mid = c.hold.new.self.reading in
    c.take_front.ensures.on long (ready_held begun mid c.args.lines.spelling.form c.hold.ensures.kept (inl (c.begin.ensures.open, c.begin.ensures.spelled)))
    (subst HasNoKey (sym (held_key begun mid c.hold.ensures.kept)) c.begin.ensures.key)
