use Rattle.std.proofs.Common.{◌++◌}
use Rattle.jser_records.proofs.StretchLemmas.{stretch_held}
use Rattle.jser_records.proofs.lines.take_piece.Goals as goal

pub returns-clause-held : goal.returns-clause-held
returns-clause-held c = λ raw had. c.take_text.ensures.held (raw ++ c.args.piece.now) (c.hold.ensures.held raw had)

pub returns-clause-on : goal.returns-clause-on
returns-clause-on c = λ line long apart was.
    let lines = c.args.lines in
    c.take_text.ensures.on lines.field line long apart
    (stretch_held c.args.stretch lines.spelling lines.field line c.args.current.now.reading c.hold.new.self.reading c.hold.ensures.kept was)
