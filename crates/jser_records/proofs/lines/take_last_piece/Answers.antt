use Rattle.std.proofs.Common.{◌++◌}
use Rattle.jser_records.proofs.LineEndLemmas.{apart_bare, stretch_named}
use Rattle.jser_records.proofs.StretchLemmas.{stretch_held}
use Rattle.jser_records.proofs.lines.take_last_piece.Goals as goal

pub returns-clause-held : goal.returns-clause-held
returns-clause-held c = λ raw had. c.take_text.ensures.held (raw ++ c.args.piece.now) (c.hold.ensures.held raw had)

pub returns-clause-ends : goal.returns-clause-ends
returns-clause-ends c = λ line long apart was.
    let lines = c.args.lines in
    let bare = c.without_return.result.now in
    record {
      bare = bare;
      is_bare = c.without_return.ensures.bare;
      named =
          stretch_named c.take_text.result lines.spelling lines.field (line ++ bare) c.take_text.new.current.reading
          (c.take_text.ensures.on lines.field line long (apart_bare lines line c.args.piece.now bare c.without_return.ensures.bare apart)
          (stretch_held c.args.stretch lines.spelling lines.field line c.args.current.now.reading c.hold.new.self.reading c.hold.ensures.kept was));
    }
