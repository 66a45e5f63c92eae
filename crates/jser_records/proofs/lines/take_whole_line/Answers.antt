use Rattle.std.proofs.Common.{[], ◌∷◌, ◌++◌, subst}
use Rattle.jser_records.specs.Held.{Holds}
use Rattle.jser_records.specs.Lines.{LineCame, end_of}
use Rattle.jser_records.proofs.LineLemmas.{whole_line}
use Rattle.jser_records.proofs.lines.take_whole_line.Goals as goal

pub returns-clause-takes : goal.returns-clause-takes
returns-clause-takes g c =
    whole_line c.args.lines c.args.inbox.now c.pass.new.self c.args.count c.take_line.new.current c.requires.before c.pass.ensures
    (subst (λ xs. LineCame c.args.lines xs c.take_line.new.current.reading) c.front.ensures c.take_line.ensures.came)
    (subst (λ xs. Holds c.take_line.new.current (xs ++ (end_of c.args.lines ∷ []))) c.front.ensures
    (subst (λ xs. Holds c.take_line.new.current (c.front.result.now ++ xs)) c.line_end.ensures c.take_line.ensures.held))
