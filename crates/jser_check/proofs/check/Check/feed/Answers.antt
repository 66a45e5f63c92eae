use Rattle.std.proofs.Common.{Ok}
use Rattle.jser_check.proofs.PieceLemmas.{fed_undecided}
use Rattle.jser_check.proofs.check.Check.feed.Goals as goal

pub returns-in-None-clause-undecided : goal.returns-in-None-clause-undecided
returns-in-None-clause-undecided g c = λ taken h.
    fed_undecided c.args.self.now c.both.new.self taken c.args.piece.now c.in-None.ensures.asks (Ok tt) (c.in-None.ensures.tells taken h)
