use Rattle.std.proofs.Common.{refl, sym, subst}
use Rattle.jser_records.specs.Arriving.{Took}
use Rattle.jser_records.proofs.FrameLemmas.{some_taken}
use Rattle.jser_records.proofs.RoomLemmas.{took_first}
use Rattle.jser_records.proofs.frames.take_waiting.Goals as goal

pub returns-clause-takes : goal.returns-clause-takes
returns-clause-takes g c = λ total before counts.
    some_taken total _ before c.front-piece.result.now c.args.inbox.now c.pass.new.self c.args.current.now c.take.new.self
    (subst (λ xs. Took c.args.inbox.now c.pass.new.self xs) (sym c.front-piece.ensures) (took_first c.args.inbox.now c.pass.new.self _ c.pass.ensures)) refl
    (c.take.ensures.counts total before counts) c.take.ensures.held
