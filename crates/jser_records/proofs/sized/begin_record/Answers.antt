use Rattle.std.proofs.Common.{[], subst, take}
use Rattle.jser_records.specs.Held.{Holds}
use Rattle.jser_records.proofs.sized.begin_record.Goals as goal

pub returns-clause-held : goal.returns-clause-held
returns-clause-held g c =
    c.keep_key.ensures.held (take c.args.size c.args.inbox.now.waiting) (subst (λ xs. Holds c.hold.new.self xs) c.front-header.ensures (c.hold.ensures.held [] c.begin.ensures.held))
