use Rattle.std.proofs.Common.{refl}
use Rattle.jser_records.proofs.FrameLemmas.{counts_more}
use Rattle.jser_records.proofs.HeldLemmas.{holds_answered, holds_then}
use Rattle.jser_records.proofs.current.Record.take.Goals as goal

pub returns-clause-counts : goal.returns-clause-counts
returns-clause-counts c = λ total before counts.
    counts_more c.args.self.now.reading c.hold.new.self.reading c.take.new.self total before c.args.bytes.now c.hold.ensures.refused c.hold.ensures.kept c.take.ensures.has
    c.take.ensures.answered c.take.ensures.bytes c.take.ensures.decoder counts

pub returns-clause-held : goal.returns-clause-held
returns-clause-held c =
    let last = record c.hold.new.self { reading = c.take.new.self } in
    holds_then c.args.self.now c.hold.new.self last c.args.bytes.now c.hold.ensures.held (holds_answered c.hold.new.self last refl refl c.take.ensures.answered)
