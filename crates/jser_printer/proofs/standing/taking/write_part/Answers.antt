use Rattle.std.proofs.Common.{subst}
use Rattle.jser_printer.specs.Frames.{BeginsWith, go_on, parts_of}
use Rattle.jser_printer.proofs.TakeLemmas.{section_silent, notes_silent, end_silent, raw_silent, raw_left, value_silent, value_left}
use Rattle.jser_printer.proofs.standing.taking.write_part.Goals as goal

pub returns-in-Section-clause-said : goal.returns-in-Section-clause-said
returns-in-Section-clause-said g c = section_silent _ _ c.args.marks c.args.table.now.layers c.args.table.now.chains c.args.frames.now c.args.at _ _ _ c.requires.top (subst (λ p. BeginsWith (parts_of c.args.table.now.chains c.args.at) p (parts_of c.args.table.now.chains (go_on c.args.at c.next_part-next.result.index c.next_part-next.result.stage))) c.in-Section.is c.next_part-next.ensures.next)

pub returns-in-Notes-clause-said : goal.returns-in-Notes-clause-said
returns-in-Notes-clause-said g c = notes_silent _ _ c.args.marks c.args.table.now.layers c.args.table.now.chains c.args.frames.now c.args.at _ _ c.requires.top (subst (λ p. BeginsWith (parts_of c.args.table.now.chains c.args.at) p (parts_of c.args.table.now.chains (go_on c.args.at c.next_part-next.result.index c.next_part-next.result.stage))) c.in-Notes.is c.next_part-next.ensures.next)

pub returns-in-End-clause-said : goal.returns-in-End-clause-said
returns-in-End-clause-said g c = end_silent _ _ c.args.marks c.args.table.now.layers c.args.table.now.chains c.args.frames.now c.args.at _ c.requires.top (subst (λ p. BeginsWith (parts_of c.args.table.now.chains c.args.at) p (parts_of c.args.table.now.chains (go_on c.args.at c.next_part-next.result.index c.next_part-next.result.stage))) c.in-End.is c.next_part-next.ensures.next)

pub returns-in_default-seen : goal.returns-in_default-seen
returns-in_default-seen g c =
    let begins = (subst (λ p. BeginsWith (parts_of c.args.table.now.chains c.args.at) p (parts_of c.args.table.now.chains (go_on c.args.at c.next_part-next.result.index c.next_part-next.result.stage))) c.in-Value.is c.next_part-next.ensures.next) in
    record {
      fit = c.requires.fit;
      said = value_silent _ _ c.args.marks c.args.table.now.layers c.args.table.now.chains c.args.frames.now c.args.at _ _ c.args.seen c.requires.top begins c.in_default-seen.not-Tag;
      takes = value_left c.args.table.now.layers c.args.table.now.chains c.args.frames.now c.args.at _ _ c.args.seen c.requires.top begins c.in_default-seen.not-Tag;
    }

pub returns-in_default : goal.returns-in_default
returns-in_default g c =
    let begins = (subst (λ p. BeginsWith (parts_of c.args.table.now.chains c.args.at) p (parts_of c.args.table.now.chains (go_on c.args.at c.next_part-next.result.index c.next_part-next.result.stage))) c.in-Raw.is c.next_part-next.ensures.next) in
    record {
      fit = c.requires.fit;
      said = raw_silent _ _ c.args.marks c.args.table.now.layers c.args.table.now.chains c.args.frames.now c.args.at _ _ c.args.seen c.requires.top begins c.in_default.not-Bytes;
      takes = raw_left c.args.table.now.layers c.args.table.now.chains c.args.frames.now c.args.at _ _ c.args.seen c.requires.top begins c.in_default.not-Bytes;
    }
