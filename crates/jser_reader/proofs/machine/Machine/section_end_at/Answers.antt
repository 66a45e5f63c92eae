use Rattle.std.proofs.Common.{◌∙◌, ap, arith}
use Rattle.jser_reader.specs.Many.{with_top, without_top}
use Rattle.jser_reader.specs.Readers.{Seen}
use Rattle.jser_reader.proofs.ManyNotes.{section_done, section_open}
use Rattle.jser_reader.proofs.ManySections.{opens_of, ended_of}
use Rattle.jser_reader.proofs.machine.Machine.section_end_at.Goals as goal

pub replace_top-requires-clause-fits : goal.replace_top-requires-clause-fits
replace_top-requires-clause-fits c = rw c.sections_after.ensures.same ((opens_of _ _ _ _ _ c.in-Open.ensures.begins).1.fits _)

pub replace_top-requires-clause-part : goal.replace_top-requires-clause-part
replace_top-requires-clause-part c = (opens_of _ _ _ _ _ c.in-Open.ensures.begins).1.part

pub overflow_add-used : goal.overflow_add-used
overflow_add-used c =
    let within = c.requires.room in
    let room = (opens_of _ _ _ _ _ c.in-Open.ensures.begins).0 in
    omega arith

pub take-requires : goal.take-requires
take-requires c =
    let within = c.requires.room in
    let room = (opens_of _ _ _ _ _ c.in-Open.ensures.begins).0 in
    omega arith

pub overflow_add-used-in-Ended : goal.overflow_add-used-in-Ended
overflow_add-used-in-Ended c =
    let within = c.requires.room in
    let room = (ended_of _ _ _ _ c.in-Ended.ensures.begins).0 in
    omega arith

pub close-requires-clause-used : goal.close-requires-clause-used
close-requires-clause-used c =
    let within = c.requires.room in
    let room = (ended_of _ _ _ _ c.in-Ended.ensures.begins).0 in
    omega arith

pub returns-in-Open : goal.returns-in-Open
returns-in-Open c =
    let within = c.requires.room in
    let x = opens_of _ _ _ _ _ c.in-Open.ensures.begins in
    let room = x.0 in
    section_open c.args.piece.now _ _ _ _ c.args.last c.args.section c.in-Open.used c.in-Open.frame c.requires.holds c.requires.room c.requires.tag c.requires.top x.1 (omega arith)
    (c.replace_top.ensures ∙ ap (λ (m : Seen). with_top m c.in-Open.frame) c.sections_after.ensures.same) c.take.ensures

pub returns-in-Ended : goal.returns-in-Ended
returns-in-Ended c =
    let within = c.requires.room in
    let x = ended_of _ _ _ _ c.in-Ended.ensures.begins in
    let room = x.0 in
    section_done c.args.piece.now _ _ _ _ c.args.last c.args.section c.in-Ended.used c.requires.holds c.requires.room c.requires.tag c.requires.top x.1 (omega arith)
    (c.drop_frame.ensures ∙ ap without_top c.sections_after.ensures.same) c.close.ensures
