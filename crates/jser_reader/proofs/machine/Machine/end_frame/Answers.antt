use Rattle.std.proofs.Common.{◌∙◌, ap, arith, refl, rules}
use Rattle.jser_reader.specs.Many.{with_top, without_top}
use Rattle.jser_reader.specs.Readers.{Seen}
use Rattle.jser_reader.proofs.ManyEnds.{elements_end, section_opens, section_ends, notes_go_on, frame_stays}
use Rattle.jser_reader.proofs.ManySections.{opens_of, ended_of}
use Rattle.jser_reader.proofs.machine.Machine.end_frame.Goals as goal

pub returns-then-pos-prims : goal.returns-then-pos-prims
returns-then-pos-prims c = frame_stays c.args.piece.now _ _ _ _ refl refl

pub returns-in-Short : goal.returns-in-Short
returns-in-Short c = frame_stays c.args.piece.now _ _ _ _ c.after_section.ensures.same refl

pub replace_top-requires-clause-fits : goal.replace_top-requires-clause-fits
replace_top-requires-clause-fits c = rw c.after_section.ensures.same ((opens_of _ _ _ _ _ c.in-Open.ensures.begins).1.fits _)

pub replace_top-requires-clause-part : goal.replace_top-requires-clause-part
replace_top-requires-clause-part c = (opens_of _ _ _ _ _ c.in-Open.ensures.begins).1.part

pub take-requires : goal.take-requires
take-requires c =
    let within = c.requires.holds.within in
    let room = (opens_of _ _ _ _ _ c.in-Open.ensures.begins).0 in
    omega arith

pub close-requires-in-Ended-clause-used : goal.close-requires-in-Ended-clause-used
close-requires-in-Ended-clause-used c =
    let within = c.requires.holds.within in
    let room = (ended_of _ _ _ _ c.in-Ended.ensures.begins).0 in
    omega arith

pub returns-in-Elements : goal.returns-in-Elements
returns-in-Elements c = elements_end c.args.piece.now _ _ _ _ c.in-Elements.left c.requires.holds (search rules) c.requires.none c.drop_frame.ensures c.close.ensures

pub returns-in-Open : goal.returns-in-Open
returns-in-Open c =
    let within = c.requires.holds.within in
    let x = opens_of _ _ _ _ _ c.in-Open.ensures.begins in
    let room = x.0 in
    section_opens c.args.piece.now _ _ _ _ c.in-Fields.last c.in-Fields.section c.in-Fields.pos c.in-Fields.prims c.in-Fields.values c.in-Open.used c.in-Open.frame c.requires.holds (search rules) (search rules) c.requires.none (search rules) x.1 (omega arith)
    (c.replace_top.ensures ∙ ap (λ (m : Seen). with_top m c.in-Open.frame) c.after_section.ensures.same) c.take.ensures

pub returns-in-Ended : goal.returns-in-Ended
returns-in-Ended c =
    let within = c.requires.holds.within in
    let x = ended_of _ _ _ _ c.in-Ended.ensures.begins in
    let room = x.0 in
    section_ends c.args.piece.now _ _ _ _ c.in-Fields.last c.in-Fields.section c.in-Fields.pos c.in-Fields.prims c.in-Fields.values c.in-Ended.used c.requires.holds (search rules) (search rules) c.requires.none (search rules) x.1 (omega arith)
    (c.drop_frame-in-Ended.ensures ∙ ap without_top c.after_section.ensures.same) c.close-in-Ended.ensures

pub returns-in-Notes : goal.returns-in-Notes
returns-in-Notes c = notes_go_on c.args.piece.now _ _ c.args.frame c.requires.holds c.requires.top (search rules)
