use Rattle.std.proofs.Common.{arith, refl, rules, subst}
use Rattle.jser_reader.specs.Readers.{Seen}
use Rattle.jser_reader.specs.Wholes.{AssignsOther}
use Rattle.jser_reader.specs.Many.{Opened}
use Rattle.jser_reader.proofs.WholeLemmas.{no_other}
use Rattle.jser_reader.proofs.ManyObjects.{not_opened, was_opened, was_assigned, object_ended, object_opened}
use Rattle.jser_reader.proofs.ManyPlain.{nothing_done}
use Rattle.jser_reader.proofs.ManySections.{opens_of, ended_of}
use Rattle.jser_reader.proofs.machine.Machine.filled_object.Goals as goal

pub returns-then-not-assign_other : goal.returns-then-not-assign_other
returns-then-not-assign_other c = nothing_done c.args.piece.now _ _ _ _ (no_other _ _ _ (subst (λ (m : Seen). AssignsOther c.assign_other.result m c.assign_other.new.self) c.sections_from.ensures.same c.assign_other.ensures) (search rules)) refl

pub returns-then-not-open_frame : goal.returns-then-not-open_frame
returns-then-not-open_frame c = nothing_done c.args.piece.now _ _ _ _ (not_opened c.in-Open.frame _ _ _ (subst (λ (m : Seen). Opened c.open_frame.result c.in-Open.frame m c.open_frame.new.self) c.sections_from.ensures.same c.open_frame.ensures) (search rules)) refl

pub overflow_add-used : goal.overflow_add-used
overflow_add-used c =
    let within = c.requires.holds.holds.within in
    let room = (ended_of _ _ _ _ c.in-Ended.ensures.begins).0 in
    omega arith

pub place-requires-clause-used : goal.place-requires-clause-used
place-requires-clause-used c =
    let within = c.requires.holds.holds.within in
    let enough = c.requires.room in
    let room = (ended_of _ _ _ _ c.in-Ended.ensures.begins).0 in
    omega arith

pub overflow_add-used-in-Open : goal.overflow_add-used-in-Open
overflow_add-used-in-Open c =
    let within = c.requires.holds.holds.within in
    let room = (opens_of _ _ _ _ _ c.in-Open.ensures.begins).0 in
    omega arith

pub place-requires-in-Open-clause-used : goal.place-requires-in-Open-clause-used
place-requires-in-Open-clause-used c =
    let within = c.requires.holds.holds.within in
    let enough = c.requires.room in
    let room = (opens_of _ _ _ _ _ c.in-Open.ensures.begins).0 in
    omega arith

pub open_frame-requires-clause-fits : goal.open_frame-requires-clause-fits
open_frame-requires-clause-fits c = rw c.sections_from.ensures.same ((opens_of _ _ _ _ _ c.in-Open.ensures.begins).1.fits _)

pub open_frame-requires-clause-part : goal.open_frame-requires-clause-part
open_frame-requires-clause-part c = (opens_of _ _ _ _ _ c.in-Open.ensures.begins).1.part

pub returns-else-not-assign_other : goal.returns-else-not-assign_other
returns-else-not-assign_other c =
    let within = c.requires.holds.holds.within in
    let enough = c.requires.room in
    let x = ended_of _ _ _ _ c.in-Ended.ensures.begins in
    let room = x.0 in
    object_ended c.args.piece.now c.args.n c.in-Ended.used _ _ _ _ c.args.sections c.requires.holds c.requires.room c.requires.tag c.requires.class (omega arith) c.requires.sections
    c.requires.place x.1 (omega arith) (was_assigned _ _ _ (subst (λ (m : Seen). AssignsOther c.assign_other.result m c.assign_other.new.self) c.sections_from.ensures.same c.assign_other.ensures) (search rules)) c.place.ensures

pub returns-else-not-open_frame : goal.returns-else-not-open_frame
returns-else-not-open_frame c =
    let within = c.requires.holds.holds.within in
    let enough = c.requires.room in
    let x = opens_of _ _ _ _ _ c.in-Open.ensures.begins in
    let room = x.0 in
    object_opened c.args.piece.now c.args.n c.in-Open.used c.in-Open.frame _ _ _ _ _ c.args.sections c.requires.holds c.requires.room c.requires.tag c.requires.class (omega arith)
    c.requires.sections c.requires.place x.1 (omega arith) (was_opened c.in-Open.frame _ _ _ (subst (λ (m : Seen). Opened c.open_frame.result c.in-Open.frame m c.open_frame.new.self) c.sections_from.ensures.same c.open_frame.ensures) (search rules)) c.place-in-Open.ensures c.«open».ensures
