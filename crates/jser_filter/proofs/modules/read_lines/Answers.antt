use Rattle.std.proofs.Common.{Some, None, refl}
use Rattle.jser_filter.proofs.ModulesLemmas.{HasRead, line_read, line_faulty, all_read, left_less}
use Rattle.jser_filter.proofs.modules.read_lines.Goals as goal

pub returns-in-Err-clause-fault : goal.returns-in-Err-clause-fault
returns-in-Err-clause-fault c =
    let read : HasRead c.args.units.now c.lines.modules (Some c.in-Some.text) c.lines.number = rw c.in-Some.is at c.lines.invariant in
    line_faulty c.args.units.now c.lines.modules c.lines.number c.in-Some.text c.next_part.result.0 c.next_part.result.1 _ read c.next_part.ensures.parts refl c.in-Err.ensures.cause

pub lines-preserved : goal.lines-preserved
lines-preserved c =
    let read : HasRead c.args.units.now c.lines.modules (Some c.in-Some.text) c.lines.number = rw c.in-Some.is at c.lines.invariant in
    line_read c.args.units.now c.lines.modules c.add_line.new.self c.lines.number c.in-Some.text c.next_part.result.0 c.next_part.result.1 read c.next_part.ensures.parts
    c.in_default-add_line.ensures.added c.in_default-add_line.ensures.sound (left_less c.in-Some.text c.next_part.result.1 c.next_part.ensures.shorter)

pub returns-clause-entries : goal.returns-clause-entries
returns-clause-entries c =
    let read : HasRead c.args.units.now c.lines.modules None c.lines.number = rw c.in_default.is at c.lines.invariant in
    (all_read c.args.units.now c.lines.modules c.lines.number read).0

pub returns-clause-sound : goal.returns-clause-sound
returns-clause-sound c =
    let read : HasRead c.args.units.now c.lines.modules None c.lines.number = rw c.in_default.is at c.lines.invariant in
    (all_read c.args.units.now c.lines.modules c.lines.number read).1
