use Rattle.std.proofs.Common.{Some}
use Rattle.jser_filter.specs.Pieces.{pieces_of}
use Rattle.jser_filter.proofs.FilterLemmas.{HasRead, fault_found}
use Rattle.jser_filter.proofs.filter.read_pieces.Goals as goal

pub returns-in-Err-clause-fault : goal.returns-in-Err-clause-fault
returns-in-Err-clause-fault c =
    let read : HasRead (pieces_of c.args.units.now) c.pieces.pieces (Some c.in-Some.text) = rw c.in-Some.is at c.pieces.invariant in
    fault_found (pieces_of c.args.units.now) c.pieces.pieces c.in-Some.text c.next_part.result.0 c.next_part.result.1 c.in-Err.fault
    read c.next_part.ensures.parts c.in-Err.ensures.pattern c.in-Err.ensures.cause
