use Rattle.jser_filter.specs.Pieces.{pieces_of}
use Rattle.jser_filter.proofs.FilterLemmas.{HasRead, left_length}
use Rattle.jser_filter.proofs.filter.read_pieces.Given as goal

abbrev pub invariant-pieces : goal.invariant-pieces
invariant-pieces l = HasRead (pieces_of l.units) l.pieces l.rest

abbrev pub decreases-pieces : goal.decreases-pieces
decreases-pieces l = left_length l.rest
