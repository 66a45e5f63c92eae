use Rattle.std.proofs.Common.{◌≡◌, map, take}
use Rattle.jser_filter.specs.Pieces.{view_piece}
use Rattle.jser_filter.specs.Filters.{limits_of}
use Rattle.jser_filter.proofs.pieces.limits_in.Given as goal

abbrev pub invariant-loop-piece : goal.invariant-loop-piece
invariant-loop-piece l = l.limits ≡ limits_of (map view_piece (take l.piece-index l.pieces))
