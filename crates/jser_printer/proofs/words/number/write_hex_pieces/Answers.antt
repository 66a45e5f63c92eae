use Rattle.std.proofs.Common.{rules}
use Rattle.jser_printer.proofs.LineLemmas.{says_piece}
use Rattle.jser_printer.proofs.SaysLemmas.{says_on, says_stopped}
use Rattle.jser_printer.proofs.words.number.write_hex_pieces.Goals as goal

pub pieces-preserved : goal.pieces-preserved
pieces-preserved g c = says_piece _ _ _ _ _ _ _ _ _ _ 64 c.pieces.invariant c.write_hex_piece.ensures (search rules) (search rules)

pub returns : goal.returns
returns g c = says_on _ _ _ _ _ _ _ _ _ c.pieces.invariant c.write_hex_piece-2.ensures

pub returns-then-has_failed : goal.returns-then-has_failed
returns-then-has_failed g c = says_stopped _ _ _ _ _ _ c.pieces.invariant (search rules)
