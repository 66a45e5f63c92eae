use Rattle.std.proofs.Common.{◌++◌, length}
use Rattle.hex.specs.Hex.{encode_lower}
use Rattle.jser_prim.specs.Outgoing.{sink_state}
use Rattle.jser_printer.specs.Says.{Saying}
use Rattle.jser_printer.proofs.words.number.write_hex_pieces.Given as goal

abbrev pub invariant-pieces : goal.invariant-pieces
invariant-pieces g l =
    Saying l.fn.outbox l.outbox (sink_state (g.W.Sink.gone_out l.fn.sink) (g.W.Sink.has_failed l.fn.sink)) (sink_state (g.W.Sink.gone_out l.sink) (g.W.Sink.has_failed l.sink))
    (λ k. encode_lower l.bytes ++ k) (λ k. encode_lower l.rest ++ k)

abbrev pub decreases-pieces : goal.decreases-pieces
decreases-pieces g l = length l.rest
