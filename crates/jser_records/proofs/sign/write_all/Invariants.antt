use Rattle.std.proofs.Common.{◌++◌, ◌≤◌, ◌-◌, drop, length}
use Rattle.std.specs.List.{flat_map}
use Rattle.jser_prim.specs.Outgoing.{sink_state}
use Rattle.jser_printer.specs.Says.{Saying}
use Rattle.jser_records.specs.Signs.{sign_words}
use Rattle.jser_records.proofs.sign.write_all.Given as goal

-- what is left to be said is that of the signs that are left
abbrev pub invariant-signs : goal.invariant-signs
invariant-signs g l =
    (l.index ≤ length l.signs) × Saying l.fn.outbox l.outbox (sink_state (g.W.Sink.gone_out l.fn.sink) (g.W.Sink.has_failed l.fn.sink)) (sink_state (g.W.Sink.gone_out l.sink) (g.W.Sink.has_failed l.sink))
    (λ k. flat_map (sign_words l.json) l.signs ++ k) (λ k. flat_map (sign_words l.json) (drop l.index l.signs) ++ k)

abbrev pub decreases-signs : goal.decreases-signs
decreases-signs g l = length l.signs - l.index
