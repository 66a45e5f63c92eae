use Rattle.std.proofs.Common.{◌+◌, take, option_map, sym, subst, rules}
use Rattle.std.specs.Io.KnownBytes.{Consumes}
use Rattle.jser_inputs.specs.Decoding.{right_in, KeepsNumber}
use Rattle.jser_inputs.specs.Spelled.{right_until}
use Rattle.jser_inputs.proofs.ReadLemmas.{wrong}
use Rattle.jser_inputs.proofs.TurnLemmas.{ends_number}
use Rattle.jser_inputs.proofs.decoded.Decoded.turn.Goals as goal

pub returns-in-Err-end-clause-place : goal.returns-in-Err-end-clause-place
returns-in-Err-end-clause-place g c =
    subst (λ s. KeepsNumber (right_in c.args.self.now) (right_in s)) (sym c.in-Err-end.ensures.cut.0)
    (subst (λ s. KeepsNumber (right_in s) (option_map (λ text. c.self-2.inside.at + right_until (wrong c.self-2.inside.spot.spare) text) (g.R.Source.to_come c.take.new.self))) c.self-2.view_is
    (ends_number c.self-2.inside.spot (wrong c.self-2.inside.spot.spare) c.self-2.inside.at (g.R.Source.to_come c.self-2.inside.text) (g.R.Source.to_come c.take.new.self)
    (subst (λ n. Consumes (g.R.Source.to_come c.self-2.inside.text) (g.R.Source.to_come c.take.new.self) (take n c.take.new.buf)) c.if-count-eq0.true c.in-Ok.ensures.bytes.0)
    (c.in-Ok.ensures.bytes.1 c.if-count-eq0.true (search rules))))
