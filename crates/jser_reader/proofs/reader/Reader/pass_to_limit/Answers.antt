use Rattle.std.proofs.Common.{rules, arith, subst, None}
use Rattle.jser_reader.specs.Passes.{Passes, CanPass}
use Rattle.jser_reader.specs.States.{IsWithin}
use Rattle.jser_reader.proofs.ReaderLemmas.{all_bytes}
use Rattle.jser_reader.proofs.PassLemmas.{front_can_pass, passes_front, passes_full}
use Rattle.jser_reader.proofs.reader.Reader.pass_to_limit.Goals as goal

pub pass_token-requires-clause-can : goal.pass_token-requires-clause-can
pass_token-requires-clause-can g c =
    subst (λ r. CanPass r.machine c.within-front.result.now) c.self.view_is
    (front_can_pass c.args.piece.now c.within-front.result.now _ c.within-front.ensures (all_bytes c.within-front.result.now (λ k. omega (arith, c.type_inv.front k))))

pub returns-then-is_empty-clause-passes : goal.returns-then-is_empty-clause-passes
returns-then-is_empty-clause-passes g c =
    subst (λ r. Passes (g.G.Gate.told r.gate) c.args.piece.now None r.machine r.tally c.exceed.new.self c.exceed.new.tally) c.self.view_is
    (passes_full c.exceed.result c.args.piece.now c.within-front.result.now _ _ _ _ _ c.within-front.ensures (all_bytes c.args.piece.now (λ k. omega (arith, c.type_inv.piece k))) (search rules) (search rules) c.exceed.ensures.stops (search rules) (search rules))

pub returns-clause-passes : goal.returns-clause-passes
returns-clause-passes g c =
    passes_front _ c.args.piece.now c.within-front.result.now _ _ _ _ _ c.pass_token.ensures.passes
    (subst (λ r. IsWithin r.machine c.args.piece.now c.within-front.result.now) c.self.view_is c.within-front.ensures)
