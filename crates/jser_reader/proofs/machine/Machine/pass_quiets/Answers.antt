use Rattle.std.proofs.Common.{rules, ◌<◌, length, arith, subst}
use Rattle.jser_reader.specs.Passes.{CanPass}
use Rattle.jser_reader.proofs.PassLemmas.{pass_none, then_passes, then_halts}
use Rattle.jser_reader.proofs.machine.Machine.pass_quiets.Goals as goal

pub tokens-init : goal.tokens-init
tokens-init g c = record {
  within = c.requires.some;
  can = c.requires.can;
  quiet = c.requires.quiet;
  passes = λ tally. pass_none _ c.args.piece.now c.args.self.now tally;
}

pub returns-in-Stopped-clause-passes : goal.returns-in-Stopped-clause-passes
returns-in-Stopped-clause-passes g c = λ tally.
    then_halts _ c.args.piece.now c.split_at.result.1.now c.tokens.used _ _ _ tally tally tally (c.tokens.invariant.passes tally) (c.in-Stopped.ensures.passes tally)
    c.split_at.ensures.back

pub returns-then-is_empty-clause-passes : goal.returns-then-is_empty-clause-passes
returns-then-is_empty-clause-passes g c = λ tally.
    then_passes _ c.args.piece.now c.split_at.result.1.now c.tokens.used c.in-Took.more _ _ _ tally tally tally (c.tokens.invariant.passes tally) (c.in-Took.ensures.passes tally)
    c.split_at.ensures.back

pub tokens-preserved : goal.tokens-preserved
tokens-preserved g c =
    let le = c.in-Took.ensures.progress.1 in
    let left = c.split_at.ensures.back_len in
    let some : 0 < length c.split_at-in-tokens.result.1.now = search rules in
    let others = c.split_at-in-tokens.ensures.back_len in
    record {
      within = omega arith;
      can = subst (CanPass _) c.split_at-in-tokens.ensures.back (search rules);
      quiet = search rules;
      passes = λ tally.
          then_passes _ c.args.piece.now c.split_at.result.1.now c.tokens.used c.in-Took.more _ _ _ tally tally tally (c.tokens.invariant.passes tally) (c.in-Took.ensures.passes tally)
          c.split_at.ensures.back;
    }
