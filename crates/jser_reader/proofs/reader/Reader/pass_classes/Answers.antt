use Rattle.std.proofs.Common.{rules, ◌<◌, ◌∙◌, length, arith, subst, refl, Some, None}
use Rattle.jser_reader.specs.Passes.{Passes, CanPass}
use Rattle.jser_reader.proofs.PassLemmas.{pass_none, then_passes, then_halts}
use Rattle.jser_reader.proofs.reader.Reader.pass_classes.Goals as goal

pub classes-init : goal.classes-init
classes-init g c = record {
  within = c.requires.some;
  can = c.requires.can;
  quiet = c.requires.quiet;
  passes = pass_none _ c.args.piece.now c.args.self.now.machine _;
  gate = refl;
}

pub returns-in-Stopped-clause-passes : goal.returns-in-Stopped-clause-passes
returns-in-Stopped-clause-passes g c =
    then_halts _ c.args.piece.now c.split_at.result.1.now c.classes.used _ _ _ _ _ _ c.classes.invariant.passes
    (subst (λ x. Passes (g.G.Gate.told x) c.split_at.result.1.now None c.classes.self.machine c.classes.self.tally c.pass_class.new.self.machine c.pass_class.new.self.tally) c.classes.invariant.gate c.in-Stopped.ensures.passes)
    c.split_at.ensures.back

pub returns-then-is_empty-clause-passes : goal.returns-then-is_empty-clause-passes
returns-then-is_empty-clause-passes g c =
    then_passes _ c.args.piece.now c.split_at.result.1.now c.classes.used c.in-Took.more _ _ _ _ _ _ c.classes.invariant.passes
    (subst (λ x. Passes (g.G.Gate.told x) c.split_at.result.1.now (Some c.in-Took.more) c.classes.self.machine c.classes.self.tally c.pass_class.new.self.machine c.pass_class.new.self.tally) c.classes.invariant.gate c.in-Took.ensures.passes)
    c.split_at.ensures.back

pub classes-preserved : goal.classes-preserved
classes-preserved g c =
    let le = c.in-Took.ensures.progress.1 in
    let left = c.split_at.ensures.back_len in
    let some : 0 < length c.split_at-in-classes.result.1.now = search rules in
    let others = c.split_at-in-classes.ensures.back_len in
    record {
      within = omega arith;
      can = subst (CanPass _) c.split_at-in-classes.ensures.back (search rules);
      quiet = search rules;
      passes =
          then_passes _ c.args.piece.now c.split_at.result.1.now c.classes.used c.in-Took.more _ _ _ _ _ _ c.classes.invariant.passes
          (subst (λ x. Passes (g.G.Gate.told x) c.split_at.result.1.now (Some c.in-Took.more) c.classes.self.machine c.classes.self.tally c.pass_class.new.self.machine c.pass_class.new.self.tally) c.classes.invariant.gate c.in-Took.ensures.passes)
          c.split_at.ensures.back;
      gate = c.pass_class.ensures.gate ∙ c.classes.invariant.gate;
    }
