use Rattle.std.proofs.Common.{rules, arith, refl, sym, ◌∙◌, subst, Some, None, Err}
use Rattle.jser_reader.specs.ReaderStates.{SkipTells}
use Rattle.jser_reader.specs.States.{AnswersStop}
use Rattle.jser_reader.specs.Passes.{Passes}
use Rattle.jser_reader.proofs.NextLemmas.{no_bytes, stays_stopped, not_stopped, keeps_stopped, keeps_going}
use Rattle.jser_reader.proofs.SkipMemory.{inside_ok, inside_stopped}
use Rattle.jser_reader.proofs.SkipLemmas.{stopped_skips}
use Rattle.jser_reader.proofs.PassLemmas.{pass_none, then_passes, then_halts, passes_skip, halts_skip, halts_memory}
use Rattle.jser_reader.proofs.reader.Reader.skip.Goals as goal

pub returns-then-is_stopped-clause-tells : goal.returns-then-is_stopped-clause-tells
returns-then-is_stopped-clause-tells g c = stopped_skips c.args.piece.now c.answer.result _ _ _ _ _ (λ bytes st. no_bytes _ bytes _ _ (search rules) st)

pub returns-then-is_stopped-clause-stays : goal.returns-then-is_stopped-clause-stays
returns-then-is_stopped-clause-stays g c =
    stays_stopped _ c.answer.result _ _ (search rules) (subst (λ r. AnswersStop c.answer.result r.machine c.answer.new.self) c.self.view_is c.answer.ensures)

pub returns-then-is_stopped-clause-memory : goal.returns-then-is_stopped-clause-memory
returns-then-is_stopped-clause-memory g c = inside_stopped c.answer.result c.args.piece.now _ _ _ (search rules)

pub steps-init : goal.steps-init
steps-init g c = record {
  gate = refl;
  within = omega arith;
  passes = pass_none _ c.args.piece.now _ _;
  goes_on = search rules;
}

pub returns-in-Stopped-clause-tells : goal.returns-in-Stopped-clause-tells
returns-in-Stopped-clause-tells g c =
    subst (λ r. SkipTells (g.G.Gate.told c.args.self.now.gate) c.args.piece.now (Err c.answer-in-Stopped.result) c.args.self.now.machine c.args.self.now.tally c.answer-in-Stopped.new.self r.tally) (sym c.self-in-steps.view_is)
    (halts_skip _ c.args.piece.now c.answer-in-Stopped.result _ _ _ _ _
    (then_halts _ c.args.piece.now c.split_at.result.1.now c.steps.used _ _ _ _ _ _ c.steps.invariant.passes
    (subst (λ x. Passes (g.G.Gate.told x) c.split_at.result.1.now None c.steps.self.machine c.steps.self.tally c.pass.new.self.machine c.pass.new.self.tally) c.steps.invariant.gate c.in-Stopped.ensures.passes)
    c.split_at.ensures.back)
    (subst (λ r. AnswersStop c.answer-in-Stopped.result r.machine c.answer-in-Stopped.new.self) c.self-in-steps.view_is c.answer-in-Stopped.ensures))

pub returns-in-Stopped-clause-memory : goal.returns-in-Stopped-clause-memory
returns-in-Stopped-clause-memory g c =
    halts_memory _ c.args.piece.now c.answer-in-Stopped.result _ _ _ _ _
    (then_halts _ c.args.piece.now c.split_at.result.1.now c.steps.used _ _ _ _ _ _ c.steps.invariant.passes
    (subst (λ x. Passes (g.G.Gate.told x) c.split_at.result.1.now None c.steps.self.machine c.steps.self.tally c.pass.new.self.machine c.pass.new.self.tally) c.steps.invariant.gate c.in-Stopped.ensures.passes)
    c.split_at.ensures.back)
    (subst (λ r. AnswersStop c.answer-in-Stopped.result r.machine c.answer-in-Stopped.new.self) c.self-in-steps.view_is c.answer-in-Stopped.ensures)

pub returns-in-Stopped-clause-stays : goal.returns-in-Stopped-clause-stays
returns-in-Stopped-clause-stays g c = not_stopped _ _ _ c.steps.invariant.goes_on

pub steps-preserved : goal.steps-preserved
steps-preserved g c =
    let le = c.in-Took.ensures.progress.1 in
    let left = c.split_at.ensures.back_len in
    let before = c.steps.invariant.within in
    record {
      gate = c.pass.ensures.gate ∙ c.steps.invariant.gate;
      within = omega arith;
      passes =
          then_passes _ c.args.piece.now c.split_at.result.1.now c.steps.used c.in-Took.more _ _ _ _ _ _ c.steps.invariant.passes
          (subst (λ x. Passes (g.G.Gate.told x) c.split_at.result.1.now (Some c.in-Took.more) c.steps.self.machine c.steps.self.tally c.pass.new.self.machine c.pass.new.self.tally) c.steps.invariant.gate c.in-Took.ensures.passes)
          c.split_at.ensures.back;
      goes_on = c.steps.invariant.goes_on;
    }

pub returns-clause-tells : goal.returns-clause-tells
returns-clause-tells g c = passes_skip _ c.args.piece.now c.steps.used _ _ _ _ c.steps.invariant.passes (let out = c.steps-test.false in omega arith)

pub returns-clause-memory : goal.returns-clause-memory
returns-clause-memory g c = inside_ok _ tt c.args.piece.now _ _ _ refl

pub returns-clause-stays : goal.returns-clause-stays
returns-clause-stays g c = not_stopped _ _ _ c.steps.invariant.goes_on

pub returns-then-is_stopped-clause-keeps : goal.returns-then-is_stopped-clause-keeps
returns-then-is_stopped-clause-keeps g c =
    keeps_stopped c.answer.result _ _ _ _ (search rules) (subst (λ r. AnswersStop c.answer.result r.machine c.answer.new.self) c.self.view_is c.answer.ensures) (search rules)

pub returns-in-Stopped-clause-keeps : goal.returns-in-Stopped-clause-keeps
returns-in-Stopped-clause-keeps g c = keeps_going _ _ _ _ c.steps.invariant.goes_on

pub returns-clause-keeps : goal.returns-clause-keeps
returns-clause-keeps g c = keeps_going _ _ _ _ c.steps.invariant.goes_on
