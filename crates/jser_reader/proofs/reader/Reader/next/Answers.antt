use Rattle.std.proofs.Common.{rules, arith, refl, subst, Err}
use Rattle.jser_reader.specs.declared.item.Step.TheVariants as step
use Rattle.jser_reader.specs.Bounds.{MemoryFree}
use Rattle.jser_reader.specs.ReaderStates.{NextTells}
use Rattle.jser_reader.specs.States.{AnswersStop}
use Rattle.jser_reader.proofs.ReaderLemmas.{all_bytes}
use Rattle.jser_reader.proofs.NextLemmas.{stopped_tells, stays_stopped, next_none, not_stopped, next_full, keeps_stopped, keeps_going}
use Rattle.jser_reader.proofs.ItemCalls.{tells_stop, tells_none}
use Rattle.jser_reader.proofs.MemoryLemmas.{free_ok, free_full, free_stopped}
use Rattle.jser_reader.proofs.reader.Reader.next.Goals as goal

pub returns-then-is_stopped-clause-tells : goal.returns-then-is_stopped-clause-tells
returns-then-is_stopped-clause-tells g c = stopped_tells _ c.answer.result _ _ _ _ _ (search rules)

pub returns-then-is_stopped-clause-stays : goal.returns-then-is_stopped-clause-stays
returns-then-is_stopped-clause-stays g c =
    stays_stopped _ c.answer.result _ _ (search rules) (subst (λ r. AnswersStop c.answer.result r.machine c.answer.new.self) c.self.view_is c.answer.ensures)

pub returns-then-is_empty-clause-tells : goal.returns-then-is_empty-clause-tells
returns-then-is_empty-clause-tells g c = next_none c.args.piece.now _ _ _ (search rules)

pub returns-then-is_empty-clause-stays : goal.returns-then-is_empty-clause-stays
returns-then-is_empty-clause-stays g c = not_stopped _ _ _ (search rules)

pub returns-then-is_empty-2-clause-tells : goal.returns-then-is_empty-2-clause-tells
returns-then-is_empty-2-clause-tells g c =
    subst (λ r. NextTells (g.G.Gate.told r.gate) c.args.piece.now (Err c.exceed.result) r.machine r.tally c.exceed.new.self c.exceed.new.tally) c.self.view_is
    (next_full c.exceed.result c.args.piece.now c.within-front.result.now _ _ _ _ _ c.within-front.ensures (all_bytes c.args.piece.now (λ k. omega (arith, c.type_inv.piece k)))
    (search rules) (search rules) c.exceed.ensures.stops (search rules) (search rules))

pub returns-then-is_empty-2-clause-stays : goal.returns-then-is_empty-2-clause-stays
returns-then-is_empty-2-clause-stays g c = not_stopped _ _ _ (search rules)

pub returns-clause-stays : goal.returns-clause-stays
returns-clause-stays g c = not_stopped _ _ _ (search rules)

pub returns-then-is_stopped-clause-items : goal.returns-then-is_stopped-clause-items
returns-then-is_stopped-clause-items g c = tells_stop c.args.piece.now c.answer.result _ _ _ _ _

pub returns-then-is_empty-clause-items : goal.returns-then-is_empty-clause-items
returns-then-is_empty-clause-items g c = tells_none c.args.piece.now _ _ _ (search rules)

pub returns-then-is_empty-2-clause-items : goal.returns-then-is_empty-2-clause-items
returns-then-is_empty-2-clause-items g c = tells_stop c.args.piece.now c.exceed.result _ _ _ _ _

pub returns-then-is_stopped-clause-memory : goal.returns-then-is_stopped-clause-memory
returns-then-is_stopped-clause-memory g c = free_stopped c.answer.result c.args.piece.now _ _ _ (search rules)

pub returns-then-is_empty-clause-memory : goal.returns-then-is_empty-clause-memory
returns-then-is_empty-clause-memory g c = free_ok step.More _ c.args.piece.now _ _ _ refl

pub returns-then-is_empty-2-clause-memory : goal.returns-then-is_empty-2-clause-memory
returns-then-is_empty-2-clause-memory g c =
    subst (λ r. MemoryFree (g.G.Gate.told r.gate) c.args.piece.now (Err c.exceed.result) r.machine r.tally) c.self.view_is
    (free_full c.exceed.result c.args.piece.now c.within-front.result.now _ _ _ _ c.within-front.ensures (all_bytes c.args.piece.now (λ k. omega (arith, c.type_inv.piece k)))
    (search rules) c.exceed.ensures.stops (search rules))

-- The check finds what follows with no answer too; with one, it refuses a wrong body sooner.

pub returns-clause-tells : goal.returns-clause-tells
returns-clause-tells g c = search rules

pub returns-clause-items : goal.returns-clause-items
returns-clause-items g c = search rules

pub returns-clause-memory : goal.returns-clause-memory
returns-clause-memory g c = search rules

pub returns-then-is_stopped-clause-keeps : goal.returns-then-is_stopped-clause-keeps
returns-then-is_stopped-clause-keeps g c =
    keeps_stopped c.answer.result _ _ _ _ (search rules) (subst (λ r. AnswersStop c.answer.result r.machine c.answer.new.self) c.self.view_is c.answer.ensures) (search rules)

pub returns-then-is_empty-clause-keeps : goal.returns-then-is_empty-clause-keeps
returns-then-is_empty-clause-keeps g c = keeps_going _ _ _ _ (search rules)

pub returns-then-is_empty-2-clause-keeps : goal.returns-then-is_empty-2-clause-keeps
returns-then-is_empty-2-clause-keeps g c = keeps_going _ _ _ _ (search rules)

pub returns-clause-keeps : goal.returns-clause-keeps
returns-clause-keeps g c = keeps_going _ _ _ _ (search rules)
