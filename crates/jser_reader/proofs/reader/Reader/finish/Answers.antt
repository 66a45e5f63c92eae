use Rattle.std.proofs.Common.{rules, subst, ◌≡◌, ◌+◌, ◌<◌, ◌^◌, length}
use Rattle.jser_reader.specs.declared.refusal.Reason.TheVariants as reason
use Rattle.jser_reader.specs.declared.refusal.Stop.TheVariants as stop
use Rattle.jser_reader.specs.Handlers.{StopsWith, refusal}
use Rattle.jser_reader.specs.States.{AnswersStop}
use Rattle.jser_reader.specs.Tallies.{totals_of}
use Rattle.jser_reader.proofs.NextLemmas.{stopped_finishes, stays_stopped, finish_truncates, finish_accepts, not_stopped, keeps_stopped, keeps_going, whole_at_end, whole_cut, whole_of_stopped}
use Rattle.jser_reader.proofs.ItemCalls.{tells_tokens, tells_no_tokens}
use Rattle.jser_reader.proofs.reader.Reader.finish.Goals as goal

pub returns-then-is_stopped-clause-tells : goal.returns-then-is_stopped-clause-tells
returns-then-is_stopped-clause-tells g c = stopped_finishes c.answer.result _ _ _ _ (search rules)

pub returns-then-is_stopped-clause-stays : goal.returns-then-is_stopped-clause-stays
returns-then-is_stopped-clause-stays g c =
    stays_stopped _ c.answer.result _ _ (search rules) (subst (λ r. AnswersStop c.answer.result r.machine c.answer.new.self) c.self.view_is c.answer.ensures)

pub returns-then-not-is_at_top-clause-tells : goal.returns-then-not-is_at_top-clause-tells
returns-then-not-is_at_top-clause-tells g c =
    finish_truncates c.truncate.result _ _ _ _ (search rules) (search rules)
    (subst (λ r. StopsWith (refusal r.machine.meter reason.Truncated) r.machine c.truncate.new.self) c.self.view_is c.truncate.ensures.stops)

pub returns-then-not-is_at_top-clause-stays : goal.returns-then-not-is_at_top-clause-stays
returns-then-not-is_at_top-clause-stays g c = not_stopped _ _ _ (search rules)

pub returns-clause-tells : goal.returns-clause-tells
returns-clause-tells g c =
    finish_accepts _ _ _ _ _ (search rules) (subst (λ r. StopsWith stop.Spent r.machine c.end.new.self) c.self.view_is c.end.ensures)
    (subst (λ r. r.tally.earlier + length r.machine.table.entries < 2 ^ 64 → c.totals-totals.result ≡ totals_of r.machine r.tally) c.self.view_is c.totals-totals.ensures) (search rules)

pub returns-clause-stays : goal.returns-clause-stays
returns-clause-stays g c = not_stopped _ _ _ (search rules)

pub returns-then-is_stopped-clause-tokens : goal.returns-then-is_stopped-clause-tokens
returns-then-is_stopped-clause-tokens g c = tells_no_tokens c.answer.result _ _ _

pub returns-then-not-is_at_top-clause-tokens : goal.returns-then-not-is_at_top-clause-tokens
returns-then-not-is_at_top-clause-tokens g c = tells_no_tokens c.truncate.result _ _ _

pub returns-clause-tokens : goal.returns-clause-tokens
returns-clause-tokens g c = tells_tokens _ _ _ _ (search rules)

pub returns-then-is_stopped-clause-whole : goal.returns-then-is_stopped-clause-whole
returns-then-is_stopped-clause-whole g c = whole_of_stopped _ _ _ _ _ (search rules)

pub returns-then-not-is_at_top-clause-whole : goal.returns-then-not-is_at_top-clause-whole
returns-then-not-is_at_top-clause-whole g c =
    whole_cut _ _ _ _ _ _ (search rules)
    (subst (λ r. StopsWith (refusal r.machine.meter reason.Truncated) r.machine c.truncate.new.self) c.self.view_is c.truncate.ensures.stops) (search rules)

pub returns-clause-whole : goal.returns-clause-whole
returns-clause-whole g c =
    whole_at_end _ stop.Spent _ _ _ _ (subst (λ r. StopsWith stop.Spent r.machine c.end.new.self) c.self.view_is c.end.ensures) (search rules)

pub returns-then-is_stopped-clause-keeps : goal.returns-then-is_stopped-clause-keeps
returns-then-is_stopped-clause-keeps g c =
    keeps_stopped c.answer.result _ _ _ _ (search rules) (subst (λ r. AnswersStop c.answer.result r.machine c.answer.new.self) c.self.view_is c.answer.ensures) (search rules)

pub returns-then-not-is_at_top-clause-keeps : goal.returns-then-not-is_at_top-clause-keeps
returns-then-not-is_at_top-clause-keeps g c = keeps_going _ _ _ _ (search rules)

pub returns-clause-keeps : goal.returns-clause-keeps
returns-clause-keeps g c = keeps_going _ _ _ _ (search rules)
