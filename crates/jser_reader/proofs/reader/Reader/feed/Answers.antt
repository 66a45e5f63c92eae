use Rattle.std.proofs.Common.{rules, subst}
use Rattle.jser_reader.specs.States.{AnswersStop}
use Rattle.jser_reader.proofs.FeedLemmas.{stopped_feeds, stopped_visits, stays_fed, not_stopped_feeds}
use Rattle.jser_reader.proofs.NextLemmas.{no_bytes, keeps_stopped, keeps_going}
use Rattle.jser_reader.proofs.reader.Reader.feed.Goals as goal

pub returns-then-is_stopped-clause-tells : goal.returns-then-is_stopped-clause-tells
returns-then-is_stopped-clause-tells g c = stopped_feeds _ c.args.piece.now c.answer.result _ _ _ _ _ (λ bytes st. no_bytes _ bytes _ _ (search rules) st)

pub returns-then-is_stopped-clause-visits : goal.returns-then-is_stopped-clause-visits
returns-then-is_stopped-clause-visits g c =
    stopped_visits g.V.Visit.takes g.V.Visit.stops c.args.piece.now c.answer.result _ _ _ _ _ _ _ (λ bytes st. no_bytes _ bytes _ _ (search rules) st)

pub returns-then-is_stopped-clause-stays : goal.returns-then-is_stopped-clause-stays
returns-then-is_stopped-clause-stays g c =
    stays_fed _ c.answer.result _ _ _ (search rules) (subst (λ r. AnswersStop c.answer.result r.machine c.answer.new.self) c.self.view_is c.answer.ensures)

pub returns-then-is_stopped-clause-keeps : goal.returns-then-is_stopped-clause-keeps
returns-then-is_stopped-clause-keeps g c =
    keeps_stopped c.answer.result _ _ _ _ (search rules) (subst (λ r. AnswersStop c.answer.result r.machine c.answer.new.self) c.self.view_is c.answer.ensures) (search rules)

pub returns-clause-stays : goal.returns-clause-stays
returns-clause-stays g c = not_stopped_feeds _ _ _ _ _ (search rules)

pub returns-clause-keeps : goal.returns-clause-keeps
returns-clause-keeps g c = keeps_going _ _ _ _ (search rules)
