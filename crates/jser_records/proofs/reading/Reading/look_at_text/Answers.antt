use Rattle.std.proofs.Common.{sym, subst, ◌∙◌}
use Rattle.std.specs.Prelude.{IfSome}
use Rattle.jser_scan.specs.declared.Found.TheVariants as found
use Rattle.jser_records.specs.declared.answer.Answer.TheVariants as answer
use Rattle.jser_records.specs.Readings.{HasRead, IsRight, IsWrongIn}
use Rattle.jser_records.proofs.PlaceLemmas.{wrong_in}
use Rattle.jser_records.proofs.ReadingLemmas.{answers, unread_right}
use Rattle.jser_records.proofs.reading.Reading.look_at_text.Goals as goal

pub returns-in-Some-clause-has : goal.returns-in-Some-clause-has
returns-in-Some-clause-has c = λ taken had.
    let s = c.args.self.now in
    subst (λ r. HasRead r taken) (sym c.decide.ensures)
    (answers s.judge s.most s.room (answer.Checked (found.NotRead c.in-Some.fault)) taken (λ more. unread_right s.judge.rules s.most _ c.in-Some.fault))

pub returns-in-Some-clause-unread : goal.returns-in-Some-clause-unread
returns-in-Some-clause-unread c = λ none rules most bytes.
    subst (λ r. IfSome r.answer (λ a. IsRight rules most bytes a)) (sym c.decide.ensures) (unread_right rules most bytes c.in-Some.fault)

pub returns-in-Some-clause-wrong : goal.returns-in-Some-clause-wrong
returns-in-Some-clause-wrong c = λ none.
    subst (λ r. IfSome r.answer (λ a. IsWrongIn c.args.self.now.decoder a)) (sym c.decide.ensures) (wrong_in c.args.self.now.decoder c.in-Some.fault (sym c.fault.ensures ∙ c.in-Some.is))
