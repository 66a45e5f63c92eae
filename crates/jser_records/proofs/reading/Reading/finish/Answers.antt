use Rattle.std.proofs.Common.{◌≡◌, ℕ, List, Some, None, sym, ap, subst, ◌∙◌}
use Rattle.jser_records.specs.Judged.{HasJudged, IsSound, Judging}
use Rattle.jser_records.specs.Readings.{HasRead, Spells, Stands}
use Rattle.jser_records.proofs.PlaceLemmas.{checked_placed, finish_placed}
use Rattle.jser_records.proofs.ReadingLemmas.{answer_spelled, answered_right, found_spelled}
use Rattle.jser_records.proofs.reading.Reading.finish.Goals as goal

pub returns-in-Some-clause-right : goal.returns-in-Some-clause-right
returns-in-Some-clause-right c = λ bytes had.
    let s = c.args.self.now in
    let is : c.look_at_text.new.self.answer ≡ Some c.in-Some.answer = sym c.take.ensures.value ∙ c.in-Some.is in
    let h : Stands s.judge s.most s.room c.look_at_text.new.self.answer bytes =
    subst (λ r. HasRead r bytes) c.look_at_text.ensures.rest (c.look_at_text.ensures.has bytes had) in
    answered_right s.judge s.most s.room c.in-Some.answer bytes (subst (λ o. Stands s.judge s.most s.room o bytes) is h)

pub returns-in-Some-clause-spelled : goal.returns-in-Some-clause-spelled
returns-in-Some-clause-spelled c = λ form mark text had.
    let s = c.args.self.now in
    let is : c.look_at_text.new.self.answer ≡ Some c.in-Some.answer = sym c.take.ensures.value ∙ c.in-Some.is in (
      answer_spelled s.judge s.most s.room s.answer c.look_at_text.new.self.answer c.in-Some.answer s.decoder form mark text had is c.look_at_text.ensures.kept c.look_at_text.ensures.unread,
      finish_placed s.answer s.judge s.most s.room c.look_at_text.new.self.answer s.decoder c.end.new.self form mark text c.in-Some.answer had is c.look_at_text.ensures.kept c.look_at_text.ensures.wrong c.end.ensures,
    )

pub returns-in-None-clause-spelled : goal.returns-in-None-clause-spelled
returns-in-None-clause-spelled c = λ form mark text had.
    let s = c.args.self.now in
    let is : c.look_at_text.new.self.answer ≡ None = sym c.take.ensures.value ∙ c.in-None.is in
    let fine = c.look_at_text.ensures.open is in (
      found_spelled s.judge s.most s.room s.decoder c.end.new.self form mark text c.finish.result
          (subst (λ o. Spells s.judge s.most s.room o s.decoder form mark text) fine.0 had) c.end.ensures fine.1
          (subst (λ (j : Judging). (taken : List ℕ) → HasJudged j taken → IsSound j.rules taken c.finish.result) (ap (λ r. r.judge) c.look_at_text.ensures.rest) c.finish.ensures.finds),
      checked_placed form mark text c.finish.result c.finish.ensures.read,
    )
