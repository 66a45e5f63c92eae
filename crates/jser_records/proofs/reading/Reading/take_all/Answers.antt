use Rattle.std.proofs.Common.{◌++◌, ◌-◌, [], length, sym, subst, append-nil}
use Rattle.jser_records.specs.Judged.{FeedFinds}
use Rattle.jser_records.specs.Readings.{HasRead}
use Rattle.jser_records.proofs.ReadingLemmas.{took_found}
use Rattle.jser_records.proofs.reading.Reading.take_all.Goals as goal

pub returns-in-Some-clause-has : goal.returns-in-Some-clause-has
returns-in-Some-clause-has c = λ taken had.
    let s = c.args.self.now in
    let piece = c.args.bytes.now in
    subst (λ r. HasRead r (taken ++ piece)) (sym c.decide.ensures)
    (took_found c.feed.new.self s.most (s.room - length piece) taken piece [] piece c.in-Some.found (sym (append-nil piece))
    (subst (λ o. FeedFinds c.feed.new.self taken piece o) c.in-Some.is (c.feed.ensures.finds taken (had.going c.requires.open).judged)))
