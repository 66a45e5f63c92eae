use Rattle.std.proofs.Common.{◌++◌, sym, subst}
use Rattle.jser_records.specs.Judged.{FeedFinds}
use Rattle.jser_records.specs.Readings.{HasRead}
use Rattle.jser_records.proofs.ReadingLemmas.{parts_join, took_found}
use Rattle.jser_records.proofs.reading.Reading.take_first.Goals as goal

pub returns-in-Some-clause-has : goal.returns-in-Some-clause-has
returns-in-Some-clause-has c = λ taken had.
    let s = c.args.self.now in
    let piece = c.args.bytes.now in
    subst (λ r. HasRead r (taken ++ piece)) (sym c.decide.ensures)
    (took_found c.feed.new.self s.most s.room taken c.split_at.result.0.now c.split_at.result.1.now piece c.in-Some.found
    (parts_join _ piece c.split_at.result.0.now c.split_at.result.1.now c.split_at.ensures.front c.split_at.ensures.back)
    (subst (λ o. FeedFinds c.feed.new.self taken c.split_at.result.0.now o) c.in-Some.is (c.feed.ensures.finds taken (had.going c.requires.open).judged)))
