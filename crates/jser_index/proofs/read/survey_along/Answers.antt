use Rattle.std.proofs.Common.{refl, []}
use Rattle.jser_index.proofs.FedLemmas.{fed_along, feed_stops}
use Rattle.jser_index.proofs.ReadLemmas.{memory_out, finish_walks, laws_of}
use Rattle.jser_index.proofs.read.survey_along.Goals as goal

pub returns-in-Err-Reader : goal.returns-in-Err-Reader
returns-in-Err-Reader c =
    feed_stops c.in-Err-Reader.field-0 c.args.bytes.now c.in-Err-Reader.stop _ _ c.feed.new.self.machine c.feed.new.self.tally c.feed.new.visitor
    c.in-Err-Reader.field-0-is c.requires.reader c.in-Err-Reader.ensures.tells

pub returns-in-Err-Visitor : goal.returns-in-Err-Visitor
returns-in-Err-Visitor c = memory_out c.args.bytes.now c.feed.new.visitor

pub returns-in-Ok-finish : goal.returns-in-Ok-finish
returns-in-Ok-finish c =
    finish_walks c.args.bytes.now [] c.finish-in-Ok-finish.result c.feed.new.self.machine c.feed.new.self.tally c.finish-in-Ok-finish.new.self.machine c.feed.new.visitor
    c.finish.new.self (laws_of c.one_reading.ensures c.found.ensures)
    (fed_along _ c.args.bytes.now _ _ c.feed.new.self.machine c.feed.new.self.tally _ c.feed.new.visitor c.finds_fronts.ensures c.places_are_counted.ensures c.requires.reader
    c.requires.survey c.in-Ok.ensures.visits)
    refl c.in-Ok-finish.ensures c.finish-in-Ok-finish.ensures.tells c.finish-in-Ok-finish.ensures.tokens

pub returns-in-Err : goal.returns-in-Err
returns-in-Err c = memory_out c.args.bytes.now c.finish.new.self
