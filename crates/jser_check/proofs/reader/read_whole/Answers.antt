use Rattle.std.proofs.Common.{◌∙◌, rules}
use Rattle.jser_check.proofs.SourceLemmas.{came_more, came_short, whole_ends, whole_stops_as}
use Rattle.jser_check.specs.Pieces.{asked_by}
use Rattle.jser_check.proofs.reader.read_whole.Goals as goal

pub returns-in-Ok-eq0-clause-tells : goal.returns-in-Ok-eq0-clause-tells
returns-in-Ok-eq0-clause-tells g c =
    let came = c.reads.invariant.came in
    whole_ends (asked_by c.args.check.now) c.reads.check c.read_some.new.check _ _ _ c.reads.taken _ came
    (c.in-Ok-eq0.ensures.tells came.bytes came.all) (search rules)

pub reads-preserved : goal.reads-preserved
reads-preserved g c =
    let came = c.reads.invariant.came in
    let more = c.in-Ok-read_some.ensures.tells came.bytes came.all in
    let all = came_more c.reads.check c.read_some.new.check _ _ _ c.reads.taken c.in-Ok-read_some.count came more in
    record {
      came = all;
      short = came_short c.read_some.new.check _ _ _ all;
      asks = c.in-Ok-read_some.ensures.asks ∙ c.reads.invariant.asks;
      room = c.next_buffer-buffer.ensures;
      failed = c.in-Ok-read_some.ensures.fails came.bytes came.all ∙ c.reads.invariant.failed;
      remembers = λ all m. c.in-Ok-read_some.ensures.remembers all (c.reads.invariant.remembers all m);
    }

pub returns-in-Err-clause-tells : goal.returns-in-Err-clause-tells
returns-in-Err-clause-tells g c =
    let came = c.reads.invariant.came in
    whole_stops_as c.args.check.now c.reads.check c.read_some.new.check _ _ _ c.reads.taken _ c.in-Err.fault c.reads.invariant.asks came
    (c.in-Err.ensures.tells came.bytes came.all) (search rules) (search rules)
