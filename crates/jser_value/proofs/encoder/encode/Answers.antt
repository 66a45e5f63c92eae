use Rattle.std.proofs.Common.{sym, ◌∙◌}
use Rattle.jser_value.specs.View.{view_contents}
use Rattle.jser_value.proofs.EncodedLemmas.{wrote_some}
use Rattle.jser_value.proofs.encoder.encode.Goals as goal

pub returns-then-has_failed-clause-written : goal.returns-then-has_failed-clause-written
returns-then-has_failed-clause-written g c =
    let some = wrote_some c.put_stream.new.outbox _ _ (view_contents c.args.contents.now) c.new-outbox.result c.new-outbox.ensures c.list-list.ensures.obeys
    (rw c.list-list.ensures.list at c.put_stream.ensures.puts) (sym c.has_failed.ensures ∙ c.if-has_failed.true) in
    rw c.written-written.ensures (some.0, some.1)
