use Rattle.std.proofs.Common.{[], refl, ap, ◌∙◌}
use Rattle.jser_prim.specs.Outgoing.{sink_state}
use Rattle.jser_reader.specs.declared.FeedFault.TheVariants as feed_fault
use Rattle.jser_index.specs.SaidItems.{HoldsOn}
use Rattle.jser_index.proofs.SaidLemmas.{fed_said, fed_front, fed_off, fed_out, fed_holds}
use Rattle.jser_index.proofs.ShowLemmas.{show_laws, says_all, due_front, ok_by, err_by}
use Rattle.jser_index.proofs.show.write_along.Goals as goal

pub returns-in-Err-Reader-clause-front : goal.returns-in-Err-Reader-clause-front
returns-in-Err-Reader-clause-front g c =
    fed_front c.args.writer.now (λ w. w.outbox.now) (λ w. sink_state (g.W.Sink.gone_out w.sink.now) (g.W.Sink.has_failed w.sink.now)) (λ w. w.printer.now) (λ y z. HoldsOn y z) c.one_more.ensures
    (show_laws c.told.ensures c.tells_fronts.ensures) c.args.bytes.now
    c.in-Err-Reader.field-0 c.in-Err-Reader.field-0-0 c.args.reader.now.machine c.feed.new.self.machine c.args.reader.now.tally c.feed.new.self.tally c.feed.new.visitor
    c.in-Err-Reader.field-0-is c.requires c.in-Err-Reader.ensures.visits

pub returns-in-Err-Visitor-OutOfMemory-clause-front : goal.returns-in-Err-Visitor-OutOfMemory-clause-front
returns-in-Err-Visitor-OutOfMemory-clause-front g c =
    fed_out c.args.writer.now (λ w. w.outbox.now) (λ w. sink_state (g.W.Sink.gone_out w.sink.now) (g.W.Sink.has_failed w.sink.now)) (λ w. w.printer.now) (λ y z. HoldsOn y z) c.one_more.ensures
    (show_laws c.told.ensures c.tells_fronts.ensures) c.args.bytes.now
    c.in-Err-Visitor-OutOfMemory.field-0 c.args.reader.now.machine c.feed.new.self.machine c.args.reader.now.tally c.feed.new.self.tally c.feed.new.visitor
    (c.in-Err-Visitor-OutOfMemory.field-0-is ∙ ap feed_fault.Visitor c.in-Err-Visitor-OutOfMemory.field-0-0-is) c.requires c.in-Err-Visitor-OutOfMemory.ensures.visits

pub returns-in-Err-Visitor-Sink-clause-said : goal.returns-in-Err-Visitor-Sink-clause-said
returns-in-Err-Visitor-Sink-clause-said g c =
    fed_off c.args.writer.now (λ w. w.outbox.now) (λ w. sink_state (g.W.Sink.gone_out w.sink.now) (g.W.Sink.has_failed w.sink.now)) (λ w. w.printer.now) (λ y z. HoldsOn y z) c.one_more.ensures
    (show_laws c.told.ensures c.tells_fronts.ensures) c.args.bytes.now
    c.in-Err-Visitor-Sink.field-0 c.args.reader.now.machine c.feed.new.self.machine c.args.reader.now.tally c.feed.new.self.tally c.feed.new.visitor
    (c.in-Err-Visitor-Sink.field-0-is ∙ ap feed_fault.Visitor c.in-Err-Visitor-Sink.field-0-0-is) c.requires c.in-Err-Visitor-Sink.ensures.visits

pub returns-in-Ok-clause-said : goal.returns-in-Ok-clause-said
returns-in-Ok-clause-said g c =
    ok_by c.write_all_due.result c.write_all_due.ensures.said
    (says_all c.args.bytes.now [] c.feed.new.self.machine c.feed.new.self.tally c.args.writer.now.printer.now c.feed.new.visitor.printer.now c.args.writer.now.outbox.now
    c.feed.new.visitor.outbox.now c.write_all_due.new.outbox _ _ _ (show_laws c.told.ensures c.tells_fronts.ensures)
    (fed_said c.args.writer.now (λ w. w.outbox.now) (λ w. sink_state (g.W.Sink.gone_out w.sink.now) (g.W.Sink.has_failed w.sink.now)) (λ w. w.printer.now) (λ y z. HoldsOn y z) c.one_more.ensures
    (show_laws c.told.ensures c.tells_fronts.ensures) c.args.bytes.now
    c.args.reader.now.machine c.feed.new.self.machine c.args.reader.now.tally c.feed.new.self.tally c.feed.new.visitor c.requires c.in-Ok.ensures.visits) refl)

pub returns-in-Ok-clause-front : goal.returns-in-Ok-clause-front
returns-in-Ok-clause-front g c =
    err_by c.write_all_due.result c.write_all_due.ensures.front
    (due_front c.args.bytes.now [] c.feed.new.self.machine c.feed.new.self.tally c.args.writer.now.printer.now c.feed.new.visitor.printer.now c.args.writer.now.outbox.now
    c.feed.new.visitor.outbox.now c.write_all_due.new.outbox _ _ _ (show_laws c.told.ensures c.tells_fronts.ensures)
    (fed_said c.args.writer.now (λ w. w.outbox.now) (λ w. sink_state (g.W.Sink.gone_out w.sink.now) (g.W.Sink.has_failed w.sink.now)) (λ w. w.printer.now) (λ y z. HoldsOn y z) c.one_more.ensures
    (show_laws c.told.ensures c.tells_fronts.ensures) c.args.bytes.now
    c.args.reader.now.machine c.feed.new.self.machine c.args.reader.now.tally c.feed.new.self.tally c.feed.new.visitor c.requires c.in-Ok.ensures.visits) refl)

pub returns-in-Err-Reader-clause-holds : goal.returns-in-Err-Reader-clause-holds
returns-in-Err-Reader-clause-holds g c =
    fed_holds c.args.writer.now (λ s. sink_state (g.W.Sink.gone_out s) (g.W.Sink.has_failed s)) c.one_more.ensures (show_laws c.told.ensures c.tells_fronts.ensures)
    c.args.bytes.now c.feed.result c.args.reader.now.machine c.feed.new.self.machine c.args.reader.now.tally c.feed.new.self.tally c.feed.new.visitor c.requires c.feed.ensures.visits

pub returns-in-Err-Visitor-OutOfMemory-clause-holds : goal.returns-in-Err-Visitor-OutOfMemory-clause-holds
returns-in-Err-Visitor-OutOfMemory-clause-holds g c =
    fed_holds c.args.writer.now (λ s. sink_state (g.W.Sink.gone_out s) (g.W.Sink.has_failed s)) c.one_more.ensures (show_laws c.told.ensures c.tells_fronts.ensures)
    c.args.bytes.now c.feed.result c.args.reader.now.machine c.feed.new.self.machine c.args.reader.now.tally c.feed.new.self.tally c.feed.new.visitor c.requires c.feed.ensures.visits

pub returns-in-Err-Visitor-Sink-clause-holds : goal.returns-in-Err-Visitor-Sink-clause-holds
returns-in-Err-Visitor-Sink-clause-holds g c =
    fed_holds c.args.writer.now (λ s. sink_state (g.W.Sink.gone_out s) (g.W.Sink.has_failed s)) c.one_more.ensures (show_laws c.told.ensures c.tells_fronts.ensures)
    c.args.bytes.now c.feed.result c.args.reader.now.machine c.feed.new.self.machine c.args.reader.now.tally c.feed.new.self.tally c.feed.new.visitor c.requires c.feed.ensures.visits

pub returns-in-Ok-clause-holds : goal.returns-in-Ok-clause-holds
returns-in-Ok-clause-holds g c =
    fed_holds c.args.writer.now (λ s. sink_state (g.W.Sink.gone_out s) (g.W.Sink.has_failed s)) c.one_more.ensures (show_laws c.told.ensures c.tells_fronts.ensures)
    c.args.bytes.now c.feed.result c.args.reader.now.machine c.feed.new.self.machine c.args.reader.now.tally c.feed.new.self.tally c.feed.new.visitor c.requires c.feed.ensures.visits
