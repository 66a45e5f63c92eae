use Rattle.std.proofs.Common.{rules, subst}
use Rattle.jser_index.specs.Graphs.{IsGraph}
use Rattle.jser_index.specs.declared.output.GraphFault.TheVariants as fault
use Rattle.jser_index.proofs.ShownLemmas.{either_front, went, text_counted, text_out, text_kept, partly, front_out, write_failed, memory_failed}
use Rattle.jser_index.proofs.graph.Index.show.Goals as goal

pub returns-then-has_failed-clause-written : goal.returns-then-has_failed-clause-written
returns-then-has_failed-clause-written g c =
    front_out c.args.values c.args.self.now c.new-outbox.result c.write-told.new.outbox c.flush.new.self _ _ _ (fault.Write c.written-written.result)
    (partly c.args.values _ _ _ _ _ _ _ (search rules)
    (either_front c.write-told.result _ _ _ _ _ _ c.write-told.ensures.said c.write-told.ensures.front) c.flush.ensures.puts)
    (search rules) c.written-written.ensures

pub returns-then-has_failed-clause-failed : goal.returns-then-has_failed-clause-failed
returns-then-has_failed-clause-failed g c =
    write_failed c.args.values c.args.self.now c.new-outbox.result c.write-told.new.outbox c.flush.new.self _ _ _ (subst IsGraph c.self.view_is c.self.invariant)
    (partly c.args.values _ _ _ _ _ _ _ (search rules)
    (either_front c.write-told.result _ _ _ _ _ _ c.write-told.ensures.said c.write-told.ensures.front) c.flush.ensures.puts)
    (search rules)

pub returns-in-Ok-clause-length : goal.returns-in-Ok-clause-length
returns-in-Ok-clause-length g c =
    text_counted c.args.values c.args.self.now c.new-outbox.result c.write-told.new.outbox c.flush.new.self _ _ _ c.written-written.result
    (went c.args.values _ _ _ _ _ _ _ (search rules) c.in-Ok.ensures.said c.flush.ensures.puts c.flush.ensures.empty (search rules)) (search rules)
    c.written-written.ensures

pub returns-in-Ok-clause-out : goal.returns-in-Ok-clause-out
returns-in-Ok-clause-out g c =
    text_out c.args.values c.args.self.now c.new-outbox.result c.write-told.new.outbox c.flush.new.self _ _ _
    (went c.args.values _ _ _ _ _ _ _ (search rules) c.in-Ok.ensures.said c.flush.ensures.puts c.flush.ensures.empty (search rules))

pub returns-in-Ok-clause-kept : goal.returns-in-Ok-clause-kept
returns-in-Ok-clause-kept g c =
    text_kept c.args.values c.args.self.now c.new-outbox.result c.write-told.new.outbox c.flush.new.self _ _ _ (subst IsGraph c.self.view_is c.self.invariant)
    (went c.args.values _ _ _ _ _ _ _ (search rules) c.in-Ok.ensures.said c.flush.ensures.puts c.flush.ensures.empty (search rules))

pub returns-in-Err-clause-written : goal.returns-in-Err-clause-written
returns-in-Err-clause-written g c =
    front_out c.args.values c.args.self.now c.new-outbox.result c.write-told.new.outbox c.flush.new.self _ _ _ (fault.OutOfMemory c.written-written.result)
    (partly c.args.values _ _ _ _ _ _ _ (search rules) c.in-Err.ensures.front c.flush.ensures.puts) (search rules) c.written-written.ensures

pub returns-in-Err-clause-failed : goal.returns-in-Err-clause-failed
returns-in-Err-clause-failed g c =
    memory_failed c.args.values c.args.self.now c.new-outbox.result c.write-told.new.outbox c.flush.new.self _ _ _ (subst IsGraph c.self.view_is c.self.invariant)
    (partly c.args.values _ _ _ _ _ _ _ (search rules) c.in-Err.ensures.front c.flush.ensures.puts) (search rules)
