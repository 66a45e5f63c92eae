use Rattle.std.proofs.Common.{None, refl, sym, ap, subst, take}
use Rattle.jser_records.specs.declared.header.Header.{Header}
use Rattle.jser_records.specs.declared.reading.Reading.{Reading}
use Rattle.jser_records.specs.Keys.{IsKeyOf}
use Rattle.jser_records.specs.Readings.{parted, unknown}
use Rattle.jser_records.specs.Sized.{HeadWaits, at_line, at_line_end}
use Rattle.jser_records.proofs.HeldLemmas.{holds_kept, keeps_both, keeps_rules}
use Rattle.jser_records.proofs.SizedLemmas.{error_read, next_both, no_length_read, null_read, parted_read, reply_read}
use Rattle.jser_records.proofs.ToldLemmas.{quiet_changed}
use Rattle.jser_records.proofs.sized.take_record.Goals as goal

pub returns-in-Other-clause-records : goal.returns-in-Other-clause-records
returns-in-Other-clause-records g c =
    reply_read c.args.clerk.now c.args.inbox.now c.pass.new.self _ _ c.args.size (subst (λ (h : Header). HeadWaits c.args.inbox.now c.args.size h) c.in-Other.is c.requires.head) c.pass.ensures

pub returns-in-NoLength-clause-records : goal.returns-in-NoLength-clause-records
returns-in-NoLength-clause-records g c =
    no_length_read c.args.clerk.now c.tell_loss.new.clerk c.args.inbox.now _ _ _ _ c.args.size (subst (λ (h : Header). HeadWaits c.args.inbox.now c.args.size h) c.in-NoLength.is c.requires.head)
    (c.tell_loss.ensures unknown refl)

pub returns-in-LineEnd-clause-records : goal.returns-in-LineEnd-clause-records
returns-in-LineEnd-clause-records g c =
    parted_read c.args.clerk.now c.tell_loss-in-LineEnd.new.clerk c.args.inbox.now _ _ _ _ c.args.size (subst (λ (h : Header). HeadWaits c.args.inbox.now c.args.size h) c.in-LineEnd.is c.requires.head)
    (c.tell_loss-in-LineEnd.ensures parted refl)

pub returns-in-Error-clause-records : goal.returns-in-Error-clause-records
returns-in-Error-clause-records g c =
    let was = c.args.clerk.now in
    let begun = c.begin_record.new.current in
    let last = record begun { reading = c.decide.new.self } in
    error_read was (record was { current = last }) c.close.new.self c.args.inbox.now c.begin_record.new.inbox _ _ _ _ _ _ c.close.result c.args.size
    (subst (λ (h : Header). HeadWaits c.args.inbox.now c.args.size h) c.in-Error.is c.requires.head) c.begin_record.ensures.passed
    (quiet_changed was last _ _
    (keeps_both was.current begun last c.begin_record.ensures.keeps
    (keeps_rules begun last (record { rules = ap (λ r. r.judge.rules) c.decide.ensures; most = ap (λ r. r.most) c.decide.ensures }) refl)))
    (ap (λ r. r.answer) c.decide.ensures) (subst (λ (r : Reading). IsKeyOf r.key None) (sym c.decide.ensures) c.begin_record.ensures.key) c.close.ensures.closes

pub returns-in-Null-clause-records : goal.returns-in-Null-clause-records
returns-in-Null-clause-records g c =
    let was = c.args.clerk.now in
    let begun = c.begin_record-in-Null.new.current in
    let last = record begun { reading = c.decide_null.new.self } in
    null_read was (record was { current = last }) c.close-in-Null.new.self begun.reading c.args.inbox.now c.begin_record-in-Null.new.inbox _ _ _ _ _ _ c.close-in-Null.result c.in-Null.key c.args.size
    (subst (λ (h : Header). HeadWaits c.args.inbox.now c.args.size h) c.in-Null.is c.requires.head) c.begin_record-in-Null.ensures.passed
    (quiet_changed was last _ _
    (keeps_both was.current begun last c.begin_record-in-Null.ensures.keeps
    (keeps_rules begun last (record { rules = ap (λ r. r.judge.rules) c.decide_null.ensures.rest; most = ap (λ r. r.most) c.decide_null.ensures.rest }) refl)))
    c.begin_record-in-Null.ensures.begun c.decide_null.ensures.null c.decide_null.ensures.kept (ap (λ r. r.key) c.decide_null.ensures.rest) c.begin_record-in-Null.ensures.key
    (holds_kept begun last refl refl c.decide_null.ensures.kept (take c.args.size c.args.inbox.now.waiting) c.begin_record-in-Null.ensures.held) c.close-in-Null.ensures.closes

pub returns-in-Ok-clause-records : goal.returns-in-Ok-clause-records
returns-in-Ok-clause-records g c =
    next_both c.take_line_end.result at_line (at_line_end c.in-Ok.passed) c.args.clerk.now c.take_value.new.clerk c.take_line_end.new.clerk c.args.inbox.now c.take_value.new.inbox
    c.take_line_end.new.inbox _ _ _ _ _ _ c.in-Ok.ensures.records c.take_line_end.ensures.records
