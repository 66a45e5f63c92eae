use Rattle.std.proofs.Common.{◌≡◌, Ok, ap, subst, ◌∙◌, arith}
use Rattle.jser_records.specs.Frames.{TakesSome}
use Rattle.jser_records.proofs.FrameLemmas.{some_later}
use Rattle.jser_records.proofs.RoomLemmas.{ended_over, took_more}
use Rattle.jser_records.proofs.frames.next_piece.Goals as goal

pub returns-in-Ok-true-clause-takes : goal.returns-in-Ok-true-clause-takes
returns-in-Ok-true-clause-takes g c = λ total before counts.
    let none : c.take_waiting-size.result ≡ 0 = let f = c.if-size-gt0.false in omega (arith, f) in
    some_later total 0 before c.args.inbox.now c.take_waiting-size.new.inbox c.read_more.new.inbox c.args.clerk.now.current c.take_waiting-size.new.current c.read_more.new.clerk.current
    (subst (λ n. TakesSome total before c.args.inbox.now c.take_waiting-size.new.inbox c.args.clerk.now.current c.take_waiting-size.new.current n) none (c.take_waiting-size.ensures.takes total before counts))
    (took_more c.take_waiting-size.new.inbox c.read_more.new.inbox c.in-Ok-true.ensures.comes) c.read_more.ensures.current

pub returns-in-Ok-false-clause-takes : goal.returns-in-Ok-false-clause-takes
returns-in-Ok-false-clause-takes g c = λ total before counts.
    let none : c.take_waiting-size.result ≡ 0 = let f = c.if-size-gt0.false in omega (arith, f) in (
      some_later total 0 before c.args.inbox.now c.take_waiting-size.new.inbox c.read_more.new.inbox c.args.clerk.now.current c.take_waiting-size.new.current c.read_more.new.clerk.current
          (subst (λ n. TakesSome total before c.args.inbox.now c.take_waiting-size.new.inbox c.args.clerk.now.current c.take_waiting-size.new.current n) none (c.take_waiting-size.ensures.takes total before counts))
          (took_more c.take_waiting-size.new.inbox c.read_more.new.inbox c.in-Ok-false.ensures.comes) c.read_more.ensures.current,
      ended_over c.take_waiting-size.new.inbox c.read_more.new.inbox (c.read_more.ensures.ends (c.in-Ok-false.is ∙ ap (λ b. Ok b) c.in-Ok-false.field-0-test)) (c.take_waiting-size.ensures.none none c.requires),
    )
