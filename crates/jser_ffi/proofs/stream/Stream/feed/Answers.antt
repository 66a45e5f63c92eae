use Rattle.std.proofs.Common.{◌≡◌, sym, subst, ◌∙◌}
use Rattle.jser_ffi.specs.declared.answer.Answer.{Answer}
use Rattle.jser_ffi.specs.declared.stream.Stream.{Stream}
use Rattle.jser_ffi.specs.Streams.{IsOver}
use Rattle.jser_ffi.proofs.stream.Stream.feed.Goals as goal

pub returns-then-answer-ne-MORE-clause-over : goal.returns-then-answer-ne-MORE-clause-over
returns-then-answer-ne-MORE-clause-over c answer over =
    let n = c.next-answer.ensures.over answer over in
    let told : IsOver c.next-answer.result c.args.self.now = subst (λ (a : Answer). IsOver a c.args.self.now) (sym n.0) over in
    let stays : IsOver c.next-answer.result c.next-answer.new.self = subst (λ (s : Stream). IsOver c.next-answer.result s) (sym n.1) told in
    (n.0, c.stop.ensures.stays stays ∙ n.1)
