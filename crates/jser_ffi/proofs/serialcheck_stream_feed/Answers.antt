use Rattle.std.proofs.Common.{◌≡◌, Option, Some, None, ◌∙◌, ap}
use Rattle.jser_ffi.specs.declared.stream.Stream.{Stream}
use Rattle.jser_ffi.specs.Streams.{IsOver}
use Rattle.jser_ffi.proofs.StreamLemmas.{over_too, same_stream}
use Rattle.jser_ffi.proofs.serialcheck_stream_feed.Goals.{in-Some, in-None}
use Rattle.jser_ffi.proofs.serialcheck_stream_feed.Goals as goal

pub returns-clause-over : goal.returns-clause-over
returns-clause-over c old is before over = elim c.match-take.branch [
  | in-Some w ↦
      let same = w.deref_mut.ensures.value ∙ same_stream w.in-Some.open.value old (w.in-Some.ensures.taken ∙ is) in
      let said = w.feed-answer.ensures.over before (over_too before w.deref_mut.result.now old same over) in
      (w.answer-is ∙ said.0, ap (λ s. s.owner.held) w.stream-is ∙ w.put.ensures ∙ ap (λ (s : Stream). Some s) (said.1 ∙ same))
  | in-None w ↦ absurd (let no : None ≡ Some old = w.in-None.ensures.taken ∙ is in cc)
]
