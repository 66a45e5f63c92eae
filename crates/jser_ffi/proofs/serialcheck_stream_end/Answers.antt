use Rattle.std.proofs.Common.{◌≡◌, Some, None, ◌∙◌}
use Rattle.jser_ffi.proofs.StreamLemmas.{over_too, same_stream}
use Rattle.jser_ffi.proofs.serialcheck_stream_end.Goals.{in-Some, in-None}
use Rattle.jser_ffi.proofs.serialcheck_stream_end.Goals as goal

pub returns-clause-over : goal.returns-clause-over
returns-clause-over c old is before over = elim c.match-take.branch [
  | in-Some w ↦
      let same = w.deref_mut.ensures.value ∙ same_stream w.in-Some.open.value old (w.in-Some.ensures.taken ∙ is) in
      w.answer-is ∙ w.finish.ensures.over before (over_too before w.deref_mut.result.now old same over)
  | in-None w ↦ absurd (let no : None ≡ Some old = w.in-None.ensures.taken ∙ is in cc)
]
