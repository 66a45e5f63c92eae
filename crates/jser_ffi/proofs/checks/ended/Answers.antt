use Rattle.jser_check.specs.Pieces.{asked_by}
use Rattle.jser_ffi.proofs.ToldLemmas.{ended_says, says_whole}
use Rattle.jser_ffi.proofs.checks.ended.Goals as goal

pub returns-clause-says : goal.returns-clause-says
returns-clause-says g c = λ taken h. ended_says (asked_by c.args.check.now) taken c.finish-end.result c.told.result (c.finish-end.ensures.tells taken h) c.told.ensures.has

pub returns-clause-whole : goal.returns-clause-whole
returns-clause-whole g c = λ taken h. says_whole _ _ taken c.told.result c.whole.result _ c.told.ensures.whole c.whole.ensures.is (c.finish-end.ensures.whole taken h)
