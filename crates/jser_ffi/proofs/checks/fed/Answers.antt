use Rattle.std.proofs.Common.{subst, refl, ◌++◌}
use Rattle.jser_check.specs.Fronts.{IsFront}
use Rattle.jser_check.specs.Passing.{Asked}
use Rattle.jser_check.specs.Pieces.{asked_by}
use Rattle.jser_check.proofs.WholeLemmas.{front_decided}
use Rattle.jser_ffi.proofs.ToldLemmas.{fed_fault, fault_whole, says_whole}
use Rattle.jser_ffi.proofs.checks.fed.Goals as goal

pub returns-in-Ok-clause-whole : goal.returns-in-Ok-clause-whole
returns-in-Ok-clause-whole g c = λ taken h.
    says_whole _ _ (taken ++ c.args.piece.now) _ c.whole.result c.whole.result (λ _. c.more.ensures.whole) refl
    (subst (λ (a : Asked). IsFront a.filter a.options (taken ++ c.args.piece.now) c.whole.result) c.feed.ensures.asks (c.whole.ensures.front (taken ++ c.args.piece.now) (c.in-Ok.ensures.tells taken h)))

pub returns-in-Err-clause-says : goal.returns-in-Err-clause-says
returns-in-Err-clause-says g c = λ taken h. fed_fault (asked_by c.args.check.now) _ taken c.args.piece.now c.in-Err.fault c.faulted.result c.faulted.ensures.has (c.in-Err.ensures.tells taken h)

pub returns-in-Err-clause-whole : goal.returns-in-Err-clause-whole
returns-in-Err-clause-whole g c = λ taken h.
    fault_whole _ _ (taken ++ c.args.piece.now) c.in-Err.fault _ c.whole-in-Err.result _ c.faulted.ensures.has c.faulted.ensures.whole c.whole-in-Err.ensures.is
    (front_decided _ _ (taken ++ c.args.piece.now) _ c.in-Err.fault (c.in-Err.ensures.whole taken h))
