use Rattle.std.proofs.Common.{subst}
use Rattle.jser_check.specs.Passing.{Asked}
use Rattle.jser_check.specs.Pieces.{asked_by}
use Rattle.jser_ffi.specs.Told.{SaysOf, SaysWhole}
use Rattle.jser_ffi.proofs.ToldLemmas.{answer_says, answer_whole, none_whole, says_none}
use Rattle.jser_ffi.proofs.checks.checked.Goals as goal

pub returns-clause-says : goal.returns-clause-says
returns-clause-says g c =
    subst (λ (a : Asked). SaysOf a c.args.bytes.now c.told.result) c.in-Ok.ensures.asks
    (answer_says (asked_by c.in-Ok.check) c.args.bytes.now c.answer-answer.result c.told.result (c.answer-answer.ensures.tells c.in-Ok.ensures.begins) c.told.ensures.has)

pub returns-clause-whole : goal.returns-clause-whole
returns-clause-whole g c =
    subst (λ (a : Asked). SaysWhole a.filter a.options c.args.bytes.now c.told.result) c.in-Ok.ensures.asks
    (answer_whole _ _ c.args.bytes.now c.answer-answer.result c.told.result c.whole.result _ c.told.ensures.has c.told.ensures.whole c.whole.ensures.is (c.answer-answer.ensures.whole c.in-Ok.ensures.begins))

pub returns-in_default-clause-says : goal.returns-in_default-clause-says
returns-in_default-clause-says g c = says_none _ c.args.bytes.now c.bare.result c.bare.ensures.status

pub returns-in_default-clause-whole : goal.returns-in_default-clause-whole
returns-in_default-clause-whole g c = none_whole _ _ c.args.bytes.now c.bare.result c.bare.ensures.status
