use Rattle.std.proofs.Common.{get_or}
use Rattle.std.proofs.lemmas.List.{get_or_default}
use Rattle.jser_filter.proofs.LimitLemmas.{no_number_above}
use Rattle.jser_filter.proofs.limit.number_up_to.Goals as goal

pub returns-in_default-appended : goal.returns-in_default-appended
returns-in_default-appended c =
    let digits = c.args.digits.now in
    let index = c.loop-unit.unit-index in
    no_number_above digits index (get_or digits index 0) c.loop-unit.value c.in-Some.digit c.args.most
    c.loop-unit.invariant c.loop-unit-test.true (get_or_default digits index 0 _ c.loop-unit-test.true) c.in-Some.ensures.value c.in_default-appended.ensures.above
