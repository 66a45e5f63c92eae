use Rattle.jser_filter.proofs.LimitLemmas.{HasRead}
use Rattle.jser_filter.proofs.limit.number_up_to.Given as goal

abbrev pub invariant-loop-unit : goal.invariant-loop-unit
invariant-loop-unit l = HasRead l.most l.digits l.unit-index l.value
