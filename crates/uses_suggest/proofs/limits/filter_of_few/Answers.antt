use Rattle.uses_suggest.proofs.LimitLemmas.{refuses_one}
use Rattle.uses_suggest.proofs.limits.filter_of_few.Goals as goal

pub returns : goal.returns
returns c = λ streams others are known tighter. refuses_one others c.args.few.now c.args.many.now c.parsed.result c.is_least.ensures known tighter (c.parsed.ensures streams are)
