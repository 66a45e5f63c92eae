use Rattle.std.proofs.Common.{rules}
use Rattle.jser_check.specs.Fronts.{IsFront}
use Rattle.uses_check.proofs.FrontLemmas.{decided_yes, decided_no, front_admitted, front_longest}
use Rattle.uses_check.proofs.fronts.stream_at_front.Goals as goal

pub returns-in-Ok-clause-admitted : goal.returns-in-Ok-clause-admitted
returns-in-Ok-clause-admitted c =
    front_admitted c.args.filter.now c.args.options c.args.bytes.now c.judge_bytes-judged.result.whole c.found.result
    (decided_yes _ c.judge_bytes-judged.result.answer _ c.in-Ok.is c.judge_bytes-judged.ensures.whole) c.found.ensures

pub returns-in-Ok-clause-longest : goal.returns-in-Ok-clause-longest
returns-in-Ok-clause-longest c =
    front_longest c.args.filter.now c.args.options c.args.bytes.now c.judge_bytes-judged.result.whole c.found.result
    (decided_yes _ c.judge_bytes-judged.result.answer _ c.in-Ok.is c.judge_bytes-judged.ensures.whole) c.found.ensures

pub returns-in-Err-Refused-clause-admitted : goal.returns-in-Err-Refused-clause-admitted
returns-in-Err-Refused-clause-admitted c =
    front_admitted c.args.filter.now c.args.options c.args.bytes.now c.judge_bytes-judged.result.whole c.found-in-Err-Refused.result
    (decided_no _ c.judge_bytes-judged.result.answer c.in-Err-Refused.field-0 c.in-Err-Refused.field-0-0 c.in-Err-Refused.is (search rules) c.judge_bytes-judged.ensures.whole) c.found-in-Err-Refused.ensures

pub returns-in-Err-Refused-clause-longest : goal.returns-in-Err-Refused-clause-longest
returns-in-Err-Refused-clause-longest c =
    front_longest c.args.filter.now c.args.options c.args.bytes.now c.judge_bytes-judged.result.whole c.found-in-Err-Refused.result
    (decided_no _ c.judge_bytes-judged.result.answer c.in-Err-Refused.field-0 c.in-Err-Refused.field-0-0 c.in-Err-Refused.is (search rules) c.judge_bytes-judged.ensures.whole) c.found-in-Err-Refused.ensures
