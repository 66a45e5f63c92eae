use Rattle.std.proofs.Common.{rules}
use Rattle.jser_commands.proofs.Lines.{kept}
use Rattle.jser_commands.proofs.LimitLemmas.{went_within, went_cut, within_failed, cut_failed, nothing_went}
use Rattle.jser_commands.proofs.limited.print_limited.Goals as goal

pub returns-in-Ok-Whole-clause-printed : goal.returns-in-Ok-Whole-clause-printed
returns-in-Ok-Whole-clause-printed g c zero =
    went_within c.args.limit c.args.values c.args.graph.now c.in-Ok-Whole.text c.deref.result.now _ _ (search rules) (search rules) (c.print_bytes.ensures.printed zero)

pub returns-in-Ok-Whole-clause-failed : goal.returns-in-Ok-Whole-clause-failed
returns-in-Ok-Whole-clause-failed g c three =
    within_failed c.args.limit c.args.values c.args.graph.now c.in-Ok-Whole.text c.deref.result.now _ _ _ (search rules) (search rules) (c.print_bytes.ensures.failed three)

pub returns-in-Ok-Cut-clause-cut : goal.returns-in-Ok-Cut-clause-cut
returns-in-Ok-Cut-clause-cut g c four =
    went_cut c.args.limit c.args.values c.args.graph.now c.in-Ok-Cut.text c.deref-in-Ok-Cut.result.now _ _ (search rules) (search rules) (c.print_bytes-in-Ok-Cut.ensures.printed four)

pub returns-in-Ok-Cut-clause-failed : goal.returns-in-Ok-Cut-clause-failed
returns-in-Ok-Cut-clause-failed g c three =
    cut_failed c.args.limit c.args.values c.args.graph.now c.in-Ok-Cut.text c.deref-in-Ok-Cut.result.now _ _ _ (search rules) (search rules)
    (c.print_bytes-in-Ok-Cut.ensures.failed three)

pub returns-in-Err-clause-failed : goal.returns-in-Err-clause-failed
returns-in-Err-clause-failed g c three = nothing_went c.args.limit c.args.values c.args.graph.now _ _ _ (kept _)
