-- The check finds this with no answer too; with one, it refuses a wrong body sooner.
use Rattle.std.proofs.Common.{rules}
use Rattle.jser_trees.proofs.Loops.{prims_begun, prims_done, prims_failed, prims_next, prims_skip}
use Rattle.jser_trees.proofs.texts.prims_of.Goals as goal

pub codes-init : goal.codes-init
codes-init c = search rules

pub codes-preserved : goal.codes-preserved
codes-preserved c = search (rules, prims_begun, prims_skip, prims_next, prims_failed, prims_done)

pub drop-prims-requires : goal.drop-prims-requires
drop-prims-requires c = search rules

pub is_primitive-requires : goal.is_primitive-requires
is_primitive-requires c = search rules

pub kept-requires : goal.kept-requires
kept-requires c = search rules

pub new-prims-requires : goal.new-prims-requires
new-prims-requires c = search rules

pub prim-requires : goal.prim-requires
prim-requires c = search rules

pub push-requires : goal.push-requires
push-requires c = search rules

pub returns-clause-found : goal.returns-clause-found
returns-clause-found c = search (rules, prims_begun, prims_skip, prims_next, prims_failed, prims_done)

pub returns-clause-shorter : goal.returns-clause-shorter
returns-clause-shorter c = search rules

pub returns-in_err-kept-clause-found : goal.returns-in_err-kept-clause-found
returns-in_err-kept-clause-found c = search rules

pub returns-in_err-kept-clause-shorter : goal.returns-in_err-kept-clause-shorter
returns-in_err-kept-clause-shorter c = search rules

pub returns-in_err-next-clause-found : goal.returns-in_err-next-clause-found
returns-in_err-next-clause-found c = search (rules, prims_begun, prims_skip, prims_next, prims_failed, prims_done)

pub returns-in_err-next-clause-shorter : goal.returns-in_err-next-clause-shorter
returns-in_err-next-clause-shorter c = search rules
