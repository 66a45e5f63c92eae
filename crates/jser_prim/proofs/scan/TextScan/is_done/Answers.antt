-- The check finds this with no answer too; with one, it refuses a wrong body sooner.
use Rattle.std.proofs.Common.{rules}
use Rattle.jser_prim.proofs.scan.TextScan.is_done.Goals as goal

pub returns-clause-done : goal.returns-clause-done
returns-clause-done c = search rules

pub returns-clause-text : goal.returns-clause-text
returns-clause-text c = search rules

pub returns-clause-failed : goal.returns-clause-failed
returns-clause-failed c = search rules

pub returns-clause-left : goal.returns-clause-left
returns-clause-left c = search rules
