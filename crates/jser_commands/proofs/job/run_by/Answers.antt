-- The check finds this with no answer too; with one, it refuses a wrong body sooner.
use Rattle.std.proofs.Common.{rules}
use Rattle.jser_commands.proofs.AnywhereLines.{anywhere_refused}
use Rattle.jser_commands.proofs.job.run_by.Goals as goal

pub returns-in-Show-clause-accepted : goal.returns-in-Show-clause-accepted
returns-in-Show-clause-accepted g c = search rules

pub returns-in-Show-clause-refused : goal.returns-in-Show-clause-refused
returns-in-Show-clause-refused g c = search rules

pub returns-in-Show-clause-failed : goal.returns-in-Show-clause-failed
returns-in-Show-clause-failed g c = search rules

pub returns-in-Check-clause-accepted : goal.returns-in-Check-clause-accepted
returns-in-Check-clause-accepted g c = search rules

pub returns-in-Check-clause-refused : goal.returns-in-Check-clause-refused
returns-in-Check-clause-refused g c = search rules

pub returns-in-CheckAnywhere-clause-refused : goal.returns-in-CheckAnywhere-clause-refused
returns-in-CheckAnywhere-clause-refused g c = λ one. anywhere_refused _ _ _ _ _ c.in-CheckAnywhere.is (c.check_names.ensures.refused one)
