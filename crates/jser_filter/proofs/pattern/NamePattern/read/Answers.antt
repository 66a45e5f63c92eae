-- The check finds this with no answer too; with one, it refuses a wrong body sooner.
use Rattle.jser_filter.proofs.PackageLemmas.{package_read}
use Rattle.std.proofs.Common.{rules}
use Rattle.jser_filter.proofs.pattern.NamePattern.read.Goals as goal

pub returns-in_ok-without_last : goal.returns-in_ok-without_last
returns-in_ok-without_last c = search rules

pub returns-in_ok-without_last-2 : goal.returns-in_ok-without_last-2
returns-in_ok-without_last-2 c = search (rules, package_read)
