-- The check finds this with no answer too; with one, it refuses a wrong body sooner.
use Rattle.jser_value.proofs.RightLemmas.{right_contents, wrong_contents}
use Rattle.std.proofs.Common.{rules}
use Rattle.jser_value.proofs.contents.cause_against.Goals as goal

pub returns-then-not-contents_within : goal.returns-then-not-contents_within
returns-then-not-contents_within c = search rules

pub returns-in-Ok : goal.returns-in-Ok
returns-in-Ok c = search (rules, right_contents)

pub returns-in-Err-NotRight : goal.returns-in-Err-NotRight
returns-in-Err-NotRight c = search (rules, wrong_contents)
