use Rattle.jser_anywhere.specs.Steps.{IsQuiet}
use Rattle.jser_anywhere.proofs.quiet.quiet_until_each.Given as goal

abbrev pub invariant-bytes : goal.invariant-bytes
invariant-bytes l = IsQuiet l.piece l.from l.at
