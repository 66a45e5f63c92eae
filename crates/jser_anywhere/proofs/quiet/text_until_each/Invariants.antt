use Rattle.jser_anywhere.specs.Steps.{IsText}
use Rattle.jser_anywhere.proofs.quiet.text_until_each.Given as goal

abbrev pub invariant-bytes : goal.invariant-bytes
invariant-bytes l = IsText l.piece l.from l.here
