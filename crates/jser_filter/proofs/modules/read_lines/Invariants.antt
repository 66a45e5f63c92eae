use Rattle.jser_filter.proofs.FilterLemmas.{left_length}
use Rattle.jser_filter.proofs.ModulesLemmas.{HasRead}
use Rattle.jser_filter.proofs.modules.read_lines.Given as goal

abbrev pub invariant-lines : goal.invariant-lines
invariant-lines l = HasRead l.units l.modules l.rest l.number

abbrev pub decreases-lines : goal.decreases-lines
decreases-lines l = left_length l.rest
