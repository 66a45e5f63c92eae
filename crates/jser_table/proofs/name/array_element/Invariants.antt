use Rattle.std.proofs.Common.{◌≡◌, length}
use Rattle.jser_table.specs.Names.{array_element}
use Rattle.jser_table.proofs.name.array_element.Given as goal

-- what is left is judged as the whole is
abbrev pub invariant-loop-rest : goal.invariant-loop-rest
invariant-loop-rest l = array_element l.rest ≡ array_element l.units

abbrev pub decreases-loop-rest : goal.decreases-loop-rest
decreases-loop-rest l = length l.rest
