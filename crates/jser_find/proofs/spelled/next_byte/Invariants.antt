use Rattle.std.proofs.Common.{◌-◌, length}
use Rattle.jser_find.proofs.SpelledLemmas.{HasRead}
use Rattle.jser_find.proofs.spelled.next_byte.Given as goal

abbrev pub invariant-characters : goal.invariant-characters
invariant-characters l = HasRead l.text l.fn.from l.at l.spot

abbrev pub decreases-characters : goal.decreases-characters
decreases-characters l = length l.text - l.at
