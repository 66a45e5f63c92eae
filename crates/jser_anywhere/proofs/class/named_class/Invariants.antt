use Rattle.std.proofs.Common.{◌≡◌, length}
use Rattle.jser_anywhere.specs.Names.{core}
use Rattle.jser_anywhere.proofs.class.named_class.Given as goal

abbrev pub invariant-peels : goal.invariant-peels
invariant-peels l = core l.fn.units ≡ core l.rest

abbrev pub decreases-peels : goal.decreases-peels
decreases-peels l = length l.rest
