-- Where no arm takes the byte, no unit's spelling ends with it.
use Rattle.std.proofs.Common.{arith}
use Rattle.jser_prim.proofs.PlaceLemmas.{is_last}
use Rattle.jser_prim.proofs.place.take_last.Goals as goal

pub returns-in_default : goal.returns-in_default
returns-in_default c = λ room begins. let last = is_last room _ _ c.requires.high begins in grind arith

pub returns-in_default-2 : goal.returns-in_default-2
returns-in_default-2 c = λ room begins. let last = is_last room _ _ c.requires.high begins in grind arith

pub returns-in_default-3 : goal.returns-in_default-3
returns-in_default-3 c = λ room begins. let last = is_last room _ _ c.requires.high begins in grind arith
