-- Where no arm takes the byte, no unit's spelling goes on with it.
use Rattle.std.proofs.Common.{arith}
use Rattle.jser_prim.proofs.PlaceLemmas.{is_middle}
use Rattle.jser_prim.proofs.place.take_middle.Goals as goal

pub returns-in-128-to-159 : goal.returns-in-128-to-159
returns-in-128-to-159 c = λ begins. let middle = is_middle _ _ _ c.requires.high begins in grind arith

pub returns-in_default : goal.returns-in_default
returns-in_default c = λ begins. let middle = is_middle _ _ _ c.requires.high begins in grind arith

pub returns-in_default-2 : goal.returns-in_default-2
returns-in_default-2 c = λ begins. let middle = is_middle _ _ _ c.requires.high begins in grind arith
