-- Where no arm takes the byte, no unit's spelling begins with it and ends in time.
use Rattle.std.proofs.Common.{arith}
use Rattle.jser_prim.proofs.PlaceLemmas.{is_first}
use Rattle.jser_prim.proofs.place.take_first.Goals as goal

pub returns-in_default : goal.returns-in_default
returns-in_default c = λ begins. let first = is_first _ _ begins in grind arith

pub returns-in_default-2 : goal.returns-in_default-2
returns-in_default-2 c = λ begins. let first = is_first _ _ begins in grind arith

pub returns-in_default-3 : goal.returns-in_default-3
returns-in_default-3 c = λ begins. let first = is_first _ _ begins in grind arith

pub returns-in_default-4 : goal.returns-in_default-4
returns-in_default-4 c = λ begins. let first = is_first _ _ begins in grind arith

pub returns-in_default-5 : goal.returns-in_default-5
returns-in_default-5 c = λ begins. let first = is_first _ _ begins in grind arith

pub returns-in_default-6 : goal.returns-in_default-6
returns-in_default-6 c = λ begins. let first = is_first _ _ begins in grind arith
