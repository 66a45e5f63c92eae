-- The check finds this with no answer too; with one, it refuses a wrong body sooner.
use Rattle.jser_prim.proofs.NumberLemmas.{bytes_of_two}
use Rattle.std.proofs.Common.{rules}
use Rattle.jser_prim.proofs.number.read_u16.Goals as goal

pub returns : goal.returns
returns c = search (rules, bytes_of_two)
