-- The check finds this with no answer too; with one, it refuses a wrong body sooner.
use Rattle.jser_prim.proofs.NumberLemmas.{bytes_of_eight}
use Rattle.std.proofs.Common.{rules}
use Rattle.jser_prim.proofs.number.read_u64.Goals as goal

pub returns : goal.returns
returns c = search (rules, bytes_of_eight)
