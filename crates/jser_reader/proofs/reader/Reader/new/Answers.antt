use Rattle.std.proofs.Common.{[], subst, sym}
use Rattle.jser_reader.specs.ReaderStates.{StandsFor}
use Rattle.jser_reader.proofs.NextLemmas.{reader_begins}
use Rattle.jser_reader.specs.ItemsTold.{StandsIn}
use Rattle.jser_reader.proofs.ItemCalls.{fields_begin}
use Rattle.jser_reader.proofs.reader.Reader.new.Goals as goal

pub returns-clause-stands : goal.returns-clause-stands
returns-clause-stands g c =
    subst (λ t. StandsFor (g.G.Gate.told c.args.gate) [] c.new-machine.result t) (sym c.new.ensures)
    (reader_begins _ _ _ c.new-machine.ensures.new c.new-machine.ensures.limits c.limits.ensures)

pub returns-clause-begins : goal.returns-clause-begins
returns-clause-begins g c =
    subst (λ t. StandsIn (g.G.Gate.told c.args.gate) [] [] c.new-machine.result t) (sym c.new.ensures)
    (fields_begin _ _ _ c.new-machine.ensures.new c.new-machine.ensures.limits c.limits.ensures)
