use Rattle.std.proofs.Common.{rules, [], subst, sym}
use Rattle.jser_reader.specs.ReaderStates.{StandsFor}
use Rattle.jser_reader.proofs.NextLemmas.{reader_begins}
use Rattle.jser_reader.specs.ItemsTold.{StandsIn}
use Rattle.jser_reader.proofs.ItemCalls.{fields_begin}
use Rattle.jser_reader.proofs.reader.Reader.restart.Goals as goal

pub returns-clause-stands : goal.returns-clause-stands
returns-clause-stands g c =
    subst (λ t. StandsFor (g.G.Gate.told c.args.self.now.gate) [] c.restart.new.self t) (sym c.new-self-inside.ensures)
    (reader_begins (g.G.Gate.told c.args.self.now.gate) _ _ c.restart.ensures.new c.restart.ensures.limits (search rules))

pub returns-clause-begins : goal.returns-clause-begins
returns-clause-begins g c =
    subst (λ t. StandsIn (g.G.Gate.told c.args.self.now.gate) [] [] c.restart.new.self t) (sym c.new-self-inside.ensures)
    (fields_begin (g.G.Gate.told c.args.self.now.gate) _ _ c.restart.ensures.new c.restart.ensures.limits (search rules))
