use Rattle.std.specs.Prelude.{[]}
use Rattle.jser_names.specs.Standing.{Stands}
use Rattle.jser_names.proofs.FoundLemmas.{finds, finds_not}
use Rattle.jser_names.proofs.found.names_in.Goals as goal

pub returns-in-Ok : goal.returns-in-Ok
returns-in-Ok c =
    finds (λ taken. Stands taken c.take.new.self.reader.machine c.take.new.self.reader.tally c.take.new.self.names) c.args.bytes.now c.end.result
    (c.in-Ok.ensures [] c.new-naming.ensures) c.end.ensures

pub returns-in-Err : goal.returns-in-Err
returns-in-Err c =
    finds_not (λ taken. Stands taken c.take.new.self.reader.machine c.take.new.self.reader.tally c.take.new.self.names) c.args.bytes.now c.in-Err.stop
    (c.in-Err.ensures [] c.new-naming.ensures)
