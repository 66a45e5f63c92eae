use Rattle.std.proofs.Common.{rules, refl}
use Rattle.jser_names.proofs.FoundLemmas.{ends_found, ends_stopped}
use Rattle.jser_names.proofs.found.NamingTaker.end.Goals as goal

pub returns-in-Ok : goal.returns-in-Ok
returns-in-Ok c =
    ends_found c.names_are_collected.ensures c.lengths_are_measured.ensures c.one_reading.ensures c.args.self.reader.machine c.args.self.reader.tally c.finish.new.self.machine
    c.in-Ok.totals c.args.self.names c.close.new.self _ (search rules) c.in-Ok.ensures.tells c.in-Ok.ensures.tokens c.into_names.ensures refl c.longest.ensures

pub returns : goal.returns
returns c = ends_stopped c.args.self.reader.machine c.args.self.reader.tally c.finish.new.self.machine c.in-Err.why c.args.self.names c.in-Err.ensures.tells
