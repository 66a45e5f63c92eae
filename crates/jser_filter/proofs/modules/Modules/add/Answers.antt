use Rattle.std.proofs.Common.{rules}
use Rattle.jser_filter.proofs.ModulesLemmas.{entry_pushed}
use Rattle.jser_filter.proofs.modules.Modules.add.Goals as goal

pub returns-in-Ok : goal.returns-in-Ok
returns-in-Ok c =
    entry_pushed c.args.«package».now c.args.«module».now c.in_ok-package.«package» c.in_ok-module.«module» c.self.inside.entries.entries c.insert.new.self.entries c.args.self.now
    c.self.view_is c.requires (search rules) (search rules) c.in-Ok.ensures.entries
