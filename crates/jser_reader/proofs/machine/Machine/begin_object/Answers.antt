use Rattle.std.proofs.Common.{rules, ◌≡◌, refl, false, None}
use Rattle.jser_table.specs.Chains.{chain_in, is_external}
use Rattle.jser_table.specs.Sections.{AreSections}
use Rattle.jser_reader.proofs.OwnerLemmas.{bare_object}
use Rattle.jser_reader.proofs.machine.Machine.begin_object.Goals as goal

pub returns-in_default-sections : goal.returns-in_default-sections
returns-in_default-sections c =
    let chain = chain_in c.args.self.now.table.chains c.args.chain in
    let none : AreSections c.args.self.now.table.chains chain None = search rules in
    let bare : is_external chain ≡ false = search rules in
    bare_object c.args.self.now.table.chains chain _ _ _ none refl bare c.value_done.ensures.ready c.value_done.ensures.meter c.value_done.ensures.kept

-- The check finds what follows with no answer too; with one, it refuses a wrong body sooner.

pub begin_section-requires-clause-on : goal.begin_section-requires-clause-on
begin_section-requires-clause-on c = search rules
