use Rattle.std.specs.Option.{ForSome}
use Rattle.jser_table.specs.Sections.{IsOn}
use Rattle.uses_table.proofs.tests.table.sections.compare_each.Given as goal

-- the next section is one of the object's
abbrev pub invariant-sections : goal.invariant-sections
invariant-sections g l = ForSome l.next (IsOn l.table.chains l.last)
