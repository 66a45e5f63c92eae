use Rattle.std.specs.Option.{ForSome}
use Rattle.jser_table.specs.Sections.{IsOn}
use Rattle.bench.proofs.tables.raw_bytes.Given as goal

-- the next section is one of the object's
abbrev pub invariant-sections : goal.invariant-sections
invariant-sections l = ForSome l.next (IsOn l.table.chains l.last)
