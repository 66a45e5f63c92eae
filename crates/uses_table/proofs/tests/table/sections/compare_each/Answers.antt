use Rattle.uses_table.proofs.tests.table.sections.compare_each.Goals as goal

pub compare_section-requires : goal.compare_section-requires
compare_section-requires g c = (c.sections.invariant _ c.in-Some.is).section_in

pub next_section-next-requires : goal.next_section-next-requires
next_section-next-requires g c = c.sections.invariant _ c.in-Some.is
