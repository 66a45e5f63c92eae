use Rattle.bench.proofs.tables.raw_bytes.Goals as goal

pub section-requires : goal.section-requires
section-requires c = (c.sections.invariant _ c.in-Some.is).section_in

pub next_section-next-requires : goal.next_section-next-requires
next_section-next-requires c = c.sections.invariant _ c.in-Some.is
