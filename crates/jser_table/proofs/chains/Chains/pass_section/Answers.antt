use Rattle.jser_table.proofs.chains.Chains.pass_section.Goals as goal

pub section_after_kept-requires-clause-ahead : goal.section_after_kept-requires-clause-ahead
section_after_kept-requires-clause-ahead c = rw c.deref.ensures.value c.self.invariant.ahead_is

pub invariant_of-self : goal.invariant_of-self
invariant_of-self c = record {
  shelved = c.self.invariant.shelved;
  ahead_is = rw (← c.deref.ensures.value) c.section_after_kept.ensures.ahead;
}
