use Rattle.std.proofs.Common.{◌<◌, length}
use Rattle.jser_table.specs.Chains.{IsFront}
use Rattle.jser_table.specs.Sections.{HasSection, down_to}
use Rattle.jser_table.specs.Descriptors.{chains_of}
use Rattle.jser_table.proofs.walks.section_below.Given as goal

abbrev pub invariant-walk : goal.invariant-walk
invariant-walk l = record {
  inside : HasSection (chains_of l.descriptors) l.place;
  front : IsFront (down_to (chains_of l.descriptors) l.place) (down_to (chains_of l.descriptors) l.last);
  over : l.before < length (down_to (chains_of l.descriptors) l.place);
}

abbrev pub decreases-walk : goal.decreases-walk
decreases-walk l = l.place
