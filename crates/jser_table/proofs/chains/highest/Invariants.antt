use Rattle.std.proofs.Common.{◌<◌, length}
use Rattle.jser_table.specs.Chains.{chain_in, IsFront}
use Rattle.jser_table.specs.Descriptors.{chains_of, count_of}
use Rattle.jser_table.specs.Lines.{line_in, LeadsTo}
use Rattle.jser_table.specs.Lined.{AreLined, lines_of}
use Rattle.jser_table.proofs.chains.highest.Given as goal

abbrev pub invariant-walk : goal.invariant-walk
invariant-walk l = record {
  inside : l.place < length l.descriptors;
  front : IsFront (chain_in (chains_of l.descriptors) l.place) (chain_in (chains_of l.descriptors) l.start);
  over : l.bound < count_of l.counted (chain_in (chains_of l.descriptors) l.place);
  line : AreLined l.descriptors → LeadsTo (line_in (lines_of l.descriptors) l.place) (line_in (lines_of l.descriptors) l.start);
}

abbrev pub decreases-walk : goal.decreases-walk
decreases-walk l = l.place
