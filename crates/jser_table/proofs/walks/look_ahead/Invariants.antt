use Rattle.std.proofs.Common.{◌≡◌, ◌+◌, ◌≤◌, length}
use Rattle.jser_table.specs.Descriptors.{chains_of}
use Rattle.jser_table.specs.Upwards.{IsAfter}
use Rattle.jser_table.specs.Aheads.{AreAhead}
use Rattle.jser_table.proofs.walks.look_ahead.Given as goal

abbrev pub invariant-up : goal.invariant-up
invariant-up l = record {
  reached : l.before ≤ l.above;
  after : IsAfter (chains_of l.descriptors) l.last l.above l.section;
  ahead : AreAhead (chains_of l.descriptors) l.ahead;
  last : l.ahead.last ≡ l.last;
  lowest : l.ahead.lowest ≡ l.lowest;
  count : length l.ahead.sections.items + l.above ≡ l.lowest + 1;
  few : l.lowest ≤ l.before + 15;
}

abbrev pub decreases-up : goal.decreases-up
decreases-up l = l.above
