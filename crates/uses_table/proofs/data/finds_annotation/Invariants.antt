use Rattle.std.proofs.Common.{◌≡◌}
use Rattle.jser_table.specs.Chains.{chain_in}
use Rattle.jser_table.specs.Sections.{filled_layers}
use Rattle.uses_table.proofs.Walks.{IsLeft, count_left}
use Rattle.uses_table.proofs.data.finds_annotation.Given as goal

abbrev pub invariant-sections : goal.invariant-sections
invariant-sections l = record {
  same : l.table ≡ l.fn.table;
  left : IsLeft l.table.chains l.last (filled_layers (chain_in l.table.chains l.fn.chain)) l.at;
}

abbrev pub decreases-sections : goal.decreases-sections
decreases-sections l = count_left l.table.chains l.last l.at
