use Rattle.std.proofs.Common.{◌≤◌, ◌-◌, take}
use Rattle.jser_names.specs.Counts.{names_counted}
use Rattle.jser_suggest.specs.Gathering.{GainsAll, name_list}
use Rattle.jser_suggest.proofs.names.gather.Given as goal

abbrev pub invariant-names : goal.invariant-names
invariant-names l = record {
  gained : GainsAll (take l.number (names_counted l.checked)) (name_list l.fn.names) (name_list l.names);
  inside : l.number ≤ l.count;
}

abbrev pub decreases-names : goal.decreases-names
decreases-names l = l.count - l.number
