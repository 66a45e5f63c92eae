use Rattle.std.proofs.Common.{◌≤◌, ◌-◌}
use Rattle.jser_records.specs.Fields.{StartsAt}
use Rattle.jser_records.proofs.parts.numbered_part.Given as goal

-- so many fields are left before it
abbrev pub invariant-fields : goal.invariant-fields
invariant-fields l = record {
  few : l.left ≤ l.number - 1;
  starts : StartsAt l.line l.from (l.number - 1 - l.left);
}

abbrev pub decreases-fields : goal.decreases-fields
decreases-fields l = l.left
