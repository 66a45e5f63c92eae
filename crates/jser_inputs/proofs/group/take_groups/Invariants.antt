use Rattle.std.proofs.Common.{◌≡◌, ◌≤◌, ◌+◌, ◌-◌, length}
use Rattle.jser_inputs.specs.declared.place.Place.TheVariants as place
use Rattle.jser_inputs.specs.Groups.{TurnsOn}
use Rattle.jser_inputs.proofs.RunLemmas.{ran}
use Rattle.jser_inputs.proofs.group.take_groups.Given as goal

-- what was taken so far, and no more bytes were given than characters were taken
abbrev pub invariant-groups : goal.invariant-groups
invariant-groups l = record {
  turns : TurnsOn l.fn.from.spot (ran l.fn.from.spot (place.First l.fn.alphabet) (l.given - l.fn.from.given)) l.fn.buf l.buf l.fn.count l.fn.from.taken l.fn.from.given l.taken l.given;
  few : l.given ≤ l.taken;
  within : l.taken ≤ l.fn.count;
  ahead : l.fn.from.taken ≤ l.taken;
  more : l.fn.from.given ≤ l.given;
  slow : l.given + l.fn.from.taken ≤ l.fn.from.given + l.taken;
  size : length l.buf ≡ length l.fn.buf;
}

abbrev pub decreases-groups : goal.decreases-groups
decreases-groups l = l.fn.count - l.taken
