use Rattle.std.proofs.Common.{◌≡◌, map, drop}
use Rattle.jser_value.specs.PartTests.{obeys_class_names}
use Rattle.jser_value.proofs.parts.are_class_names.Given as goal

abbrev pub invariant-loop-name : goal.invariant-loop-name
invariant-loop-name l =
    obeys_class_names (map (λ name. name.items) (drop l.name-index l.names)) ≡ obeys_class_names (map (λ name. name.items) l.names)
