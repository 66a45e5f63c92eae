use Rattle.std.proofs.Common.{◌+◌, ◌*◌}
use Rattle.uses_trees.proofs.tests.maker.+make.Given as goal

abbrev pub decreases-value : goal.decreases-value
decreases-value l = 10 * l.levels

abbrev pub decreases-content : goal.decreases-content
decreases-content l = 10 * l.levels + 1

abbrev pub decreases-notes : goal.decreases-notes
decreases-notes l = 10 * l.levels + 2

abbrev pub decreases-elements : goal.decreases-elements
decreases-elements l = 10 * l.levels + 1

abbrev pub decreases-section : goal.decreases-section
decreases-section l = 10 * l.levels + 3

abbrev pub decreases-superclass : goal.decreases-superclass
decreases-superclass l = 10 * l.levels

abbrev pub decreases-proxy : goal.decreases-proxy
decreases-proxy l = 10 * l.levels + 3

abbrev pub decreases-desc : goal.decreases-desc
decreases-desc l = 10 * l.levels + 4

abbrev pub decreases-class : goal.decreases-class
decreases-class l = 10 * l.levels + 5

abbrev pub decreases-class_object : goal.decreases-class_object
decreases-class_object l = 10 * l.levels + 6

abbrev pub decreases-array : goal.decreases-array
decreases-array l = 10 * l.levels + 6

abbrev pub decreases-enum_constant : goal.decreases-enum_constant
decreases-enum_constant l = 10 * l.levels + 6

abbrev pub decreases-external : goal.decreases-external
decreases-external l = 10 * l.levels + 6

abbrev pub decreases-object : goal.decreases-object
decreases-object l = 10 * l.levels + 6
