use Rattle.std.proofs.Common.{◌∷◌}
use Rattle.jser_shown.specs.Cues.{fields_cue}
use Rattle.jser_printer.proofs.printer.descriptors.write_class_field.Goals as goal

pub returns-in_err-over-in_default-clause-said : goal.returns-in_err-over-in_default-clause-said
returns-in_err-over-in_default-clause-said g c = λ name done. c.write_type.ensures.said (fields_cue c.args.head.level c.args.head.number name c.args.flags done c.args.left ∷ c.args.standing.now.cues)

pub returns-in_ok-over-in_default-clause-said : goal.returns-in_ok-over-in_default-clause-said
returns-in_ok-over-in_default-clause-said g c = λ name done. c.write_type.ensures.said (fields_cue c.args.head.level c.args.head.number name c.args.flags done c.args.left ∷ c.args.standing.now.cues)
