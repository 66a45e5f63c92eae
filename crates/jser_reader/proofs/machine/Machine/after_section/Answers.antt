use Rattle.std.proofs.Common.{rules}
use Rattle.jser_reader.proofs.ManySections.{notes_after}
use Rattle.jser_reader.proofs.machine.Machine.after_section.Goals as goal

pub returns-then-held-clause-begins : goal.returns-then-held-clause-begins
returns-then-held-clause-begins c = notes_after _ c.args.last c.args.section c.args.room c.section-held.result c.requires (search rules) (search rules)
