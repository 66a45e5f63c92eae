use Rattle.std.proofs.Common.{length}
use Rattle.jser_table.proofs.name.+is_text.Given as goal

abbrev pub decreases-is_text : goal.decreases-is_text
decreases-is_text l = length l.text.now
