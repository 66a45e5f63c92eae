use Rattle.std.proofs.Common.{rules}
use Rattle.jser_printer.proofs.LineLemmas.{says_levels}
use Rattle.jser_printer.proofs.words.line.write_levels.Goals as goal

pub returns : goal.returns
returns g c = says_levels _ _ _ _ _ c.args.levels c.write.ensures c.requires (search rules)
