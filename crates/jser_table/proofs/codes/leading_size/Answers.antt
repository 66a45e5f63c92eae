use Rattle.std.proofs.Common.{◌∙◌, sym}
use Rattle.jser_table.proofs.CodeLemmas.{leading_found}
use Rattle.jser_table.proofs.codes.leading_size.Goals as goal

pub returns : goal.returns
returns c = leading_found _ _ _ _ c.requires.leading c.requires.pos_in (sym c.size_of_code.ensures ∙ c.in-Some.is)
