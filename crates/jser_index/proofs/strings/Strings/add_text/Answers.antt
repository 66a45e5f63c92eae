use Rattle.std.proofs.Common.{rules}
use Rattle.jser_index.proofs.KeptLemmas.{narrow_kept}
use Rattle.jser_index.proofs.strings.Strings.add_text.Goals as goal

pub returns-then-branch-clause-text : goal.returns-then-branch-clause-text
returns-then-branch-clause-text c =
    narrow_kept c.args.bytes.now c.in-Some.spot c.self.inside.near c.add_narrow.new.self _ (search rules) (search rules) (search rules)
