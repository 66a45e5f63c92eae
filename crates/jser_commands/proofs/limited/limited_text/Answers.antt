use Rattle.std.proofs.Common.{rules}
use Rattle.jser_commands.proofs.LimitLemmas.{all_fits, is_cut}
use Rattle.jser_commands.proofs.limited.limited_text.Goals as goal

pub returns-then-len-limit : goal.returns-then-len-limit
returns-then-len-limit c = is_cut c.args.limit c.args.values c.args.graph.now c.in_ok-bytes.field-0 c.in_ok-cut.field-0 c.in_ok-bytes.ensures (search rules)

pub returns-then-whole : goal.returns-then-whole
returns-then-whole c = all_fits c.args.limit c.args.values c.args.graph.now c.in_ok-bytes.field-0 c.in_ok-bytes.ensures (search rules) (search rules)
