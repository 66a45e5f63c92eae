use Rattle.std.proofs.Common.{rules}
use Rattle.jser_scan.proofs.LastLemmas.{kept_more, kept_none}
use Rattle.jser_scan.proofs.last.LastBytes.keep.Goals as goal

pub returns-then-is_err : goal.returns-then-is_err
returns-then-is_err c = λ before last.
    kept_none c.args.self.now c.let_go.new.self _ _ c.args.bytes.now before c.self.inside.end c.saturating_add-self-inside.result c.let_go.ensures (search rules)
    c.clear.ensures.items c.clear-then-is_err.ensures.items (search rules) last

pub returns-else-is_err : goal.returns-else-is_err
returns-else-is_err c = λ before last.
    kept_more c.args.self.now c.let_go.new.self c.self.inside.older.items c.self.inside.newer.items c.extend_from_slice.new.self.items c.args.bytes.now before c.self.inside.end
    c.saturating_add-self-inside.result c.let_go.ensures (search rules) (search rules) (search rules) last
