use Rattle.std.proofs.Common.{sym, ◌∙◌}
use Rattle.jser_records.proofs.TextLemmas.{marked_all, unmarked}
use Rattle.jser_records.proofs.current.blank_line_feeds.Goals as goal

pub returns-then-is_none : goal.returns-then-is_none
returns-then-is_none c = unmarked c.args.text.now c.memchr.result c.memchr.ensures c.if-is_none.ensures

pub returns : goal.returns
returns c = sym (c.marks.invariant.done ∙ marked_all c.marks.text c.marks.at c.marks-test.false)
