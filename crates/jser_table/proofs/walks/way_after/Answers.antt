use Rattle.std.proofs.Common.{arith}
use Rattle.jser_table.proofs.FiledLemmas.{after_last, next_on_path, none_after}
use Rattle.jser_table.proofs.walks.way_after.Goals as goal

pub returns-then-section-last : goal.returns-then-section-last
returns-then-section-last c = after_last _ _ _ c.if-section-last.true

pub returns-then-section-last-2 : goal.returns-then-section-last-2
returns-then-section-last-2 c =
    next_on_path _ _ _ _ _ _ c.requires.shelved c.requires.on c.filed_at-own.ensures.is c.filed_at-lowest.ensures.is c.if-own-lowest.true c.if-section-last-2.true

pub returns-then-lowest-before : goal.returns-then-lowest-before
returns-then-lowest-before c = none_after _ _ _ (omega (arith, c.if-lowest-before.true, c.filed_at-own.ensures.told.upward.count, c.filed_at-lowest.ensures.told.upward.count))
