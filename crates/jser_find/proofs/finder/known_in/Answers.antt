use Rattle.std.proofs.Common.{rules}
use Rattle.jser_reader.proofs.ReaderLemmas.{all_bytes}
use Rattle.jser_find.proofs.BudgetLemmas.{known_all, known_front, not_known}
use Rattle.jser_find.proofs.finder.known_in.Goals as goal

pub returns-then-bytes-left : goal.returns-then-bytes-left
returns-then-bytes-left c =
    known_all c.args.left c.args.bytes.now c.in_ok-whole.whole (search rules) (all_bytes c.args.bytes.now (λ k. (c.type_inv.bytes k).fits)) c.in_ok-whole.ensures.whole
    c.in_ok-whole.ensures.read

pub returns-then-whole-left : goal.returns-then-whole-left
returns-then-whole-left c =
    not_known c.args.left c.args.bytes.now _ c.in_ok-whole-2.whole (search rules) (all_bytes c.args.bytes.now (λ k. (c.type_inv.bytes k).fits)) c.split_at.ensures.front
    c.in_ok-whole-2.ensures.read (search rules)

pub returns-else-whole-left : goal.returns-else-whole-left
returns-else-whole-left c =
    known_front c.args.left c.args.bytes.now _ c.in_ok-whole-2.whole (search rules) (all_bytes c.args.bytes.now (λ k. (c.type_inv.bytes k).fits)) c.split_at.ensures.front
    c.in_ok-whole-2.ensures.read c.in_ok-whole-2.ensures.sure (search rules)
