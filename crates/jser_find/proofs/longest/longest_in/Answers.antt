use Rattle.std.proofs.Common.{rules}
use Rattle.jser_find.specs.Spelled.{bytes_from}
use Rattle.jser_find.proofs.TextLemmas.{are_bytes, turn_over, turn_sure}
use Rattle.jser_find.proofs.longest.longest_in.Goals as goal

pub returns-then-whole-len : goal.returns-then-whole-len
returns-then-whole-len c =
    turn_sure c.args.most c.args.left c.args.count (bytes_from c.args.text.now c.args.from) c.in_ok-front.front.items c.as_slice.result.now c.in_ok-whole.whole c.cut.result
    c.as_slice.ensures.value c.in_ok-front.ensures c.requires.few c.in_ok-whole.ensures.whole c.in_ok-whole.ensures.read c.in_ok-whole.ensures.sure (search rules)
    (are_bytes c.args.text.now c.args.from c.requires.text) c.cut.ensures

pub returns-then-count-left : goal.returns-then-count-left
returns-then-count-left c =
    turn_over c.args.most c.args.left c.args.count (bytes_from c.args.text.now c.args.from) c.in_ok-front.front.items c.as_slice.result.now c.in_ok-whole.whole
    c.as_slice.ensures.value c.in_ok-front.ensures c.requires.few c.in_ok-whole.ensures.read (search rules) (search rules) (search rules)
    (are_bytes c.args.text.now c.args.from c.requires.text)
