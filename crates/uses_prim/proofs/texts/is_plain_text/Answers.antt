use Rattle.std.proofs.Common.{length, []}
use Rattle.uses_prim.proofs.texts.is_plain_text.Goals as goal

pub returns-then-push_plain : goal.returns-then-push_plain
returns-then-push_plain c =
    c.is_done.ensures.text (length c.args.bytes.now) c.args.bytes.now c.args.bytes.now
    (c.push_plain.ensures.units c.if-push_plain.true (length c.args.bytes.now) [] [] c.new-scan.ensures.accepted)
