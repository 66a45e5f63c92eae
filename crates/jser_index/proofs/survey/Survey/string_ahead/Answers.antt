use Rattle.std.proofs.Common.{arith}
use Rattle.jser_index.proofs.WholeLemmas.{past_string, ok_both}
use Rattle.jser_index.proofs.survey.Survey.string_ahead.Goals as goal

pub returns : goal.returns
returns c =
    let e = c.saturating_sub.ensures in
    ok_both c.text.result c.text.ensures.finds c.text.ensures.place
    (λ finds place. past_string c.args.text.now c.args.assigned c.args.end c.saturating_sub.result c.args.self.now c.tag.new.self c.text.new.self (omega arith) c.in_ok-tag.ensures.finds
    c.in_ok-tag.ensures.place finds place)
