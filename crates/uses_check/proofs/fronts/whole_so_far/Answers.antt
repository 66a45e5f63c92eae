use Rattle.std.proofs.Common.{rules, ◌++◌}
use Rattle.uses_check.proofs.FrontLemmas.{same_filter, refused_front}
use Rattle.uses_check.proofs.fronts.whole_so_far.Goals as goal

pub returns-in-Ok : goal.returns-in-Ok
returns-in-Ok c = λ taken st.
    same_filter c.args.checker.now.reader.gate c.feed.new.self.reader.gate (taken ++ c.args.piece.now) c.whole.result c.in-Ok.ensures.filter
    (c.whole.ensures.front (taken ++ c.args.piece.now) (c.in-Ok.ensures.takes taken st))

pub returns-in-Err-Refused : goal.returns-in-Err-Refused
returns-in-Err-Refused c = λ taken st.
    refused_front c.args.checker.now.reader.gate.filter c.args.checker.now.reader.gate.options (taken ++ c.args.piece.now) c.whole-in-Err-Refused.result _ c.in-Err-Refused.field-0 c.in-Err-Refused.field-0-0
    (search rules) (c.in-Err-Refused.ensures.whole taken st) c.whole-in-Err-Refused.ensures.is
