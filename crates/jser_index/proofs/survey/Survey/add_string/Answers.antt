use Rattle.std.proofs.Common.{refl}
use Rattle.jser_index.proofs.StringLemmas.{string_added}
use Rattle.jser_index.proofs.survey.Survey.add_string.Goals as goal

pub returns : goal.returns
returns c = string_added c.args.text.now c.args.end c.args.self.now _ _ c.push_string.new.self c.self.view_is c.in_ok-push_string.ensures refl
