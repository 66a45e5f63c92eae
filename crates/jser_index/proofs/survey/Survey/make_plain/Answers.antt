use Rattle.std.proofs.lemmas.Result.{on_ok_weaker}
use Rattle.jser_index.proofs.SurveyLemmas.{made_plain}
use Rattle.jser_index.proofs.survey.Survey.make_plain.Goals as goal

pub returns : goal.returns
returns c = on_ok_weaker c.make.result (λ made told plain. made_plain told c.args.self.now c.make.new.self plain made) c.make.ensures
