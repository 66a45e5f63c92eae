use Rattle.jser_suggest.proofs.SlackLemmas as slack
use Rattle.jser_suggest.proofs.laws.admits_widened.Goals as goal

pub returns : goal.returns
returns c = slack.admits_widened
