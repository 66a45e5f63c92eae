use Rattle.jser_verdict.proofs.Texts as laws
use Rattle.jser_verdict.proofs.laws.bad_text_is_exact.Goals as goal

pub returns : goal.returns
returns c = laws.bad_text_is_exact
