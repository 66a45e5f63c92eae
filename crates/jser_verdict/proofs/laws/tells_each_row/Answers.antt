use Rattle.jser_verdict.proofs.ToldRows as laws
use Rattle.jser_verdict.proofs.laws.tells_each_row.Goals as goal

pub returns : goal.returns
returns c = laws.tells_each_row
