use Rattle.jser_verdict.proofs.SameWalks as laws
use Rattle.jser_verdict.proofs.laws.verdict_scans.Goals as goal

pub returns : goal.returns
returns c = laws.verdict_scans_law
