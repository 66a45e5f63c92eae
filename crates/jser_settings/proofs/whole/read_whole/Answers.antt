use Rattle.std.proofs.Common.{arith}
use Rattle.jser_settings.proofs.WholeLemmas.{all_of_few, more_than}
use Rattle.jser_settings.proofs.whole.read_whole.Goals as goal

pub returns-clause-bytes : goal.returns-clause-bytes
returns-clause-bytes g c =
    all_of_few _ c.in-Ok.front.items 16777216 (omega (arith, c.len.ensures, c.if-len-gt-MOST.false, c.in-Ok.front.ok.0)) c.in-Ok.ensures.bytes

pub returns-then-len-gt-MOST-clause-too_long : goal.returns-then-len-gt-MOST-clause-too_long
returns-then-len-gt-MOST-clause-too_long g c =
    λ _. more_than _ c.in-Ok.front.items 16777216 (omega (arith, c.len.ensures, c.if-len-gt-MOST.true, c.in-Ok.front.ok.0)) c.in-Ok.ensures.bytes
