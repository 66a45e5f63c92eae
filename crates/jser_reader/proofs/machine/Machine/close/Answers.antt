use Rattle.std.proofs.Common.{rules}
use Rattle.jser_reader.proofs.SuperLemmas.{closes_more, other_open}
use Rattle.jser_reader.proofs.machine.Machine.close.Goals as goal

pub closing-preserved : goal.closing-preserved
closing-preserved c = closes_more _ _ _ _ _ _ c.in-Superclass.ensures c.closing.invariant

pub returns-in_default-frame : goal.returns-in_default-frame
returns-in_default-frame c =
    other_open _ _ _ c.in-Some.frame _ _ _ c.closing.invariant (search rules) c.in_default-frame.not-Descriptor c.ended.ensures.comes c.ended.ensures.result
