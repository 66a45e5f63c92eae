-- The bytes pushed before this turn, and those of the turn.
use Rattle.std.proofs.lemmas.Grind.{common_steps}
use Rattle.std.proofs.Common.{refl, arith, rules, tests}
use Rattle.jser_prim.proofs.PushLemmas.{pushed_more, pushed_to_fault, pushed_all}
use Rattle.jser_prim.proofs.TextLemmas.{no_text}
use Rattle.jser_prim.proofs.scan.TextScan.push_all.Goals as goal

pub bytes-preserved : goal.bytes-preserved
bytes-preserved c =
    let turn = c.in-Ok.ensures.pushes in
    record {
      pushed = pushed_more _ _ _ _ _ _ _ c.bytes.invariant.pushed turn c.split_at.ensures.back;
      room = omega (arith, turn.within, turn.pushes.left, c.bytes.invariant.room, c.split_at.ensures.back_len);
    }

pub returns-in-Err-clause-accepts : goal.returns-in-Err-clause-accepts
returns-in-Err-clause-accepts c = λ len before units accepted.
    let fault = pushed_to_fault _ _ _ _ _ _ c.bytes.invariant.pushed c.in-Err.ensures.fault in
    (λ ok. absurd cc, λ begins. absurd (no_text len before _ _ (fault.pushes.fault fault.within len before units accepted) begins))

pub returns-in-Err-clause-fault : goal.returns-in-Err-clause-fault
returns-in-Err-clause-fault c = λ len before units accepted.
    let fault = pushed_to_fault _ _ _ _ _ _ c.bytes.invariant.pushed c.in-Err.ensures.fault in
    fault.pushes.fault fault.within len before units accepted

pub returns-clause-accepts : goal.returns-clause-accepts
returns-clause-accepts c = λ len before units accepted.
    let all = pushed_all _ _ _ _ c.bytes.invariant.pushed (search (rules, tests)) in
    (λ _. (all.all refl len before units accepted).accepted.begins, λ _. refl)

-- The check finds what follows with no answer too; with one, it refuses a wrong body sooner.

pub bytes-init : goal.bytes-init
bytes-init c = grind (arith, common_steps)
