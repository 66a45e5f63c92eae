-- What the place says of the byte, said of the text. `held` is what the scan has accepted, said of its fields.
use Rattle.std.proofs.Common.{◌<◌, sym, subst, refl, rules}
use Rattle.jser_prim.specs.Texts.{HasAccepted}
use Rattle.jser_prim.proofs.ScanLemmas.{accepts_unit, accepts_part, refuses_byte}
use Rattle.jser_prim.proofs.scan.TextScan.push.Goals as goal

pub returns-in-Unit-clause-unit : goal.returns-in-Unit-clause-unit
returns-in-Unit-clause-unit c = λ len bytes units accepted.
    let held = subst (HasAccepted len bytes units) (sym c.self.view_is) accepted in
    let some = subst (λ scan. 0 < scan.left) (sym c.self.view_is) c.requires.not_done in
    let takes = c.in-Unit.ensures.takes held.going in
    accepts_unit len bytes units _ c.args.byte c.in-Unit.unit held some takes.0 takes.1

pub returns-in-Unit-clause-accepts : goal.returns-in-Unit-clause-accepts
returns-in-Unit-clause-accepts c = λ len bytes units accepted.
    let held = subst (HasAccepted len bytes units) (sym c.self.view_is) accepted in
    let some = subst (λ scan. 0 < scan.left) (sym c.self.view_is) c.requires.not_done in
    let takes = c.in-Unit.ensures.takes held.going in
    (λ _. (accepts_unit len bytes units _ c.args.byte c.in-Unit.unit held some takes.0 takes.1).begins, λ _. refl)

pub returns-in-Part-clause-unit : goal.returns-in-Part-clause-unit
returns-in-Part-clause-unit c = λ len bytes units accepted.
    let held = subst (HasAccepted len bytes units) (sym c.self.view_is) accepted in
    let some = subst (λ scan. 0 < scan.left) (sym c.self.view_is) c.requires.not_done in
    let takes = c.in-Part.ensures.takes held.going in
    accepts_part len bytes units _ c.args.byte c.in-Part.next held some takes

pub returns-in-Part-clause-accepts : goal.returns-in-Part-clause-accepts
returns-in-Part-clause-accepts c = λ len bytes units accepted.
    let held = subst (HasAccepted len bytes units) (sym c.self.view_is) accepted in
    let some = subst (λ scan. 0 < scan.left) (sym c.self.view_is) c.requires.not_done in
    let takes = c.in-Part.ensures.takes held.going in
    (λ _. (accepts_part len bytes units _ c.args.byte c.in-Part.next held some takes).begins, λ _. refl)

pub returns-in-Refused-clause-accepts : goal.returns-in-Refused-clause-accepts
returns-in-Refused-clause-accepts c = λ len bytes units accepted.
    let held = subst (HasAccepted len bytes units) (sym c.self.view_is) accepted in
    let none = c.in-Refused.ensures.takes held.going in
    (λ ok. absurd cc, λ begins. absurd (refuses_byte len bytes units _ c.args.byte held none begins))

-- The check finds what follows with no answer too; with one, it refuses a wrong body sooner.

pub returns-in-Refused-clause-fault : goal.returns-in-Refused-clause-fault
returns-in-Refused-clause-fault c = search rules

pub returns-in-Refused-clause-failed : goal.returns-in-Refused-clause-failed
returns-in-Refused-clause-failed c = search rules
