use Rattle.std.specs.Prelude.{option_map}
use Rattle.std.proofs.Common.{subst, ℕ, List, Ok, Err}
use Rattle.jser_check.specs.declared.fault.AnywhereFault.TheVariants as fault
use Rattle.jser_check.specs.Pieces.{asked_by, HasTaken, EndTells}
use Rattle.jser_check.specs.Fronts.{IsFront, whole_in}
use Rattle.jser_check.proofs.PieceLemmas.{end_tells}
use Rattle.jser_check.proofs.WholeLemmas.{ended_front}
use Rattle.jser_check.proofs.check.Check.finish.Goals as goal

pub returns-in-Ok-clause-tells : goal.returns-in-Ok-clause-tells
returns-in-Ok-clause-tells g c =
    subst (λ s. (taken : List ℕ) → HasTaken s taken → EndTells (asked_by s) taken (Ok c.in-Ok.totals)) c.self.view_is
    (λ taken h. end_tells _ taken (Ok c.in-Ok.totals) c.finish.new.self.machine h c.in-Ok.ensures.tells)

pub returns-in-Err-clause-tells : goal.returns-in-Err-clause-tells
returns-in-Err-clause-tells g c =
    subst (λ s. (taken : List ℕ) → HasTaken s taken → EndTells (asked_by s) taken (Err (fault.Stop c.in-Err.stop))) c.self.view_is
    (λ taken h. end_tells _ taken (Err c.in-Err.stop) c.finish.new.self.machine h c.in-Err.ensures.tells)

pub returns-in-Ok-clause-whole : goal.returns-in-Ok-clause-whole
returns-in-Ok-clause-whole g c =
    subst (λ s. (taken : List ℕ) → HasTaken s taken → IsFront s.reader.gate.filter s.reader.gate.options taken (whole_in c.finish.new.self)) c.self.view_is
    (λ taken h. ended_front _ (record { reader = c.finish.new.self; scan = option_map (λ home. home.value) c.self.inside.scan; stopped = c.self.inside.stopped }) taken c.in-Ok.ensures.whole h)

pub returns-in-Err-clause-whole : goal.returns-in-Err-clause-whole
returns-in-Err-clause-whole g c =
    subst (λ s. (taken : List ℕ) → HasTaken s taken → IsFront s.reader.gate.filter s.reader.gate.options taken (whole_in c.finish.new.self)) c.self.view_is
    (λ taken h. ended_front _ (record { reader = c.finish.new.self; scan = option_map (λ home. home.value) c.self.inside.scan; stopped = c.self.inside.stopped }) taken c.in-Err.ensures.whole h)
