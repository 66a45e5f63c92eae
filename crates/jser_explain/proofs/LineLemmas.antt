-- Why there is no answer, as it was told.
use Rattle.std.proofs.Common.{◌≡◌, ◌≢◌, ℕ, Bool, List, Option, inl, inr, subst}
use Rattle.jser_inputs.specs.declared.fault.InputFault.{InputFault}
use Rattle.jser_scan.specs.declared.found.Found.{Found}
use Rattle.jser_scan.specs.declared.found.Found.TheVariants as found
use Rattle.jser_scan.specs.Founds.{FailsAs}
use Rattle.jser_settings.specs.Settings.{TellsInputFault}
use Rattle.jser_commands.specs.Lines.{SaysUnwritten, SaysWhy}
use Rattle.jser_explain.specs.Explains.{HasStatus, WhyUnsaid}

-- the line of what was found was not written
pub why_unsaid : (result : Found) (why : InputFault) (r0 r1 w0 w1 failed : Bool) (old new : Option (List ℕ)) → FailsAs result r0 r1 why → WhyUnsaid result w0 w1 failed old new
    → SaysWhy why r0 r1 w0 w1 failed old new
why_unsaid (found.Accepted totals) why r0 r1 w0 w1 failed old new fails told = inr (fails, told)
why_unsaid (found.Refused refusal class) why r0 r1 w0 w1 failed old new fails told = inr (fails, told)
why_unsaid (found.Hidden from to class) why r0 r1 w0 w1 failed old new fails told = inr (fails, told)
why_unsaid found.NotOpened why r0 r1 w0 w1 failed old new fails told = absurd fails
why_unsaid (found.NotRead fault) why r0 r1 w0 w1 failed old new fails told =
    inl (fails.0, told.0, subst (λ f. TellsInputFault f failed old new) fails.1 told.1)
why_unsaid found.OutOfMemory why r0 r1 w0 w1 failed old new fails told = inr (fails, told)

-- an input of which something was found did not fail
pub sound : (result : Found) (why : InputFault) (before after : Bool) (status : ℕ) → FailsAs result before after why → HasStatus result status → status ≢ 3 → after ≡ before
sound (found.Accepted totals) why before after status fails has not = fails
sound (found.Refused refusal class) why before after status fails has not = fails
sound (found.Hidden from to class) why before after status fails has not = fails
sound found.NotOpened why before after status fails has not = absurd fails
sound (found.NotRead fault) why before after status fails has not = absurd (not has)
sound found.OutOfMemory why before after status fails has not = fails

-- the line of a refusal was written, and what is behind it was not
pub why_more : (result : Found) (why : InputFault) (r0 r1 w0 w1 w2 failed : Bool) (old mid new : Option (List ℕ)) (status : ℕ) → FailsAs result r0 r1 why → HasStatus result status
    → status ≢ 3 → w1 ≡ w0 → mid ≡ old → SaysUnwritten w1 w2 failed mid new → SaysWhy why r0 r1 w0 w2 failed old new
why_more result why r0 r1 w0 w1 w2 failed old mid new status fails has not same still told =
    inr (sound result why r0 r1 status fails has not, subst (λ w. SaysUnwritten w w2 failed old new) same (subst (λ o. SaysUnwritten w1 w2 failed o new) still told))
