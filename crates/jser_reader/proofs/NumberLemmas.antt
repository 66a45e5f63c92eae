-- Handles and lengths, and where they lead.
use Rattle.std.proofs.Common.{◌≡◌, ℕ, zero, suc, ◌-◌, ◌^◌, ◌<◌, ◌≤◌, true, false, nat_le, ◌∷◌, length, Option, Some, None, refl, sym, ◌∙◌, ap, subst, arith, Bool, not, option_map}
use Rattle.std.proofs.lemmas.Bool.Decides.{nat_tests}
use Rattle.jser_reading.specs.Goals.{State, settle, block_goal}
use Rattle.jser_verdict.specs.Reasons.{Reason, no_such_handle, negative_length}
use Rattle.jser_verdict.specs.HandleRows.{is_no_handle}
use Rattle.jser_verdict.specs.Verdicts.{count_reason}
use Rattle.jser_reader.specs.declared.machine.flow.Flow.{Flow}
use Rattle.jser_reader.specs.declared.machine.flow.Flow.TheVariants as flow
use Rattle.jser_reader.specs.declared.phase.Phase.TheVariants as phase
use Rattle.jser_reader.specs.Reasons.{named}
use Rattle.jser_reader.specs.Readers.{Seen, Ready, moment_of, goals_of}
use Rattle.jser_reader.specs.Steps.{after_value}
use Rattle.jser_reader.specs.Handlers.{StopsWith, refusal, moved, Comes, TellsSurely, IsNext}
use Rattle.jser_reader.specs.Numbers.{back_reason, after_block_length}
use Rattle.jser_reader.proofs.EndLemmas.{next_is}
use Rattle.jser_reader.proofs.RuleLemmas.{assigned, unassigned}
use Rattle.jser_reader.specs.declared.refusal.Reason.{Reason as CodeReason}

pub surely_refused : (reason : Reason) (told : Option Reason) (s : State) (b : Flow) (old new : Seen) → StopsWith (refusal old.meter (named reason)) old new → b ≡ flow.Stopped → told ≡ Some reason → TellsSurely told s b old new
unfolding TellsSurely
surely_refused reason told s b old new h eb et = rw eb (rw et h)

pub surely_next : (told : Option Reason) (s : State) (b : Flow) (old new : Seen) → Comes old new s → b ≡ flow.On → told ≡ None → TellsSurely told s b old new
unfolding TellsSurely
surely_next told s b old new h eb et = rw eb (rw et h)

pub surely_first : (told : Option Reason) (why : CodeReason) (s : State) (b : Flow) (old new : Seen) → Some why ≡ option_map named told → StopsWith (refusal old.meter why) old new → b ≡ flow.Stopped
    → TellsSurely told s b old new
surely_first None why s b old new e h eb = absurd (cc)
surely_first (Some k) why s b old new e h eb =
    let is : why ≡ named k = cc in surely_refused k (Some k) s b old new (subst (λ w. StopsWith (refusal old.meter w) old new) is h) eb refl

-- the handle of a reference

pub wrong_handle : (n : ℕ) (there : Bool) (s : State) (b : Flow) (old new : Seen) → there ≡ not (is_no_handle old.table.entries n) → there ≡ false
    → StopsWith (refusal old.meter (named no_such_handle)) old new → b ≡ flow.Stopped → TellsSurely (back_reason old n) s b old new
wrong_handle n there s b old new e none h eb =
    let is = unassigned there (is_no_handle old.table.entries n) e none in surely_refused no_such_handle (back_reason old n) s b old new h eb (rw is refl)

pub right_handle : (n : ℕ) (there : Bool) (b : Flow) (old new : Seen) → there ≡ not (is_no_handle old.table.entries n) → there ≡ true → Comes old new (after_value old) → b ≡ flow.On
    → TellsSurely (back_reason old n) (after_value old) b old new
right_handle n there b old new e is_there h eb =
    let is = assigned there (is_no_handle old.table.entries n) e is_there in surely_next (back_reason old n) (after_value old) b old new h eb (rw is refl)

-- blocks

pub no_bytes : (n : ℕ) (b : Flow) (old new : Seen) → Comes old new (after_value old) → b ≡ flow.On → n ≡ 0 → TellsSurely None (after_block_length old n) b old new
unfolding after_block_length after_value
no_bytes n b old new h e none =
    surely_next None (after_block_length old n) b old new
    (subst (Comes old new) (sym (ap (λ k. settle (moment_of old) (block_goal (length old.frames) k ∷ goals_of old)) none)) h) e refl

block_state : (r : Seen) (n : ℕ) → 0 < n → after_block_length r n ≡ (moment_of r, block_goal (length r.frames) (suc (n - 1)) ∷ goals_of r)
unfolding after_block_length
block_state r zero some = absurd (omega arith)
block_state r (suc n) some = let e : n ≡ suc n - 1 = omega arith in ap (λ k. (moment_of r, block_goal (length r.frames) (suc k) ∷ goals_of r)) e

pub some_bytes : (n : ℕ) (b : Flow) (old mid new : Seen) → IsNext phase.Bytes mid.owner mid.elements mid.header mid.text mid new → b ≡ flow.On → new.left ≡ n → (n ≡ 0 → ⊥)
    → mid.frames ≡ old.frames → mid.layers ≡ old.layers → mid.table ≡ old.table → mid.refs ≡ old.refs → mid.meter ≡ old.meter
    → TellsSurely None (after_block_length old n) b old new
unfolding Ready
some_bytes n b old mid new k e el some ef ey et er em =
    let positive : 0 < n = omega arith in
    let at : new ≡ record { meter = moved mid.meter; phase = phase.Bytes; frames = mid.frames; layers = mid.layers; table = mid.table; refs = mid.refs; owner = mid.owner; elements = mid.elements; header = mid.header; text = mid.text; left = new.left; scan = new.scan; name = new.name } =
    next_is phase.Bytes mid.owner mid.elements mid.header mid.text mid new k in
    let size : new.left ≡ suc (n - 1) = el ∙ (let h : n ≡ suc (n - 1) = omega arith in h) in
    let ready : Ready new (after_block_length old n) =
    subst (Ready new) (sym (block_state old n positive))
    (rw at (rw ef (rw ey (rw et (rw er (record { more = n - 1; is = refl; size = size })))))) in
    surely_next None (after_block_length old n) b old new (record { ready = ready; meter = k.meter ∙ ap moved em; max = ap (λ t. t.max) (k.table ∙ et) }) e refl

pub long_negative : (n : ℕ) (s : State) (b : Flow) (old new : Seen) → StopsWith (refusal old.meter (named negative_length)) old new → b ≡ flow.Stopped → 0x80000000 ≤ n → TellsSurely (count_reason (2 ^ 31) n) s b old new
long_negative n s b old new h e l =
    let is : nat_le (2 ^ 31) n ≡ true = grind (arith, nat_tests) in surely_refused negative_length (count_reason (2 ^ 31) n) s b old new h e (rw is refl)

pub long_block : (n : ℕ) (b : Flow) (old new : Seen) → TellsSurely None (after_block_length old n) b old new → (0x80000000 ≤ n → ⊥) → TellsSurely (count_reason (2 ^ 31) n) (after_block_length old n) b old new
long_block n b old new h l =
    let is : nat_le (2 ^ 31) n ≡ false = grind (arith, nat_tests) in
    let told : count_reason (2 ^ 31) n ≡ None = rw is refl in subst (λ t. TellsSurely t (after_block_length old n) b old new) (sym told) h
