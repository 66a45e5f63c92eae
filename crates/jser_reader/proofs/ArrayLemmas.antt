-- The length of an array, and the elements that come after it.
use Rattle.std.proofs.Common.{◌≡◌, ℕ, zero, suc, ◌-◌, ◌*◌, ◌<◌, [], ◌∷◌, length, Option, Some, None, option_map, refl, sym, ◌∙◌, ap, subst, arith}
use Rattle.jser_table.specs.Codes.{PrimCode, size_of}
use Rattle.jser_reading.specs.Goals.{State, settle, parts_goal, body_parts, raw_part, value_part, value_parts}
use Rattle.jser_verdict.specs.Verdicts.{array_reason}
use Rattle.jser_reader.specs.declared.machine.flow.Flow.{Flow}
use Rattle.jser_reader.specs.declared.machine.flow.Flow.TheVariants as flow
use Rattle.jser_reader.specs.declared.frame.Frame.TheVariants as frame
use Rattle.jser_reader.specs.declared.phase.Phase.TheVariants as phase
use Rattle.jser_reader.specs.declared.refusal.Stop.TheVariants as stop
use Rattle.jser_reader.specs.Reasons.{named}
use Rattle.jser_reader.specs.Readers.{Seen, Ready, moment_of, goals_of, depth_of}
use Rattle.jser_reader.specs.Steps.{after_value}
use Rattle.jser_reader.specs.Handlers.{StopsWith, refusal, moved, Comes, Tells, IsNext, plain_gate}
use Rattle.jser_reader.specs.Numbers.{after_length}
use Rattle.jser_reader.proofs.EndLemmas.{next_is, tells_next}
use Rattle.jser_reader.specs.declared.refusal.Reason.{Reason as CodeReason}
use Rattle.jser_reader.proofs.RuleLemmas.{no_reason, tells_first}

-- raw elements

raw_state : (r : Seen) (c : PrimCode) (n : ℕ) → 0 < n → after_length r (Some c) n ≡ (moment_of r, parts_goal (depth_of r) (raw_part c (suc (n - 1)) ∷ []) ∷ goals_of r)
unfolding after_length
raw_state r c zero some = absurd (omega arith)
raw_state r c (suc n) some = let e : n ≡ suc n - 1 = omega arith in ap (λ k. (moment_of r, parts_goal (depth_of r) (raw_part c (suc k) ∷ []) ∷ goals_of r)) e

pub raw_elements : (size n : ℕ) (elements : Option PrimCode) (b : Flow) (old mid new : Seen) → IsNext phase.Prims mid.owner mid.elements mid.header mid.text mid new → b ≡ flow.On → mid.left ≡ n * size → 0 < n
    → option_map size_of elements ≡ Some size
    → mid.frames ≡ old.frames → mid.layers ≡ old.layers → mid.table ≡ old.table → mid.refs ≡ old.refs → mid.meter ≡ old.meter
    → Tells None (after_length old elements n) b old new
unfolding Ready
raw_elements size n None b old mid new k e el some es ef ey et er em = absurd (cc)
raw_elements size n (Some c) b old mid new k e el some es ef ey et er em =
    let is_size : size_of c ≡ size = cc in
    let one_more : n ≡ suc (n - 1) = omega arith in
    let size_is : new.left ≡ suc (n - 1) * size_of c = k.left ∙ el ∙ ap (λ s. n * s) (sym is_size) ∙ ap (λ j. j * size_of c) one_more in
    let ready : Ready new (after_length old (Some c) n) =
    subst (Ready new) (sym (raw_state old c n some))
    (rw (next_is phase.Prims mid.owner mid.elements mid.header mid.text mid new k) (rw ef (rw ey (rw et (rw er
    (record { depth = suc (length old.frames); type_code = c; more = n - 1; parts = []; goals = goals_of old; is = refl; size = size_is; depth_is = record { most = omega arith; least = omega arith }; after = refl })))))) in
    tells_next None (after_length old (Some c) n) b old new (record { ready = ready; meter = k.meter ∙ ap moved em; max = ap (λ t. t.max) (k.table ∙ et) }) e refl

-- elements that are values

pub value_state : (r : Seen) (n : ℕ) → 0 < n → after_length r None n ≡ (moment_of r, parts_goal (depth_of r) (value_part ∷ value_parts (n - 1) []) ∷ goals_of r)
unfolding after_length
value_state r zero some = absurd (omega arith)
value_state r (suc n) some = let e : n ≡ suc n - 1 = omega arith in ap (λ k. (moment_of r, parts_goal (depth_of r) (value_part ∷ value_parts k []) ∷ goals_of r)) e

pub value_elements : (n : ℕ) (b : Flow) (old mid new : Seen) → IsNext phase.Value mid.owner mid.elements mid.header mid.text mid new → b ≡ flow.On → 0 < n
    → mid.frames ≡ frame.Elements (n - 1) ∷ old.frames → mid.layers ≡ old.layers → mid.table ≡ old.table → mid.refs ≡ old.refs → mid.meter ≡ old.meter
    → Tells None (after_length old None n) b old new
unfolding Ready
value_elements n b old mid new k e some ef ey et er em =
    let ready : Ready new (after_length old None n) =
    subst (Ready new) (sym (value_state old n some))
    (rw (next_is phase.Value mid.owner mid.elements mid.header mid.text mid new k) (rw ef (rw ey (rw et (rw er (tt, refl)))))) in
    tells_next None (after_length old None n) b old new (record { ready = ready; meter = k.meter ∙ ap moved em; max = ap (λ t. t.max) (k.table ∙ et) }) e refl

pub no_room : (s : State) (b : Flow) (old new : Seen) → StopsWith stop.OutOfMemory old new → b ≡ flow.Stopped → Tells None s b old new
unfolding Tells
no_room s b old new h e = rw e h

-- the length itself

pub wrong_length : (n : ℕ) (why : CodeReason) (b : Flow) (s : State) (old new : Seen) → Some why ≡ option_map named (array_reason (plain_gate old) n) → StopsWith (refusal old.meter why) old new
    → b ≡ flow.Stopped → Tells (array_reason (plain_gate old) n) s b old new
wrong_length n why b s old new e h eb = tells_first (array_reason (plain_gate old) n) (array_reason (plain_gate old) n) why s b old new e (λ k is. is) h eb

pub no_elements : (n : ℕ) (elements : Option PrimCode) (b : Flow) (old new : Seen) → Comes old new (after_value old) → b ≡ flow.On → n ≡ 0 → None ≡ option_map named (array_reason (plain_gate old) n)
    → Tells (array_reason (plain_gate old) n) (after_length old elements n) b old new
unfolding after_length after_value
no_elements n None b old new h e none right =
    tells_next (array_reason (plain_gate old) n) (after_length old None n) b old new
    (subst (Comes old new) (sym (ap (λ k. settle (moment_of old) (parts_goal (depth_of old) (body_parts None k) ∷ goals_of old)) none)) h) e (no_reason (array_reason (plain_gate old) n) right)
no_elements n (Some c) b old new h e none right =
    tells_next (array_reason (plain_gate old) n) (after_length old (Some c) n) b old new
    (subst (Comes old new) (sym (ap (λ k. settle (moment_of old) (parts_goal (depth_of old) (body_parts (Some c) k) ∷ goals_of old)) none)) h) e (no_reason (array_reason (plain_gate old) n) right)

pub some_raw : (n size : ℕ) (b : Flow) (old new : Seen) → ((elements : Option PrimCode) → option_map size_of elements ≡ Some size → Tells None (after_length old elements n) b old new)
    → old.elements ≡ Some size → None ≡ option_map named (array_reason (plain_gate old) n)
    → (elements : Option PrimCode) → old.elements ≡ option_map size_of elements → Tells (array_reason (plain_gate old) n) (after_length old elements n) b old new
some_raw n size b old new h kept right elements is =
    subst (λ t. Tells t (after_length old elements n) b old new) (sym (no_reason (array_reason (plain_gate old) n) right)) (h elements (sym is ∙ kept))

pub some_values : (n : ℕ) (b : Flow) (old new : Seen) → Tells None (after_length old None n) b old new → old.elements ≡ None → None ≡ option_map named (array_reason (plain_gate old) n)
    → (elements : Option PrimCode) → old.elements ≡ option_map size_of elements → Tells (array_reason (plain_gate old) n) (after_length old elements n) b old new
some_values n b old new h kept right None is = subst (λ t. Tells t (after_length old None n) b old new) (sym (no_reason (array_reason (plain_gate old) n) right)) h
some_values n b old new h kept right (Some c) is = absurd (let e = sym kept ∙ is in cc)
