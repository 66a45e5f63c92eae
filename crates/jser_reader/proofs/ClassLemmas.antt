-- Class places: their tags, and the handles of classes that have been read.
use Rattle.std.proofs.Common.{◌≡◌, ℕ, suc, ◌-◌, false, length, Option, Some, None, refl, sym, ap, subst, arith, option_map}
use Rattle.std.proofs.lemmas.Bool.Decides.{nat_tests}
use Rattle.jser_table.specs.declared.layer.Fit.{Fit}
use Rattle.jser_table.specs.declared.layer.Fit.TheVariants as fit
use Rattle.jser_table.specs.Chains.{chain_in}
use Rattle.jser_table.specs.Entries.{chain_at, chain_of}
use Rattle.jser_reading.specs.Labels.{class_place_at, class_handle_at}
use Rattle.jser_reading.specs.TokensFromBytes.{tag_from}
use Rattle.jser_reading.specs.Goals.{State}
use Rattle.jser_reading.specs.Roles.{object_owner, array_owner, enum_owner, class_owner}
use Rattle.jser_reading.specs.Roles.{Owner as GoalOwner}
use Rattle.jser_verdict.specs.Reasons.{Reason, bad_tag, null_class, wrong_class, handle_space}
use Rattle.jser_verdict.specs.TagRows.{is_known_tag}
use Rattle.jser_verdict.specs.ClassRows.{fit_of_owner}
use Rattle.jser_verdict.specs.Verdicts.{told_if, class_tag_reason, class_handle_reason}
use Rattle.jser_reader.specs.declared.machine.flow.Flow.{Flow}
use Rattle.jser_reader.specs.declared.machine.flow.Flow.TheVariants as flow
use Rattle.jser_reader.specs.declared.frame.Owner.{Owner}
use Rattle.jser_reader.specs.declared.frame.Owner.TheVariants as owner
use Rattle.jser_reader.specs.declared.frame.Role.TheVariants as role
use Rattle.jser_reader.specs.declared.phase.Phase.TheVariants as phase
use Rattle.jser_reader.specs.declared.refusal.Reason.{Reason as CodeReason}
use Rattle.jser_reader.specs.Reasons.{named}
use Rattle.jser_reader.specs.Frames.{goal_owner}
use Rattle.jser_reader.specs.Readers.{Seen, Ready}
use Rattle.jser_reader.specs.Rules.{fit_reason, IsClassOf, with_fit}
use Rattle.jser_reader.specs.Handlers.{StopsWith, refusal, Tells, IsNext, is_full, plain_gate, label_at, after_class_tag, opens_class, opens_proxy, owner_state}
use Rattle.jser_reader.proofs.EndLemmas.{next_is, tells_next, tells_refusal}
use Rattle.jser_reader.proofs.RuleLemmas.{tells_first, fit_first, fit_at_class, fit_told}

-- the reason for a byte in the class place of this owner
abbrev tag_reason : Seen → GoalOwner → ℕ → Option Reason
tag_reason r o b = class_tag_reason (plain_gate r) (label_at (class_place_at o) (suc (length r.frames)) r) o b

-- tags that are refused

refused : (reason : Reason) (o : GoalOwner) (b : ℕ) (s : State) (found : Flow) (old new : Seen) → tag_reason old o b ≡ Some reason
    → StopsWith (refusal old.meter (named reason)) old new → found ≡ flow.Stopped → Tells (tag_reason old o b) s found old new
refused reason o b s found old new e h ef = tells_refusal reason (tag_reason old o b) s found old new h ef e

not_known : (b : ℕ) (o : GoalOwner) → (b ≡ 0x71 → ⊥) → (b ≡ 0x72 → ⊥) → (b ≡ 0x7D → ⊥) → (b ≡ 0x70 → ⊥) → is_known_tag (class_place_at o) b ≡ false
not_known b o reference class proxy null = grind (arith, nat_tests)

pub no_class_tag : (b : ℕ) (s : State) (found : Flow) (old new : Seen) → (b ≡ 0x71 → ⊥) → (b ≡ 0x72 → ⊥) → (b ≡ 0x7D → ⊥) → (b ≡ 0x70 → ⊥)
    → StopsWith (refusal old.meter (named bad_tag)) old new → found ≡ flow.Stopped → Tells (tag_reason old (goal_owner old.owner) b) s found old new
no_class_tag b s found old new reference class proxy null h ef =
    let k = not_known b (goal_owner old.owner) reference class proxy null in
    refused bad_tag (goal_owner old.owner) b s found old new (rw k refl) h ef

pub null_class_tag : (b : ℕ) (s : State) (found : Flow) (old new : Seen) → StopsWith (refusal old.meter (named null_class)) old new → found ≡ flow.Stopped → b ≡ 0x70
    → Tells (tag_reason old (goal_owner old.owner) b) s found old new
null_class_tag b s found old new h ef e = rw e (refused null_class (goal_owner old.owner) 0x70 s found old new refl h ef)

-- tags that are taken

quiet_reference : (o : GoalOwner) (r : Seen) → tag_reason r o 0x71 ≡ None
unfolding tag_from
quiet_reference object_owner r = refl
quiet_reference array_owner r = refl
quiet_reference enum_owner r = refl
quiet_reference class_owner r = refl

quiet_class : (o : GoalOwner) (r : Seen) → tag_reason r o 0x72 ≡ None
unfolding tag_from
quiet_class object_owner r = refl
quiet_class array_owner r = refl
quiet_class enum_owner r = refl
quiet_class class_owner r = refl

pub class_reference : (b : ℕ) (found : Flow) (old new : Seen) → IsNext phase.ClassHandle old.owner old.elements old.header old.text old new → found ≡ flow.On → b ≡ 0x71
    → Tells (tag_reason old (goal_owner old.owner) b) (after_class_tag old (tag_from b)) found old new
unfolding tag_from Ready
class_reference b found old new n ef e =
    let ready : Ready new (after_class_tag old (tag_from 0x71)) = rw (next_is phase.ClassHandle old.owner old.elements old.header old.text old new n) refl in
    rw e (tells_next (tag_reason old (goal_owner old.owner) 0x71) (after_class_tag old (tag_from 0x71)) found old new (record { ready = ready; meter = n.meter; max = ap (λ t. t.max) n.table }) ef (quiet_reference (goal_owner old.owner) old))

pub new_class : (b : ℕ) (found : Flow) (old new : Seen) → Tells None (opens_class old (role.ClassOf old.owner)) found old new → b ≡ 0x72
    → Tells (tag_reason old (goal_owner old.owner) b) (after_class_tag old (tag_from b)) found old new
unfolding tag_from
new_class b found old new h e =
    rw e (subst (λ k. Tells k (after_class_tag old (tag_from 0x72)) found old new) (sym (quiet_class (goal_owner old.owner) old)) h)

at_owner : (o : Owner) (found : Flow) (old new : Seen) → old.owner ≡ o → Tells (tag_reason old (goal_owner o) 0x7D) (opens_proxy old (role.ClassOf o)) found old new
    → Tells (tag_reason old (goal_owner old.owner) 0x7D) (after_class_tag old (tag_from 0x7D)) found old new
unfolding tag_from
at_owner o found old new e h = subst (λ w. Tells (tag_reason old (goal_owner w) 0x7D) (opens_proxy old (role.ClassOf w)) found old new) (sym e) h

pub object_proxy : (found : Flow) (old new : Seen) → Tells (told_if (is_full old) handle_space None) (opens_proxy old (role.ClassOf owner.Object)) found old new → old.owner ≡ owner.Object
    → Tells (tag_reason old (goal_owner old.owner) 0x7D) (after_class_tag old (tag_from 0x7D)) found old new
unfolding tag_from
object_proxy found old new h e = at_owner owner.Object found old new e h

pub class_proxy : (found : Flow) (old new : Seen) → Tells (told_if (is_full old) handle_space None) (opens_proxy old (role.ClassOf owner.ClassObject)) found old new → old.owner ≡ owner.ClassObject
    → Tells (tag_reason old (goal_owner old.owner) 0x7D) (after_class_tag old (tag_from 0x7D)) found old new
unfolding tag_from
class_proxy found old new h e = at_owner owner.ClassObject found old new e h

pub array_proxy : (found : Flow) (old new : Seen) → StopsWith (refusal old.meter (named wrong_class)) old new → found ≡ flow.Stopped → old.owner ≡ owner.Array
    → Tells (tag_reason old (goal_owner old.owner) 0x7D) (after_class_tag old (tag_from 0x7D)) found old new
array_proxy found old new h ef e = at_owner owner.Array found old new e (refused wrong_class array_owner 0x7D (opens_proxy old (role.ClassOf owner.Array)) found old new refl h ef)

pub enum_proxy : (found : Flow) (old new : Seen) → StopsWith (refusal old.meter (named wrong_class)) old new → found ≡ flow.Stopped → old.owner ≡ owner.EnumConst
    → Tells (tag_reason old (goal_owner old.owner) 0x7D) (after_class_tag old (tag_from 0x7D)) found old new
enum_proxy found old new h ef e = at_owner owner.EnumConst found old new e (refused wrong_class enum_owner 0x7D (opens_proxy old (role.ClassOf owner.EnumConst)) found old new refl h ef)

-- handles

abbrev handle_reason : Seen → GoalOwner → ℕ → Option Reason
handle_reason r o n = class_handle_reason (plain_gate r) (label_at (class_handle_at o) (suc (length r.frames)) r) o n

pub wrong_class_handle : (o : Owner) (n : ℕ) (why : CodeReason) (s : State) (found : Flow) (old new : Seen) → old.owner ≡ o → Some why ≡ option_map named (with_fit old.table (goal_owner o) n None)
    → StopsWith (refusal old.meter why) old new → found ≡ flow.Stopped → Tells (handle_reason old (goal_owner old.owner) n) s found old new
wrong_class_handle o n why s found old new eo e h ef =
    tells_first (with_fit old.table (goal_owner old.owner) n None) (handle_reason old (goal_owner old.owner) n) why s found old new
    (subst (λ w. Some why ≡ option_map named (with_fit old.table (goal_owner w) n None)) (sym eo) e)
    (fit_first old.table old.owner n (told_if (is_full old) handle_space None)) h ef

pub right_class : (o : Owner) (n chain : ℕ) (found : Flow) (old new : Seen) → old.owner ≡ o
    → Tells (told_if (is_full old) handle_space None) (owner_state old (chain_in old.table.chains chain)) found old new → IsClassOf old.table o n chain
    → Tells (handle_reason old (goal_owner old.owner) n) (owner_state old (chain_at old.table.entries (n - 0x7E0000))) found old new
right_class o n chain found old new eo h c =
    let at = fit_at_class old.table old.owner n chain (told_if (is_full old) handle_space None) c.closed in
    let fits : None ≡ fit_reason (fit_of_owner (goal_owner old.owner) (chain_in old.table.chains chain)) =
    subst (λ w. None ≡ fit_reason (fit_of_owner (goal_owner w) (chain_in old.table.chains chain))) (sym eo) c.fits in
    let same : chain_at old.table.entries (n - 0x7E0000) ≡ chain_in old.table.chains chain = ap chain_of c.closed.is_class.0 in
    subst (λ k. Tells k (owner_state old (chain_at old.table.entries (n - 0x7E0000))) found old new) (sym at)
    (subst (λ x. Tells (fit_told (fit_of_owner (goal_owner old.owner) (chain_in old.table.chains chain)) (told_if (is_full old) handle_space None)) (owner_state old x) found old new) (sym same)
    (go (fit_of_owner (goal_owner old.owner) (chain_in old.table.chains chain)) fits))
  where
    go : (f : Fit) → None ≡ fit_reason f → Tells (fit_told f (told_if (is_full old) handle_space None)) (owner_state old (chain_in old.table.chains chain)) found old new
    go fit.Fits e = h
    go fit.WrongClass e = absurd (cc)
    go fit.ExternalRaw e = absurd (cc)
    go fit.NotSerializable e = absurd (cc)
