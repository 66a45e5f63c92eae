-- The names of classes and interfaces: for what they are refused, and what comes after them.
use Rattle.std.proofs.Common.{◌≡◌, ◌≢◌, ℕ, ◌-◌, Bool, true, false, not, List, [], Option, Some, None, option_map, Ok, Err, refl, sym, ◌∙◌, ap, subst}
use Rattle.jser_table.specs.declared.layer.LayerKind.{LayerKind}
use Rattle.jser_table.specs.declared.layer.LayerKind.TheVariants as kind
use Rattle.jser_table.specs.Chains.{is_array_kind}
use Rattle.jser_table.specs.Names.{NameKind, plain_name, array_name, malformed_name, name_kind, view_kind}
use Rattle.jser_grammar.specs.Parts.{is_malformed}
use Rattle.jser_reading.specs.Goals.{State, settle}
use Rattle.jser_verdict.specs.Gates.{Gate}
use Rattle.jser_verdict.specs.Gates.{Answer as ToldAnswer}
use Rattle.jser_verdict.specs.Reasons.{Reason, bad_array_name, wrong_class}
use Rattle.jser_verdict.specs.ClassRows.{is_wrong_name, is_array_kind_name}
use Rattle.jser_verdict.specs.Verdicts.{told_if, checked_reason, class_name_reason, interface_reason}
use Rattle.jser_reader.specs.declared.machine.flow.Flow.{Flow}
use Rattle.jser_reader.specs.declared.machine.flow.Flow.TheVariants as flow
use Rattle.jser_reader.specs.declared.frame.Owner.TheVariants as owner
use Rattle.jser_reader.specs.declared.frame.Role.{Role}
use Rattle.jser_reader.specs.declared.frame.Role.TheVariants as role
use Rattle.jser_reader.specs.declared.gate.Answer.TheVariants as answer
use Rattle.jser_reader.specs.declared.phase.Phase.TheVariants as phase
use Rattle.jser_reader.specs.declared.refusal.Reason.{Reason as CodeReason}
use Rattle.jser_reader.specs.declared.refusal.Reason.TheVariants as reason
use Rattle.jser_reader.specs.Reasons.{named}
use Rattle.jser_reader.specs.Gates.{view_answer}
use Rattle.jser_reader.specs.Fitting.{HasDescriptor}
use Rattle.jser_reader.specs.Frames.{chain_owner, goal_role}
use Rattle.jser_reader.specs.Readers.{Seen, Header, Ready, moment_of, head_role, name_kind_of, interfaces_goals}
use Rattle.jser_reader.specs.Handlers.{StopsWith, refusal, moved, TellsSurely, IsNext}
use Rattle.jser_reader.specs.Descriptors.{GoesOnInterfaces}
use Rattle.jser_reader.specs.TextStates.{IsKindOf, named_state}
use Rattle.jser_reader.proofs.EndLemmas.{next_is, surely_from}
use Rattle.jser_reader.proofs.NumberLemmas.{surely_next}

-- ---- what the gate answers

abbrev asked : ToldAnswer → Option Reason
asked a = checked_reason (record { bytes = 0; depth = 0; refs = 0; array = 0; handles = 0; answer = λ name. a }) []

pub passes : (g : Gate) (name : List ℕ) → view_answer answer.Pass ≡ g.answer name → None ≡ option_map named (checked_reason g name)
passes g name e = ap (λ a. option_map named (asked a)) e

pub rejected_name : (g : Gate) (name : List ℕ) → view_answer answer.Rejected ≡ g.answer name
    → Some reason.ClassRejected ≡ option_map named (checked_reason g name)
rejected_name g name e = ap (λ a. option_map named (asked a)) e

pub unmatched_name : (g : Gate) (name : List ℕ) → view_answer answer.Unmatched ≡ g.answer name
    → Some reason.ClassUnmatched ≡ option_map named (checked_reason g name)
unmatched_name g name e = ap (λ a. option_map named (asked a)) e

-- ---- the kind of a class, and its owner

abbrev wrong_in : Seen → Role → NameKind → Bool
wrong_in r w k = is_wrong_name (goal_role (chain_owner r.frames) w) k

wrong_at : (r : Seen) (w : Role) (k : NameKind) (b : Bool) → r.header.role ≡ w → b ≡ wrong_in r w k → b ≡ is_wrong_name (head_role r) k
wrong_at r w k b e h = h ∙ ap (λ x. wrong_in r x k) (sym e)

array_named : (k : LayerKind) → is_array_kind k ≡ is_array_kind_name (name_kind_of k)
array_named kind.Proxy = refl
array_named kind.Other = refl
array_named (kind.Array body) = refl

pub wrong_object : (r : Seen) (k : LayerKind) → r.header.role ≡ role.ClassOf owner.Object → is_array_kind k ≡ is_wrong_name (head_role r) (name_kind_of k)
wrong_object r k e = wrong_at r (role.ClassOf owner.Object) (name_kind_of k) (is_array_kind k) e (array_named k)

pub wrong_array : (r : Seen) (k : LayerKind) → r.header.role ≡ role.ClassOf owner.Array → not (is_array_kind k) ≡ is_wrong_name (head_role r) (name_kind_of k)
wrong_array r k e = wrong_at r (role.ClassOf owner.Array) (name_kind_of k) (not (is_array_kind k)) e (ap not (array_named k))

pub right_value : (r : Seen) (k : NameKind) → r.header.role ≡ role.Value → false ≡ is_wrong_name (head_role r) k
right_value r k e = wrong_at r role.Value k false e refl

pub right_enum : (r : Seen) (k : NameKind) → r.header.role ≡ role.ClassOf owner.EnumConst → false ≡ is_wrong_name (head_role r) k
right_enum r k e = wrong_at r (role.ClassOf owner.EnumConst) k false e refl

pub right_class : (r : Seen) (k : NameKind) → r.header.role ≡ role.ClassOf owner.ClassObject → false ≡ is_wrong_name (head_role r) k
right_class r k e = wrong_at r (role.ClassOf owner.ClassObject) k false e refl

pub right_super : (r : Seen) (k : NameKind) (strict : Bool) → r.header.role ≡ role.Superclass strict → false ≡ is_wrong_name (head_role r) k
right_super r k strict e = wrong_at r (role.Superclass strict) k false e refl

-- ---- a name that is malformed, or not

pub well_formed : (name : List ℕ) (k : LayerKind) → Some k ≡ view_kind (name_kind name) → name_kind name ≢ malformed_name
well_formed name k e m = go (name_kind name) m e
  where
    go : (n : NameKind) → n ≡ malformed_name → Some k ≡ view_kind n → ⊥
    go plain_name m e = absurd (cc)
    go (array_name body) m e = absurd (cc)
    go malformed_name m e = absurd (cc)

is_kind : (n : NameKind) (k : LayerKind) → Some k ≡ view_kind n → (is_malformed n ≡ false) × (name_kind_of k ≡ n)
is_kind plain_name k e = let h : k ≡ kind.Other = cc in (refl, ap name_kind_of h)
is_kind (array_name body) k e = let h : k ≡ kind.Array body = cc in (refl, ap name_kind_of h)
is_kind malformed_name k e = absurd (cc)

no_kind : (n : NameKind) → None ≡ view_kind n → is_malformed n ≡ true
no_kind plain_name e = absurd (cc)
no_kind (array_name body) e = absurd (cc)
no_kind malformed_name e = refl

-- ---- what a class is

pub malformed_class : (g : Gate) (r : Seen) (name : List ℕ) → None ≡ view_kind (name_kind name)
    → IsKindOf (Err reason.BadArrayName) (class_name_reason g (head_role r) name) name
unfolding IsKindOf
malformed_class g r name e = let m = no_kind (name_kind name) e in rw m refl

class_told : (g : Gate) (r : Seen) (name : List ℕ) (k : LayerKind) → Some k ≡ view_kind (name_kind name)
    → class_name_reason g (head_role r) name ≡ told_if (is_wrong_name (head_role r) (name_kind_of k)) wrong_class (checked_reason g name)
class_told g r name k e =
    let x = is_kind (name_kind name) k e in
    ap (λ b. told_if b bad_array_name (told_if (is_wrong_name (head_role r) (name_kind name)) wrong_class (checked_reason g name))) x.0
    ∙ ap (λ n. told_if (is_wrong_name (head_role r) n) wrong_class (checked_reason g name)) (sym x.1)

pub wrong_class_name : (g : Gate) (r : Seen) (name : List ℕ) (k : LayerKind) → Some k ≡ view_kind (name_kind name)
    → true ≡ is_wrong_name (head_role r) (name_kind_of k)
    → IsKindOf (Err reason.WrongClass) (class_name_reason g (head_role r) name) name
unfolding IsKindOf
wrong_class_name g r name k e w =
    ap (option_map named) (class_told g r name k e ∙ ap (λ b. told_if b wrong_class (checked_reason g name)) (sym w))

class_judged : (g : Gate) (r : Seen) (name : List ℕ) (k : LayerKind) → Some k ≡ view_kind (name_kind name)
    → false ≡ is_wrong_name (head_role r) (name_kind_of k) → class_name_reason g (head_role r) name ≡ checked_reason g name
class_judged g r name k e w = class_told g r name k e ∙ ap (λ b. told_if b wrong_class (checked_reason g name)) (sym w)

pub judged_class : (g : Gate) (r : Seen) (name : List ℕ) (k : LayerKind) (why : CodeReason) → Some k ≡ view_kind (name_kind name)
    → false ≡ is_wrong_name (head_role r) (name_kind_of k) → Some why ≡ option_map named (checked_reason g name)
    → IsKindOf (Err why) (class_name_reason g (head_role r) name) name
unfolding IsKindOf
judged_class g r name k why e w h = ap (option_map named) (class_judged g r name k e w) ∙ sym h

none_named : (told : Option Reason) → None ≡ option_map named told → told ≡ None
none_named None e = refl
none_named (Some k) e = absurd (cc)

pub right_class_name : (g : Gate) (r : Seen) (name : List ℕ) (k : LayerKind) → Some k ≡ view_kind (name_kind name)
    → false ≡ is_wrong_name (head_role r) (name_kind_of k) → None ≡ option_map named (checked_reason g name)
    → IsKindOf (Ok k) (class_name_reason g (head_role r) name) name
unfolding IsKindOf
right_class_name g r name k e w h =
    (class_judged g r name k e w ∙ none_named (checked_reason g name) h, (is_kind (name_kind name) k e).1)

-- ---- what comes after a name

fault_told : (told : Option Reason) (why : CodeReason) (s : State) (b : Flow) (old new : Seen) → StopsWith (refusal old.meter why) old new → b ≡ flow.Stopped
    → option_map named told ≡ Some why → TellsSurely told s b old new
unfolding TellsSurely
fault_told None why s b old new h eb e = absurd (cc)
fault_told (Some k) why s b old new h eb e =
    let w : why ≡ named k = cc in rw eb (subst (λ y. StopsWith (refusal old.meter y) old new) w h)

pub class_refused : (told : Option Reason) (why : CodeReason) (name : List ℕ) (s : State) (b : Flow) (old new : Seen)
    → StopsWith (refusal old.meter why) old new → b ≡ flow.Stopped → IsKindOf (Err why) told name → TellsSurely told s b old new
unfolding IsKindOf
class_refused told why name s b old new h eb e = fault_told told why s b old new h eb e

-- the head of a descriptor of this kind
abbrev of_kind : Header → LayerKind → Header
of_kind h k = record { role = h.role; kind = k; seen = h.seen; codes = h.codes; fields = h.fields; interfaces = h.interfaces }

pub class_named : (told : Option Reason) (k : LayerKind) (name : List ℕ) (b : Flow) (old mid new : Seen)
    → IsNext phase.Suid mid.owner mid.elements mid.header mid.text mid new → b ≡ flow.On → IsKindOf (Ok k) told name
    → mid.header ≡ of_kind old.header k → mid.meter ≡ old.meter → mid.frames ≡ old.frames → mid.layers ≡ old.layers → mid.table ≡ old.table → mid.refs ≡ old.refs
    → TellsSurely told (named_state old name) b old new
unfolding IsKindOf Ready
class_named told k name b old mid new n eb is eh em ef ey et er =
    let ready : Ready new (named_state old name) =
    rw (← is.1) (rw (next_is phase.Suid mid.owner mid.elements mid.header mid.text mid new n) (rw eh (rw ef (rw ey (rw et (rw er refl)))))) in
    surely_next told (named_state old name) b old new
    (record { ready = ready; meter = n.meter ∙ ap moved em; max = ap (λ t. t.max) (n.table ∙ et) }) eb is.0

pub malformed_interface : (g : Gate) (name : List ℕ) → None ≡ view_kind (name_kind name)
    → Some reason.BadArrayName ≡ option_map named (interface_reason g name)
malformed_interface g name e = let m = no_kind (name_kind name) e in rw m refl

pub judged_interface : (g : Gate) (name : List ℕ) (k : LayerKind) (fault : Option CodeReason) → fault ≡ option_map named (checked_reason g name)
    → Some k ≡ view_kind (name_kind name) → fault ≡ option_map named (interface_reason g name)
judged_interface g name k fault h e =
    h ∙ sym (ap (λ b. option_map named (told_if b bad_array_name (checked_reason g name))) (is_kind (name_kind name) k e).0)

pub interface_refused : (told : Option Reason) (why : CodeReason) (s : State) (b : Flow) (old new : Seen)
    → StopsWith (refusal old.meter why) old new → b ≡ flow.Stopped → Some why ≡ option_map named told → TellsSurely told s b old new
interface_refused told why s b old new h eb e = fault_told told why s b old new h eb (sym e)

abbrev with_interfaces : Seen → ℕ → Seen
with_interfaces r n = record {
  meter = r.meter;
  phase = r.phase;
  frames = r.frames;
  layers = r.layers;
  table = r.table;
  refs = r.refs;
  owner = r.owner;
  elements = r.elements;
  header = record { role = r.header.role; kind = r.header.kind; seen = r.header.seen; codes = r.header.codes; fields = r.header.fields; interfaces = n };
  text = r.text;
  left = r.left;
  scan = r.scan;
  name = r.name;
}

pub interface_named : (told : Option Reason) (b : Flow) (old mid new : Seen)
    → GoesOnInterfaces b mid new
    → None ≡ option_map named told → mid ≡ with_interfaces old (old.header.interfaces - 1) → HasDescriptor old.frames
    → TellsSurely told (settle (moment_of old) (interfaces_goals old (old.header.interfaces - 1))) b old new
unfolding GoesOnInterfaces
interface_named told b old mid new h e is d =
    let k = subst (λ r. (HasDescriptor r.frames → TellsSurely None (settle (moment_of r) (interfaces_goals r r.header.interfaces)) b r new)) is h in
    let next = settle (moment_of old) (interfaces_goals old (old.header.interfaces - 1)) in
    subst (λ t. TellsSurely t next b old new) (sym (none_named told e))
    (surely_from None next next b old (with_interfaces old (old.header.interfaces - 1)) new (k d) refl refl refl)
