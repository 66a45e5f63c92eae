-- The tag and the handle of a text place, and where they lead.
use Rattle.std.proofs.Common.{◌≡◌, ℕ, ◌-◌, true, false, List, Some, None, refl, sym, ◌∙◌, ap, subst, arith, option_map}
use Rattle.std.proofs.lemmas.Bool.Decides.{nat_tests}
use Rattle.jser_reading.specs.Labels.{text_place_at}
use Rattle.jser_reading.specs.TokensFromBytes.{tag_from}
use Rattle.jser_reading.specs.Goals.{State, settle}
use Rattle.jser_verdict.specs.Reasons.{bad_tag, handle_space}
use Rattle.jser_verdict.specs.TagRows.{is_known_tag}
use Rattle.jser_verdict.specs.Gates.{Gate}
use Rattle.jser_verdict.specs.Verdicts.{told_if, class_name_reason, interface_reason}
use Rattle.jser_reader.specs.declared.machine.flow.Flow.{Flow}
use Rattle.jser_reader.specs.declared.machine.flow.Flow.TheVariants as flow
use Rattle.jser_reader.specs.declared.phase.Phase.TheVariants as phase
use Rattle.jser_reader.specs.declared.phase.TextFor.{TextFor}
use Rattle.jser_reader.specs.declared.phase.TextFor.TheVariants as text
use Rattle.jser_reader.specs.Reasons.{named}
use Rattle.jser_reader.specs.Fitting.{HasDescriptor}
use Rattle.jser_reader.specs.Steps.{after_value}
use Rattle.jser_reader.specs.Readers.{Seen, IsForm, is_checked, IsInside, Ready, moment_of, head_role, interfaces_goals, text_rest}
use Rattle.jser_reader.specs.Handlers.{StopsWith, refusal, Comes, Tells, TellsSurely, IsNext, is_full, opens_text}
use Rattle.jser_reader.specs.Descriptors.{GoesOnFields}
use Rattle.jser_reader.specs.TextStates.{text_tag_reason, handle_reason, after_text_tag, text_reason_of, text_reason, named_state, text_state_of, after_text, EndsText}
use Rattle.jser_reader.proofs.EndLemmas.{next_is, tells_next, tells_refusal}
use Rattle.jser_reader.proofs.NumberLemmas.{surely_next, surely_first}
use Rattle.jser_reader.proofs.RuleLemmas.{no_reason}
use Rattle.jser_reader.specs.declared.refusal.Reason.{Reason as CodeReason}
use Rattle.jser_reader.specs.Rules.{with_text}

-- ---- tags that are refused

not_known : (b : ℕ) → (b ≡ 0x71 → ⊥) → (b ≡ 0x74 → ⊥) → (b ≡ 0x7C → ⊥) → is_known_tag text_place_at b ≡ false
not_known b reference short long = grind (arith, nat_tests)

pub no_text_tag : (b : ℕ) (s : State) (found : Flow) (old new : Seen) → (b ≡ 0x71 → ⊥) → (b ≡ 0x74 → ⊥) → (b ≡ 0x7C → ⊥)
    → StopsWith (refusal old.meter (named bad_tag)) old new → found ≡ flow.Stopped → Tells (text_tag_reason old b) s found old new
no_text_tag b s found old new reference short long h ef =
    let k = not_known b reference short long in tells_refusal bad_tag (text_tag_reason old b) s found old new h ef (rw k refl)

-- ---- tags that are taken

quiet_reference : (r : Seen) → text_tag_reason r 0x71 ≡ None
unfolding tag_from
quiet_reference r = refl

string_told : (r : Seen) → text_tag_reason r 0x74 ≡ told_if (is_full r) handle_space None
unfolding tag_from
string_told r = refl

long_told : (r : Seen) → text_tag_reason r 0x7C ≡ told_if (is_full r) handle_space None
unfolding tag_from
long_told r = refl

pub text_reference : (b : ℕ) (found : Flow) (old new : Seen) → IsNext phase.TextHandle old.owner old.elements old.header old.text old new → found ≡ flow.On → b ≡ 0x71
    → IsForm old.text true → IsInside old.text old.frames
    → Tells (text_tag_reason old b) (after_text_tag old (tag_from b)) found old new
unfolding tag_from Ready
text_reference b found old new n ef e form inside =
    let ready : Ready new (after_text_tag old (tag_from 0x71)) = rw (next_is phase.TextHandle old.owner old.elements old.header old.text old new n) (form, inside, refl) in
    rw e (tells_next (text_tag_reason old 0x71) (after_text_tag old (tag_from 0x71)) found old new
    (record { ready = ready; meter = n.meter; max = ap (λ t. t.max) n.table }) ef (quiet_reference old))

pub short_text : (b : ℕ) (found : Flow) (old new : Seen)
    → (IsForm old.text true → IsInside old.text old.frames → Tells (told_if (is_full old) handle_space None) (opens_text old old.text false) found old new) → b ≡ 0x74
    → IsForm old.text true → IsInside old.text old.frames
    → Tells (text_tag_reason old b) (after_text_tag old (tag_from b)) found old new
unfolding tag_from
short_text b found old new h e form inside =
    rw e (subst (λ k. Tells k (after_text_tag old (tag_from 0x74)) found old new) (sym (string_told old)) (h form inside))

pub long_text : (b : ℕ) (found : Flow) (old new : Seen)
    → (IsForm old.text true → IsInside old.text old.frames → Tells (told_if (is_full old) handle_space None) (opens_text old old.text true) found old new) → b ≡ 0x7C
    → IsForm old.text true → IsInside old.text old.frames
    → Tells (text_tag_reason old b) (after_text_tag old (tag_from b)) found old new
unfolding tag_from
long_text b found old new h e form inside =
    rw e (subst (λ k. Tells k (after_text_tag old (tag_from 0x7C)) found old new) (sym (long_told old)) (h form inside))

-- ---- the end of a text place

pub constant_named : (found : Flow) (old new : Seen) → Comes old new (after_value old) → found ≡ flow.On → (old.text ≡ text.FieldType → ⊥)
    → IsForm old.text true → IsInside old.text old.frames
    → TellsSurely None (settle (moment_of old) (text_rest old old.text)) found old new
unfolding after_value
constant_named found old new h ef other form inside = go old.text refl form
  where
    go : (t : TextFor) → old.text ≡ t → IsForm t true → TellsSurely None (settle (moment_of old) (text_rest old old.text)) found old new
    go text.Value e form =
        subst (λ t. TellsSurely None (settle (moment_of old) (text_rest old t)) found old new) (sym e)
        (surely_next None (settle (moment_of old) (text_rest old text.Value)) found old new h ef refl)
    go text.FieldType e form = absurd (other e)
    go (text.FieldName is_object) e form = absurd form
    go text.ClassName e form = absurd form
    go text.InterfaceName e form = absurd form

pub type_named : (found : Flow) (old new : Seen)
    → GoesOnFields found old new
    → old.text ≡ text.FieldType → IsForm old.text true → IsInside old.text old.frames
    → TellsSurely None (settle (moment_of old) (text_rest old old.text)) found old new
unfolding GoesOnFields
type_named found old new h e form inside =
    subst (λ t. IsInside t old.frames → TellsSurely None (settle (moment_of old) (text_rest old t)) found old new) (sym e) h inside

-- ---- handles

pub wrong_text : (n : ℕ) (why : CodeReason) (s : State) (found : Flow) (old new : Seen) → Some why ≡ option_map named (with_text old.table n) → StopsWith (refusal old.meter why) old new
    → found ≡ flow.Stopped → TellsSurely (handle_reason old n) s found old new
wrong_text n why s found old new e h ef = surely_first (with_text old.table n) why s found old new e h ef

pub right_text : (n : ℕ) (s : State) (found : Flow) (old new : Seen) → (IsForm old.text true → IsInside old.text old.frames → TellsSurely None s found old new)
    → None ≡ option_map named (with_text old.table n) → IsForm old.text true → IsInside old.text old.frames
    → TellsSurely (handle_reason old n) s found old new
right_text n s found old new h right form inside =
    subst (λ t. TellsSurely t s found old new) (sym (no_reason (with_text old.table n) right)) (h form inside)

-- ---- the end of a text, by what it is read for

ends_as : (gate : Gate) (t : TextFor) (units : List ℕ) (found : Flow) (old new : Seen) → old.text ≡ t
    → TellsSurely (text_reason_of gate old t units) (text_state_of old t units) found old new
    → TellsSurely (text_reason gate old units) (after_text old units) found old new
unfolding after_text
ends_as gate t units found old new e h =
    subst (λ t. TellsSurely (text_reason_of gate old t units) (text_state_of old t units) found old new) (sym e) h

inside_as : (t : TextFor) (units : List ℕ) (r : Seen) → r.text ≡ t → EndsText r units → IsInside t r.frames
inside_as t units r e h = subst (λ t. IsInside t r.frames) e h.inside

name_is : (t : TextFor) (units : List ℕ) (r : Seen) → r.text ≡ t → is_checked t ≡ true → EndsText r units → r.name ≡ units
name_is t units r e checked h = h.kept (ap is_checked e ∙ checked)

pub value_ends : (gate : Gate) (found : Flow) (old new : Seen) → Comes old new (after_value old) → found ≡ flow.On → old.text ≡ text.Value
    → (units : List ℕ) → EndsText old units → TellsSurely (text_reason gate old units) (after_text old units) found old new
unfolding after_value
value_ends gate found old new h ef e = λ units ends.
    ends_as gate text.Value units found old new e (surely_next None (text_state_of old text.Value units) found old new h ef refl)

pub type_ends : (gate : Gate) (found : Flow) (old new : Seen)
    → GoesOnFields found old new
    → old.text ≡ text.FieldType
    → (units : List ℕ) → EndsText old units → TellsSurely (text_reason gate old units) (after_text old units) found old new
unfolding GoesOnFields
type_ends gate found old new h e = λ units ends.
    ends_as gate text.FieldType units found old new e (h (inside_as text.FieldType units old e ends))

pub field_named : (gate : Gate) (found : Flow) (old new : Seen)
    → GoesOnFields found old new
    → old.text ≡ text.FieldName false
    → (units : List ℕ) → EndsText old units → TellsSurely (text_reason gate old units) (after_text old units) found old new
unfolding GoesOnFields
field_named gate found old new h e = λ units ends.
    ends_as gate (text.FieldName false) units found old new e (h (inside_as (text.FieldName false) units old e ends))

pub object_field_named : (gate : Gate) (found : Flow) (old new : Seen)
    → IsNext phase.TextTag old.owner old.elements old.header text.FieldType old new → found ≡ flow.On
    → old.text ≡ text.FieldName true
    → (units : List ℕ) → EndsText old units → TellsSurely (text_reason gate old units) (after_text old units) found old new
unfolding Ready
object_field_named gate found old new n ef e = λ units ends.
    let d = inside_as (text.FieldName true) units old e ends in
    let ready : Ready new (text_state_of old (text.FieldName true) units) =
    rw (next_is phase.TextTag old.owner old.elements old.header text.FieldType old new n) (tt, d, refl) in
    ends_as gate (text.FieldName true) units found old new e
    (surely_next None (text_state_of old (text.FieldName true) units) found old new
    (record { ready = ready; meter = n.meter; max = ap (λ t. t.max) n.table }) ef refl)

pub class_name_ends : (gate : Gate) (found : Flow) (old new : Seen)
    → TellsSurely (class_name_reason gate (head_role old) old.name) (named_state old old.name) found old new
    → old.text ≡ text.ClassName
    → (units : List ℕ) → EndsText old units → TellsSurely (text_reason gate old units) (after_text old units) found old new
class_name_ends gate found old new h e = λ units ends.
    ends_as gate text.ClassName units found old new e
    (subst (λ name. TellsSurely (class_name_reason gate (head_role old) name) (named_state old name) found old new)
    (name_is text.ClassName units old e refl ends) h)

pub interface_name_ends : (gate : Gate) (found : Flow) (old new : Seen)
    → (HasDescriptor old.frames → TellsSurely (interface_reason gate old.name) (settle (moment_of old) (interfaces_goals old (old.header.interfaces - 1))) found old new)
    → old.text ≡ text.InterfaceName
    → (units : List ℕ) → EndsText old units → TellsSurely (text_reason gate old units) (after_text old units) found old new
interface_name_ends gate found old new h e = λ units ends.
    ends_as gate text.InterfaceName units found old new e
    (subst (λ name. TellsSurely (interface_reason gate name) (settle (moment_of old) (interfaces_goals old (old.header.interfaces - 1))) found old new)
    (name_is text.InterfaceName units old e refl ends) (h (inside_as text.InterfaceName units old e ends)))
