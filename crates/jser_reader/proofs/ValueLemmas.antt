-- The tag of a value, and where it leads.
use Rattle.std.proofs.Common.{◌≡◌, ℕ, Bool, true, false, Some, None, refl, ◌∙◌, ap, subst}
use Rattle.jser_table.specs.Entries.{TableEntry, text_entry}
use Rattle.jser_reading.specs.Labels.{Tag, null_tag, reference_tag, class_desc_tag, object_tag, string_tag, array_tag, class_tag, long_string_tag, proxy_desc_tag, enum_tag}
use Rattle.jser_reading.specs.Goals.{State}
use Rattle.jser_verdict.specs.Reasons.{handle_space}
use Rattle.jser_verdict.specs.Verdicts.{told_if}
use Rattle.jser_reader.specs.declared.machine.flow.Flow.{Flow}
use Rattle.jser_reader.specs.declared.machine.flow.Flow.TheVariants as flow
use Rattle.jser_reader.specs.declared.frame.Owner.TheVariants as owner
use Rattle.jser_reader.specs.declared.frame.Role.{Role}
use Rattle.jser_reader.specs.declared.frame.Role.TheVariants as role
use Rattle.jser_reader.specs.declared.phase.Phase.TheVariants as phase
use Rattle.jser_reader.specs.declared.phase.TextFor.{TextFor}
use Rattle.jser_reader.specs.declared.phase.TextFor.TheVariants as text
use Rattle.jser_reader.specs.Readers.{Seen, in_role, length_phase, Ready, IsForm, IsInside}
use Rattle.jser_reader.specs.Steps.{after_value}
use Rattle.jser_reader.specs.Handlers.{moved, Comes, Tells, TellCases, IsNext, Assigns, AssignCases, is_full, handle_reason, begun, place_reason, counted, after_tag, opens_text, opens_class, opens_proxy, CountsPlace}
use Rattle.jser_reader.proofs.EndLemmas.{next_is, tells_next}
use Rattle.jser_reader.specs.Wholes.{HasPlace}
use Rattle.jser_reader.proofs.PlaceLemmas.{not_counted, after_count, is_counted, counts_here}

-- nothing is refused and the state comes
goes : (s : State) (b : Flow) (old new : Seen) → Comes old new s → b ≡ flow.On → Tells None s b old new
goes s b old new h e = tells_next None s b old new h e refl

pub null_begun : (b : Flow) (old new : Seen) → Comes old new (after_value old) → b ≡ flow.On → Tells (handle_reason old null_tag) (begun old null_tag) b old new
unfolding begun after_value
null_begun b old new h e = goes (begun old null_tag) b old new h e

pub back_begun : (b : Flow) (old new : Seen) → IsNext phase.BackHandle old.owner old.elements old.header old.text old new → b ≡ flow.On
    → Tells (handle_reason old reference_tag) (begun old reference_tag) b old new
unfolding begun Ready
back_begun b old new n e =
    let r : Ready new (begun old reference_tag) = rw (next_is phase.BackHandle old.owner old.elements old.header old.text old new n) refl in
    goes (begun old reference_tag) b old new (record { ready = r; meter = n.meter; max = ap (λ t. t.max) n.table }) e

pub object_begun : (b : Flow) (old new : Seen) → IsNext phase.ClassTag owner.Object old.elements old.header old.text old new → b ≡ flow.On
    → Tells (handle_reason old object_tag) (begun old object_tag) b old new
unfolding begun Ready
object_begun b old new n e =
    let r : Ready new (begun old object_tag) = rw (next_is phase.ClassTag owner.Object old.elements old.header old.text old new n) refl in
    goes (begun old object_tag) b old new (record { ready = r; meter = n.meter; max = ap (λ t. t.max) n.table }) e

pub array_begun : (b : Flow) (old new : Seen) → IsNext phase.ClassTag owner.Array old.elements old.header old.text old new → b ≡ flow.On
    → Tells (handle_reason old array_tag) (begun old array_tag) b old new
unfolding begun Ready
array_begun b old new n e =
    let r : Ready new (begun old array_tag) = rw (next_is phase.ClassTag owner.Array old.elements old.header old.text old new n) refl in
    goes (begun old array_tag) b old new (record { ready = r; meter = n.meter; max = ap (λ t. t.max) n.table }) e

pub class_begun : (b : Flow) (old new : Seen) → IsNext phase.ClassTag owner.ClassObject old.elements old.header old.text old new → b ≡ flow.On
    → Tells (handle_reason old class_tag) (begun old class_tag) b old new
unfolding begun Ready
class_begun b old new n e =
    let r : Ready new (begun old class_tag) = rw (next_is phase.ClassTag owner.ClassObject old.elements old.header old.text old new n) refl in
    goes (begun old class_tag) b old new (record { ready = r; meter = n.meter; max = ap (λ t. t.max) n.table }) e

pub enum_begun : (b : Flow) (old new : Seen) → IsNext phase.ClassTag owner.EnumConst old.elements old.header old.text old new → b ≡ flow.On
    → Tells (handle_reason old enum_tag) (begun old enum_tag) b old new
unfolding begun Ready
enum_begun b old new n e =
    let r : Ready new (begun old enum_tag) = rw (next_is phase.ClassTag owner.EnumConst old.elements old.header old.text old new n) refl in
    goes (begun old enum_tag) b old new (record { ready = r; meter = n.meter; max = ap (λ t. t.max) n.table }) e

pub desc_begun : (b : Flow) (old new : Seen) → Tells None (opens_class old role.Value) b old new → Tells (handle_reason old class_desc_tag) (begun old class_desc_tag) b old new
unfolding begun opens_class
desc_begun b old new h = h

pub proxy_begun : (b : Flow) (old new : Seen) → Tells (told_if (is_full old) handle_space None) (opens_proxy old role.Value) b old new
    → Tells (handle_reason old proxy_desc_tag) (begun old proxy_desc_tag) b old new
unfolding begun opens_proxy
proxy_begun b old new h = h

pub string_begun : (b : Flow) (old new : Seen) → (Unit {0} → Unit {0} → Tells (told_if (is_full old) handle_space None) (opens_text old text.Value false) b old new)
    → Tells (handle_reason old string_tag) (begun old string_tag) b old new
unfolding begun opens_text
string_begun b old new h = h tt tt

pub long_string_begun : (b : Flow) (old new : Seen) → (Unit {0} → Unit {0} → Tells (told_if (is_full old) handle_space None) (opens_text old text.Value true) b old new)
    → Tells (handle_reason old long_string_tag) (begun old long_string_tag) b old new
unfolding begun opens_text
long_string_begun b old new h = h tt tt

-- handles

pub no_entry : (entry : TableEntry) (s : State) (b : Flow) (old new : Seen) → Assigns entry None old new → b ≡ flow.Stopped → Tells (told_if (is_full old) handle_space None) s b old new
unfolding Assigns Tells
no_entry entry s b old new h e = rw e (by_room (is_full old) h)
  where
    by_room : (full : Bool) → AssignCases entry None full old new → TellCases (told_if full handle_space None) s flow.Stopped old new
    by_room true k = k
    by_room false k = k

pub no_text : (s : State) (b : Flow) (old new : Seen) → Assigns text_entry None old new → b ≡ flow.Stopped → Tells (told_if (is_full old) handle_space None) s b old new
no_text s b old new h e = no_entry text_entry s b old new h e

pub after_entry : (entry : TableEntry) (number : ℕ) (s : State) (b : Flow) (old mid new : Seen) → Assigns entry (Some number) old mid → Comes mid new s → b ≡ flow.On
    → Tells (told_if (is_full old) handle_space None) s b old new
unfolding Assigns
after_entry entry number s b old mid new h k e =
    tells_next (told_if (is_full old) handle_space None) s b old new
    (record { ready = k.ready; meter = k.meter ∙ ap (λ r. moved r.meter) h.2; max = k.max ∙ ap (λ r. r.table.max) h.2 }) e (ap (λ f. told_if f handle_space None) h.1)

pub new_text : (number : ℕ) (long : Bool) (t : TextFor) (b : Flow) (old mid new : Seen) → Assigns text_entry (Some number) old mid
    → IsNext (length_phase long) mid.owner mid.elements mid.header t mid new → b ≡ flow.On → IsForm t true → IsInside t old.frames
    → Tells (told_if (is_full old) handle_space None) (opens_text old t long) b old new
unfolding Assigns opens_text Ready
new_text number long t b old mid new h n e form inside =
    after_entry text_entry number (opens_text old t long) b old mid new h (record { ready = by_form long t form inside n; meter = n.meter; max = ap (λ t. t.max) n.table }) e
  where
    by_form : (l : Bool) (u : TextFor) → IsForm u true → IsInside u old.frames → IsNext (length_phase l) mid.owner mid.elements mid.header u mid new → Ready new (opens_text old u l)
    by_form false text.Value form inside n = rw (next_is phase.Length2 mid.owner mid.elements mid.header text.Value mid new n) (rw h.2 (inside, refl))
    by_form true text.Value form inside n = rw (next_is phase.Length8 mid.owner mid.elements mid.header text.Value mid new n) (rw h.2 (form, inside, refl))
    by_form false text.FieldType form inside n = rw (next_is phase.Length2 mid.owner mid.elements mid.header text.FieldType mid new n) (rw h.2 (inside, refl))
    by_form true text.FieldType form inside n = rw (next_is phase.Length8 mid.owner mid.elements mid.header text.FieldType mid new n) (rw h.2 (form, inside, refl))
    by_form l (text.FieldName is_object) form inside n = absurd form
    by_form l text.ClassName form inside n = absurd form
    by_form l text.InterfaceName form inside n = absurd form

pub new_class : (r : Role) (b : Flow) (old mid new : Seen) → IsNext phase.Length2 mid.owner mid.elements mid.header text.ClassName mid new → b ≡ flow.On
    → mid.header ≡ in_role old.header r → mid.meter ≡ old.meter → mid.frames ≡ old.frames → mid.layers ≡ old.layers → mid.table ≡ old.table → mid.refs ≡ old.refs
    → Tells None (opens_class old r) b old new
unfolding opens_class Ready
new_class r b old mid new n e eh em ef ey et er =
    let ready : Ready new (opens_class old r) =
    rw (next_is phase.Length2 mid.owner mid.elements mid.header text.ClassName mid new n) (rw eh (rw ef (rw ey (rw et (rw er (tt, refl)))))) in
    goes (opens_class old r) b old new (record { ready = ready; meter = n.meter ∙ ap moved em; max = ap (λ t. t.max) (n.table ∙ et) }) e

-- the tag of a place

pub not_placed : (tag : Tag) (s : State) (b found : Flow) (old new : Seen) → CountsPlace b old new → b ≡ flow.Stopped → found ≡ flow.Stopped → Tells (place_reason old tag) s found old new
not_placed tag s b found old new h eb ef = not_counted b found (handle_reason old tag) s old new h eb ef

pub placed_tag : (tag : Tag) (b found : Flow) (old mid new : Seen) → CountsPlace b old mid → b ≡ flow.On → Tells (handle_reason mid tag) (begun mid tag) found mid new
    → Tells (place_reason old tag) (after_tag old tag) found old new
unfolding after_tag
placed_tag tag b found old mid new h eb k =
    after_count b found (handle_reason old tag) (after_tag old tag) old mid new h eb (subst (λ r. Tells (handle_reason r tag) (begun r tag) found mid new) (is_counted b old mid h eb) k)

-- where a place may begin
pub counted_tag : (tag : Tag) (b : Flow) (old new : Seen) → HasPlace old → Tells (handle_reason (counted old) tag) (begun (counted old) tag) b (counted old) new
    → Tells (place_reason old tag) (after_tag old tag) b old new
counted_tag tag b old new p k = placed_tag tag flow.On b old (counted old) new (counts_here old p) refl k
