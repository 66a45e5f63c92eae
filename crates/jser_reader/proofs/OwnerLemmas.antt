-- What comes after a class: the data of an object, the length of an array, the name of an enum constant, or nothing.
use Rattle.std.proofs.Common.{◌≡◌, ℕ, suc, Bool, true, false, not, ◌||◌, cond, List, [], ◌∷◌, length, Some, None, option_map, refl, sym, ◌∙◌, ap, subst}
use Rattle.jser_table.specs.declared.layer.Layer.{Layer}
use Rattle.jser_table.specs.declared.section.Sections.{Sections}
use Rattle.jser_table.specs.Chains.{has_write_method, is_filled, is_empty, is_external, elements_of, chain_in}
use Rattle.jser_table.specs.Codes.{size_of, primitive_codes, object_count}
use Rattle.jser_table.specs.Entries.{TableEntry, other_entry}
use Rattle.jser_table.specs.Sections.{filled_layers, layer_of, under, AreSections}
use Rattle.jser_reading.specs.Moments.{assign}
use Rattle.jser_reading.specs.Goals.{State, Part, prim_parts, value_parts, annotation_if, section_parts, object_parts, parts_goal, settle}
use Rattle.jser_verdict.specs.Reasons.{handle_space}
use Rattle.jser_verdict.specs.Verdicts.{told_if}
use Rattle.jser_reader.specs.declared.machine.flow.Flow.{Flow}
use Rattle.jser_reader.specs.declared.machine.flow.Flow.TheVariants as flow
use Rattle.jser_reader.specs.declared.frame.Frame.{Frame}
use Rattle.jser_reader.specs.declared.frame.Frame.TheVariants as frame
use Rattle.jser_reader.specs.declared.frame.Owner.{Owner}
use Rattle.jser_reader.specs.declared.frame.Owner.TheVariants as owner
use Rattle.jser_reader.specs.declared.phase.Phase.TheVariants as phase
use Rattle.jser_reader.specs.declared.phase.TextFor.TheVariants as text
use Rattle.jser_reader.specs.declared.refusal.Stop.TheVariants as stop
use Rattle.jser_reader.specs.Stacks.{tail_of}
use Rattle.jser_reader.specs.Fitting.{AllFit}
use Rattle.jser_reader.specs.Frames.{frame_goals}
use Rattle.jser_reader.specs.Readers.{Seen, Ready, moment_of, goals_of, depth_of}
use Rattle.jser_reader.specs.Steps.{Kept, before_parts, PartGives, after_value}
use Rattle.jser_reader.specs.Handlers.{StopsWith, moved, Comes, Tells, TellCases, IsNext, Assigns, added, with_entry, is_full, Pushes, pushed, object_state, BeginsObject, owner_state_at, owner_state}
use Rattle.jser_reader.proofs.PartLemmas.{made}
use Rattle.jser_reader.proofs.EndLemmas.{next_is, tells_next}
use Rattle.jser_reader.proofs.ValueLemmas.{no_entry}

-- the stack

pub pushes : (old new : Seen) (f : Frame) (b : Flow) → new ≡ pushed old f → b ≡ flow.On → Pushes f b old new
unfolding Pushes
pushes old new f b h e = rw e h

pub pushes_nothing : (old new : Seen) (f : Frame) (b : Flow) → StopsWith stop.OutOfMemory old new → b ≡ flow.Stopped → Pushes f b old new
unfolding Pushes
pushes_nothing old new f b h e = rw e h

pub fits_external : (T : List TableEntry) (C : List (List Layer)) (frames now : List Frame) → now ≡ frame.ExternalNotes ∷ frames → AllFit T C frames → AllFit T C now
fits_external T C frames now e fit = rw e (record { all = (tt, tt, fit.all) })

-- a layer with no section has no parts

no_parts : (l : Layer) (parts : List Part) → is_filled l ≡ false → prim_parts (primitive_codes l.codes) (value_parts (object_count l.codes) (annotation_if (has_write_method l.flags) parts)) ≡ parts
no_parts l parts e = go l.codes (has_write_method l.flags) refl e
  where
    go : (codes : List ℕ) (b : Bool) → has_write_method l.flags ≡ b → (not (is_empty codes) || b) ≡ false → prim_parts (primitive_codes codes) (value_parts (object_count codes) (annotation_if b parts)) ≡ parts
    go [] false e h = refl
    go [] true e h = absurd (cc)
    go (c ∷ codes) b e h = absurd (cc)

filled_parts : (chain : List Layer) → section_parts (filled_layers chain) ≡ section_parts chain
filled_parts [] = refl
filled_parts (l ∷ ls) = go (is_filled l) refl (filled_parts ls)
  where
    go : (b : Bool) → is_filled l ≡ b → section_parts (filled_layers ls) ≡ section_parts ls → section_parts (cond b (l ∷ filled_layers ls) (filled_layers ls)) ≡ section_parts (l ∷ ls)
    go true e h = ap (λ ps. prim_parts (primitive_codes l.codes) (value_parts (object_count l.codes) (annotation_if (has_write_method l.flags) ps))) h
    go false e h = h ∙ sym (no_parts l (section_parts ls) e)

-- the data of an object

pub same_object : (old mid : Seen) (chain : List Layer) → mid.frames ≡ old.frames → mid.layers ≡ old.layers → mid.table ≡ old.table → mid.refs ≡ old.refs → object_state mid chain ≡ object_state old chain
unfolding object_state
same_object old mid chain ef ey et er =
    ap (λ fs. settle (moment_of mid) (parts_goal (suc (length fs)) (object_parts (is_external chain) chain) ∷ frame_goals mid.table.chains mid.layers fs)) ef
    ∙ ap (λ ls. settle (moment_of mid) (parts_goal (suc (length old.frames)) (object_parts (is_external chain) chain) ∷ frame_goals mid.table.chains ls old.frames)) ey
    ∙ ap (λ T. settle (record { table = T.entries; places = mid.refs }) (parts_goal (suc (length old.frames)) (object_parts (is_external chain) chain) ∷ frame_goals T.chains old.layers old.frames)) et
    ∙ ap (λ k. settle (record { table = old.table.entries; places = k }) (parts_goal (suc (length old.frames)) (object_parts (is_external chain) chain) ∷ frame_goals old.table.chains old.layers old.frames)) er

pub no_room : (chain : List Layer) (f : Frame) (b found : Flow) (old new : Seen) → Pushes f b old new → b ≡ flow.Stopped → found ≡ flow.Stopped → BeginsObject chain found old new
unfolding Pushes BeginsObject
no_room chain f flow.On found old new h e ef = absurd (cc)
no_room chain f flow.Stopped found old new h e ef = rw ef h

pub external_object : (chain : List Layer) (b found : Flow) (old mid new : Seen) → Pushes frame.ExternalNotes b old mid → b ≡ flow.On → found ≡ flow.On → is_external chain ≡ true
    → new.phase ≡ phase.Note → new.frames ≡ mid.frames → new.layers ≡ mid.layers → new.table ≡ mid.table → new.refs ≡ mid.refs → new.meter ≡ mid.meter
    → BeginsObject chain found old new
unfolding Pushes BeginsObject object_state Ready
external_object chain flow.Stopped found old mid new h e et x ep ef ey eb er em = absurd (cc)
external_object chain flow.On found old mid new h e et x ep ef ey eb er em =
    let made_new = made new phase.Note (frame.ExternalNotes ∷ old.frames) old.layers old.table old.refs new.left ep
    (ef ∙ ap (λ r. r.frames) h) (ey ∙ ap (λ r. r.layers) h) (eb ∙ ap (λ r. r.table) h) (er ∙ ap (λ r. r.refs) h) refl in
    rw et (rw x (rw made_new (tt, refl), em ∙ ap (λ r. r.meter) h, ap (λ t. t.max) eb ∙ ap (λ r. r.table.max) h))

pub bare_object : (C : List (List Layer)) (chain : List Layer) (found : Flow) (old new : Seen) → AreSections C chain None → found ≡ flow.On → is_external chain ≡ false
    → Ready new (after_value old) → new.meter ≡ old.meter → Kept old new → BeginsObject chain found old new
unfolding BeginsObject object_state after_value
bare_object C chain found old new none et x ready em kept =
    let parts : object_parts (is_external chain) chain ≡ [] =
    ap (λ b. object_parts b chain) x ∙ sym (filled_parts chain) ∙ ap section_parts none in
    let same : after_value old ≡ object_state old chain =
    sym (ap (λ ps. settle (moment_of old) (parts_goal (depth_of old) ps ∷ goals_of old)) parts) in
    rw et (subst (Ready new) same ready, em, ap (λ t. t.max) kept.table)

pub filled_object : (chain : List Layer) (sections : Sections) (b found : Flow) (old mid new : Seen)
    → PartGives true mid new (section_parts (layer_of mid.table.chains sections.first ∷ under mid.table.chains sections.last sections.first))
    → Pushes frame.ExternalNotes b old mid → b ≡ flow.On → found ≡ flow.On → is_external chain ≡ false
    → AreSections old.table.chains chain (Some sections) → new.meter ≡ mid.meter → BeginsObject chain found old new
unfolding Pushes BeginsObject PartGives before_parts object_state
filled_object chain sections flow.Stopped found old mid new p h e et x are em = absurd (cc)
filled_object chain sections flow.On found old mid new p h e et x are em =
    let C = old.table.chains in
    let parts : object_parts (is_external chain) chain ≡ section_parts (layer_of C sections.first ∷ under C sections.last sections.first) =
    ap (λ b. object_parts b chain) x ∙ sym (filled_parts chain) ∙ ap section_parts are.1 in
    let at_mid : before_parts mid (tail_of mid.frames) (section_parts (layer_of mid.table.chains sections.first ∷ under mid.table.chains sections.last sections.first))
    ≡ before_parts old old.frames (section_parts (layer_of C sections.first ∷ under C sections.last sections.first)) =
    ap (λ r. before_parts r (tail_of r.frames) (section_parts (layer_of r.table.chains sections.first ∷ under r.table.chains sections.last sections.first))) h in
    let same = at_mid ∙ sym (ap (λ ps. settle (moment_of old) (parts_goal (depth_of old) ps ∷ goals_of old)) parts) in
    rw et (subst (Ready new) same p.0, em ∙ ap (λ r. r.meter) h, ap (λ t. t.max) p.1.table ∙ ap (λ r. r.table.max) h)

pub object_begins : (chain : List Layer) (b : Flow) (old mid new : Seen) → BeginsObject chain b mid new
    → mid.frames ≡ old.frames → mid.layers ≡ old.layers → mid.table ≡ old.table → mid.refs ≡ old.refs → mid.meter ≡ moved old.meter
    → Tells None (object_state old chain) b old new
unfolding BeginsObject Tells
object_begins chain flow.Stopped old mid new h ef ey et er em = record { phase = h.phase; stop = h.stop }
object_begins chain flow.On old mid new h ef ey et er em = record { ready = subst (Ready new) (same_object old mid chain ef ey et er) h.0; meter = h.1 ∙ em; max = h.2 ∙ ap (λ t. t.max) et }

-- owners

pub no_owner : (s : State) (b : Flow) (old new : Seen) → Assigns other_entry None old new → b ≡ flow.Stopped → Tells (told_if (is_full old) handle_space None) s b old new
no_owner s b old new h e = no_entry other_entry s b old new h e

owned : (o : Owner) (number : ℕ) (chain : List Layer) (b : Flow) (old mid new : Seen) → Assigns other_entry (Some number) old mid → old.owner ≡ o
    → Tells None (owner_state_at o old chain) b mid new → Tells (told_if (is_full old) handle_space None) (owner_state old chain) b old new
unfolding Assigns owner_state Tells
owned o number chain b old mid new h eo k =
    let told : told_if (is_full old) handle_space None ≡ None = ap (λ f. told_if f handle_space None) h.1 in
    let same : owner_state_at o old chain ≡ owner_state_at old.owner old chain = ap (λ w. owner_state_at w old chain) (sym eo) in
    subst (λ t. TellCases t (owner_state_at old.owner old chain) b old new) (sym told) (subst (λ s. TellCases None s b old new) same (from_old b k))
  where
    from_old : (b : Flow) → TellCases None (owner_state_at o old chain) b mid new → TellCases None (owner_state_at o old chain) b old new
    from_old flow.On k = record { ready = k.ready; meter = k.meter ∙ ap (λ r. moved r.meter) h.2; max = k.max ∙ ap (λ r. r.table.max) h.2 }
    from_old flow.Stopped k = record { phase = k.phase; stop = k.stop }

pub object_owned : (number n : ℕ) (b : Flow) (old mid new : Seen) → Tells None (object_state mid (chain_in mid.table.chains n)) b mid new
    → Assigns other_entry (Some number) old mid → old.owner ≡ owner.Object
    → Tells (told_if (is_full old) handle_space None) (owner_state old (chain_in old.table.chains n)) b old new
unfolding Assigns
object_owned number n b old mid new k h eo =
    let same : object_state mid (chain_in mid.table.chains n) ≡ object_state (added old other_entry) (chain_in old.table.chains n) =
    ap (λ r. object_state r (chain_in r.table.chains n)) h.2 in
    owned owner.Object number (chain_in old.table.chains n) b old mid new h eo (subst (λ s. Tells None s b mid new) same k)

pub array_owned : (number n : ℕ) (b : Flow) (old mid new : Seen) → IsNext phase.ArrayLength mid.owner (option_map size_of (elements_of (chain_in mid.table.chains n))) mid.header mid.text mid new → b ≡ flow.On
    → Assigns other_entry (Some number) old mid → old.owner ≡ owner.Array
    → Tells (told_if (is_full old) handle_space None) (owner_state old (chain_in old.table.chains n)) b old new
unfolding Assigns Ready
array_owned number n b old mid new k e h eo =
    let E = elements_of (chain_in old.table.chains n) in
    let ready : Ready new (owner_state_at owner.Array old (chain_in old.table.chains n)) =
    rw (next_is phase.ArrayLength mid.owner (option_map size_of (elements_of (chain_in mid.table.chains n))) mid.header mid.text mid new k)
    (rw h.2 (record { elements = E; is = refl; size = refl })) in
    owned owner.Array number (chain_in old.table.chains n) b old mid new h eo
    (tells_next None (owner_state_at owner.Array old (chain_in old.table.chains n)) b mid new (record { ready = ready; meter = k.meter; max = ap (λ t. t.max) k.table }) e refl)

pub constant_owned : (number : ℕ) (chain : List Layer) (b : Flow) (old mid new : Seen) → IsNext phase.TextTag mid.owner mid.elements mid.header text.Value mid new → b ≡ flow.On
    → Assigns other_entry (Some number) old mid → old.owner ≡ owner.EnumConst
    → Tells (told_if (is_full old) handle_space None) (owner_state old chain) b old new
unfolding Assigns Ready
constant_owned number chain b old mid new k e h eo =
    let ready : Ready new (owner_state_at owner.EnumConst old chain) =
    rw (next_is phase.TextTag mid.owner mid.elements mid.header text.Value mid new k) (rw h.2 (tt, tt, refl)) in
    owned owner.EnumConst number chain b old mid new h eo
    (tells_next None (owner_state_at owner.EnumConst old chain) b mid new (record { ready = ready; meter = k.meter; max = ap (λ t. t.max) k.table }) e refl)

pub class_owned : (number : ℕ) (chain : List Layer) (b : Flow) (old mid new : Seen) → Comes mid new (after_value mid) → b ≡ flow.On
    → Assigns other_entry (Some number) old mid → old.owner ≡ owner.ClassObject
    → Tells (told_if (is_full old) handle_space None) (owner_state old chain) b old new
unfolding Assigns after_value
class_owned number chain b old mid new k e h eo =
    let same : after_value mid ≡ owner_state_at owner.ClassObject old chain = ap (λ r. settle (moment_of r) (goals_of r)) h.2 in
    owned owner.ClassObject number chain b old mid new h eo
    (tells_next None (owner_state_at owner.ClassObject old chain) b mid new (record { ready = subst (Ready new) same k.ready; meter = k.meter; max = k.max }) e refl)

-- the state after a class depends on the stack, the table and the count of places alone
pub same_owner_state : (o : Owner) (chain : List Layer) (old mid : Seen) → mid.frames ≡ old.frames → mid.layers ≡ old.layers → mid.table ≡ old.table → mid.refs ≡ old.refs
    → owner_state_at o mid chain ≡ owner_state_at o old chain
same_owner_state owner.Object chain old mid ef ey et er =
    same_object (added old other_entry) (added mid other_entry) chain ef ey (ap (λ T. with_entry T other_entry) et) er
same_owner_state owner.Array chain old mid ef ey et er = rw ef (rw ey (rw et (rw er refl)))
same_owner_state owner.EnumConst chain old mid ef ey et er = rw ef (rw ey (rw et (rw er refl)))
same_owner_state owner.ClassObject chain old mid ef ey et er =
    ap (λ fs. settle (assign (moment_of mid) other_entry) (frame_goals mid.table.chains mid.layers fs)) ef
    ∙ ap (λ ls. settle (assign (moment_of mid) other_entry) (frame_goals mid.table.chains ls old.frames)) ey
    ∙ ap (λ T. settle (assign (record { table = T.entries; places = mid.refs }) other_entry) (frame_goals T.chains old.layers old.frames)) et
    ∙ ap (λ k. settle (assign (record { table = old.table.entries; places = k }) other_entry) (frame_goals old.table.chains old.layers old.frames)) er
