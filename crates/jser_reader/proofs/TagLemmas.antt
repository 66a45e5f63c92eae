-- The tag of a content or a value, by the byte that it is.
use Rattle.std.proofs.Common.{◌≡◌, ℕ, suc, ◌<◌, ◌⊎◌, inl, inr, Bool, true, false, [], ◌∷◌, length, Some, None, refl, sym, ◌∙◌, ap, subst, arith}
use Rattle.std.proofs.lemmas.Bool.Decides.{nat_tests}
use Rattle.jser_table.specs.Sections.{under}
use Rattle.jser_reading.specs.Labels.{tag_token, reset_tag_token, Label, top_at, annotation_at, value_at}
use Rattle.jser_reading.specs.TokenBytes.{tag_byte}
use Rattle.jser_reading.specs.TokensFromBytes.{tag_from}
use Rattle.jser_reading.specs.Goals.{State, section_parts, settle, parts_goal}
use Rattle.jser_verdict.specs.Reasons.{bad_tag, exception_tag, reset_inside}
use Rattle.jser_verdict.specs.TagRows.{is_known_tag}
use Rattle.jser_verdict.specs.Verdicts.{content_reason, inner_reason}
use Rattle.jser_reader.specs.declared.machine.flow.Flow.{Flow}
use Rattle.jser_reader.specs.declared.machine.flow.Flow.TheVariants as flow
use Rattle.jser_reader.specs.declared.frame.Frame.TheVariants as frame
use Rattle.jser_reader.specs.declared.frame.Role.{Role}
use Rattle.jser_reader.specs.declared.phase.Phase.TheVariants as phase
use Rattle.jser_reader.specs.declared.tag.ValueTag.{ValueTag}
use Rattle.jser_reader.specs.declared.tag.ValueTag.TheVariants as value
use Rattle.jser_reader.specs.Tags.{view_tag, block_byte, IsTagOf}
use Rattle.jser_reader.specs.Stacks.{tail_of}
use Rattle.jser_reader.specs.Reasons.{named}
use Rattle.jser_reader.specs.Frames.{frame_goals}
use Rattle.jser_reader.specs.Readers.{Seen, Ready, block_phase, moment_of}
use Rattle.jser_reader.specs.Steps.{Kept, before_parts, PartGives, after_value}
use Rattle.jser_reader.specs.Handlers.{StopsWith, refusal, moved, Comes, Tells, IsNext, place_reason, after_tag, plain_gate, label_at, after_content, after_end, after_block_tag, tail_goals}
use Rattle.jser_reader.proofs.EndLemmas.{next_is, tells_next, tells_refusal}

-- bytes that are no tags
not_known : (b : ℕ) (l : Label) → (b < 0x70) ⊎ (0x7E < b) → (is_known_tag top_at b ≡ false) × (is_known_tag annotation_at b ≡ false) × (is_known_tag value_at b ≡ false)
not_known b l (inl h) = (grind (arith, nat_tests), grind (arith, nat_tests), grind (arith, nat_tests))
not_known b l (inr h) = (grind (arith, nat_tests), grind (arith, nat_tests), grind (arith, nat_tests))

pub no_top_tag : (b : ℕ) (found : Flow) (old new : Seen) (s : State) → IsTagOf b None → StopsWith (refusal old.meter (named bad_tag)) old new → found ≡ flow.Stopped
    → Tells (content_reason (plain_gate old) (label_at top_at 1 old) b) s found old new
no_top_tag b found old new s t h e =
    let k = (not_known b (label_at top_at 1 old) t).0 in
    tells_refusal bad_tag (content_reason (plain_gate old) (label_at top_at 1 old) b) s found old new h e (rw k refl)

pub no_note_tag : (b : ℕ) (found : Flow) (old new : Seen) (s : State) → IsTagOf b None → StopsWith (refusal old.meter (named bad_tag)) old new → found ≡ flow.Stopped
    → Tells (inner_reason (plain_gate old) (label_at annotation_at (suc (length old.frames)) old) b) s found old new
no_note_tag b found old new s t h e =
    let k = (not_known b (label_at annotation_at (suc (length old.frames)) old) t).1 in
    tells_refusal bad_tag (inner_reason (plain_gate old) (label_at annotation_at (suc (length old.frames)) old) b) s found old new h e (rw k refl)

pub no_value_tag : (b : ℕ) (found : Flow) (old new : Seen) (s : State) → IsTagOf b None → StopsWith (refusal old.meter (named bad_tag)) old new → found ≡ flow.Stopped
    → Tells (inner_reason (plain_gate old) (label_at value_at (suc (length old.frames)) old) b) s found old new
no_value_tag b found old new s t h e =
    let k = (not_known b (label_at value_at (suc (length old.frames)) old) t).2 in
    tells_refusal bad_tag (inner_reason (plain_gate old) (label_at value_at (suc (length old.frames)) old) b) s found old new h e (rw k refl)

-- tags of values

tag_told : (t : ValueTag) → tag_from (tag_byte (view_tag t)) ≡ Some (tag_token (view_tag t))
unfolding tag_from
tag_told value.Null = refl
tag_told value.Reference = refl
tag_told value.ClassDesc = refl
tag_told value.Object = refl
tag_told value.String = refl
tag_told value.LongString = refl
tag_told value.Array = refl
tag_told value.Class = refl
tag_told value.ProxyClassDesc = refl
tag_told value.Enum = refl

top_reason : (t : ValueTag) (r : Seen) → r.frames ≡ [] → content_reason (plain_gate r) (label_at top_at 1 r) (tag_byte (view_tag t)) ≡ place_reason r (view_tag t)
unfolding tag_from
top_reason value.Null r e = rw e refl
top_reason value.Reference r e = rw e refl
top_reason value.ClassDesc r e = rw e refl
top_reason value.Object r e = rw e refl
top_reason value.String r e = rw e refl
top_reason value.LongString r e = rw e refl
top_reason value.Array r e = rw e refl
top_reason value.Class r e = rw e refl
top_reason value.ProxyClassDesc r e = rw e refl
top_reason value.Enum r e = rw e refl

note_reason : (t : ValueTag) (r : Seen) → inner_reason (plain_gate r) (label_at annotation_at (suc (length r.frames)) r) (tag_byte (view_tag t)) ≡ place_reason r (view_tag t)
unfolding tag_from
note_reason value.Null r = refl
note_reason value.Reference r = refl
note_reason value.ClassDesc r = refl
note_reason value.Object r = refl
note_reason value.String r = refl
note_reason value.LongString r = refl
note_reason value.Array r = refl
note_reason value.Class r = refl
note_reason value.ProxyClassDesc r = refl
note_reason value.Enum r = refl

value_reason : (t : ValueTag) (r : Seen) → inner_reason (plain_gate r) (label_at value_at (suc (length r.frames)) r) (tag_byte (view_tag t)) ≡ place_reason r (view_tag t)
unfolding tag_from
value_reason value.Null r = refl
value_reason value.Reference r = refl
value_reason value.ClassDesc r = refl
value_reason value.Object r = refl
value_reason value.String r = refl
value_reason value.LongString r = refl
value_reason value.Array r = refl
value_reason value.Class r = refl
value_reason value.ProxyClassDesc r = refl
value_reason value.Enum r = refl

pub top_value : (t : ValueTag) (b : ℕ) (found : Flow) (old new : Seen) → b ≡ tag_byte (view_tag t) → old.frames ≡ []
    → Tells (place_reason old (view_tag t)) (after_tag old (view_tag t)) found old new
    → Tells (content_reason (plain_gate old) (label_at top_at 1 old) b) (after_content old (tag_from b)) found old new
top_value t b found old new e f h = rw e (rw (top_reason t old f) (rw (tag_told t) h))

pub note_value : (t : ValueTag) (b : ℕ) (found : Flow) (old new : Seen) → b ≡ tag_byte (view_tag t)
    → Tells (place_reason old (view_tag t)) (after_tag old (view_tag t)) found old new
    → Tells (inner_reason (plain_gate old) (label_at annotation_at (suc (length old.frames)) old) b) (after_content old (tag_from b)) found old new
note_value t b found old new e h = rw e (rw (note_reason t old) (rw (tag_told t) h))

pub value_value : (t : ValueTag) (b : ℕ) (found : Flow) (old new : Seen) → b ≡ tag_byte (view_tag t)
    → Tells (place_reason old (view_tag t)) (after_tag old (view_tag t)) found old new
    → Tells (inner_reason (plain_gate old) (label_at value_at (suc (length old.frames)) old) b) (after_content old (tag_from b)) found old new
value_value t b found old new e h = rw e (rw (value_reason t old) (rw (tag_told t) h))

-- tags of other contents

block_comes : (long : Bool) (old new : Seen) → IsNext (block_phase long) old.owner old.elements old.header old.text old new → Comes old new (after_block_tag old long)
unfolding Ready
block_comes false old new n = record { ready = rw (next_is phase.BlockLength1 old.owner old.elements old.header old.text old new n) refl; meter = n.meter; max = ap (λ t. t.max) n.table }
block_comes true old new n = record { ready = rw (next_is phase.BlockLength4 old.owner old.elements old.header old.text old new n) refl; meter = n.meter; max = ap (λ t. t.max) n.table }

pub top_block : (long : Bool) (b : ℕ) (found : Flow) (old new : Seen) → b ≡ block_byte long → IsNext (block_phase long) old.owner old.elements old.header old.text old new → found ≡ flow.On
    → Tells (content_reason (plain_gate old) (label_at top_at 1 old) b) (after_content old (tag_from b)) found old new
unfolding tag_from
top_block false b found old new e n ef = rw e (tells_next None (after_block_tag old false) found old new (block_comes false old new n) ef refl)
top_block true b found old new e n ef = rw e (tells_next None (after_block_tag old true) found old new (block_comes true old new n) ef refl)

pub note_block : (long : Bool) (b : ℕ) (found : Flow) (old new : Seen) → b ≡ block_byte long → IsNext (block_phase long) old.owner old.elements old.header old.text old new → found ≡ flow.On
    → Tells (inner_reason (plain_gate old) (label_at annotation_at (suc (length old.frames)) old) b) (after_content old (tag_from b)) found old new
unfolding tag_from
note_block false b found old new e n ef = rw e (tells_next None (after_block_tag old false) found old new (block_comes false old new n) ef refl)
note_block true b found old new e n ef = rw e (tells_next None (after_block_tag old true) found old new (block_comes true old new n) ef refl)

pub value_block : (long : Bool) (b : ℕ) (found : Flow) (s : State) (old new : Seen) → b ≡ block_byte long → StopsWith (refusal old.meter (named bad_tag)) old new → found ≡ flow.Stopped
    → Tells (inner_reason (plain_gate old) (label_at value_at (suc (length old.frames)) old) b) s found old new
value_block false b found s old new e h ef = rw e (tells_refusal bad_tag (Some bad_tag) s found old new h ef refl)
value_block true b found s old new e h ef = rw e (tells_refusal bad_tag (Some bad_tag) s found old new h ef refl)

pub top_end : (b : ℕ) (found : Flow) (s : State) (old new : Seen) → b ≡ 0x78 → StopsWith (refusal old.meter (named bad_tag)) old new → found ≡ flow.Stopped
    → Tells (content_reason (plain_gate old) (label_at top_at 1 old) b) s found old new
top_end b found s old new e h ef = rw e (tells_refusal bad_tag (Some bad_tag) s found old new h ef refl)

pub value_end : (b : ℕ) (found : Flow) (s : State) (old new : Seen) → b ≡ 0x78 → StopsWith (refusal old.meter (named bad_tag)) old new → found ≡ flow.Stopped
    → Tells (inner_reason (plain_gate old) (label_at value_at (suc (length old.frames)) old) b) s found old new
value_end b found s old new e h ef = rw e (tells_refusal bad_tag (Some bad_tag) s found old new h ef refl)

pub top_exception : (b : ℕ) (found : Flow) (s : State) (old new : Seen) → b ≡ 0x7B → StopsWith (refusal old.meter (named exception_tag)) old new → found ≡ flow.Stopped
    → Tells (content_reason (plain_gate old) (label_at top_at 1 old) b) s found old new
top_exception b found s old new e h ef = rw e (tells_refusal exception_tag (Some exception_tag) s found old new h ef refl)

pub note_exception : (b : ℕ) (found : Flow) (s : State) (old new : Seen) → b ≡ 0x7B → StopsWith (refusal old.meter (named exception_tag)) old new → found ≡ flow.Stopped
    → Tells (inner_reason (plain_gate old) (label_at annotation_at (suc (length old.frames)) old) b) s found old new
note_exception b found s old new e h ef = rw e (tells_refusal exception_tag (Some exception_tag) s found old new h ef refl)

pub value_exception : (b : ℕ) (found : Flow) (s : State) (old new : Seen) → b ≡ 0x7B → StopsWith (refusal old.meter (named exception_tag)) old new → found ≡ flow.Stopped
    → Tells (inner_reason (plain_gate old) (label_at value_at (suc (length old.frames)) old) b) s found old new
value_exception b found s old new e h ef = rw e (tells_refusal exception_tag (Some exception_tag) s found old new h ef refl)

pub note_reset : (b : ℕ) (found : Flow) (s : State) (old new : Seen) → b ≡ 0x79 → StopsWith (refusal old.meter (named reset_inside)) old new → found ≡ flow.Stopped
    → Tells (inner_reason (plain_gate old) (label_at annotation_at (suc (length old.frames)) old) b) s found old new
note_reset b found s old new e h ef = rw e (tells_refusal reset_inside (Some reset_inside) s found old new h ef refl)

pub value_reset : (b : ℕ) (found : Flow) (s : State) (old new : Seen) → b ≡ 0x79 → StopsWith (refusal old.meter (named reset_inside)) old new → found ≡ flow.Stopped
    → Tells (inner_reason (plain_gate old) (label_at value_at (suc (length old.frames)) old) b) s found old new
value_reset b found s old new e h ef = rw e (tells_refusal reset_inside (Some reset_inside) s found old new h ef refl)

pub top_reset : (b : ℕ) (found : Flow) (old new : Seen) → b ≡ 0x79 → Comes old new (after_content old (Some reset_tag_token)) → found ≡ flow.On
    → Tells (content_reason (plain_gate old) (label_at top_at 1 old) b) (after_content old (tag_from b)) found old new
unfolding tag_from
top_reset b found old new e h ef = rw e (tells_next None (after_content old (Some reset_tag_token)) found old new h ef refl)

pub note_end : (b : ℕ) (found : Flow) (old new : Seen) → b ≡ 0x78 → Comes old new (after_end old) → found ≡ flow.On
    → Tells (inner_reason (plain_gate old) (label_at annotation_at (suc (length old.frames)) old) b) (after_content old (tag_from b)) found old new
unfolding tag_from
note_end b found old new e h ef = rw e (tells_next None (after_end old) found old new h ef refl)

-- a reset
pub resets : (old mid new : Seen) → IsNext phase.Top mid.owner mid.elements mid.header mid.text mid new → old.frames ≡ []
    → mid.frames ≡ [] → mid.table.entries ≡ [] → mid.table.max ≡ old.table.max → mid.refs ≡ old.refs → mid.meter ≡ old.meter
    → Comes old new (after_content old (Some reset_tag_token))
unfolding Ready
resets old mid new n none ef et ex er em =
    record {
      ready = rw (next_is phase.Top mid.owner mid.elements mid.header mid.text mid new n) (rw none (rw ef (rw et (rw er (refl, refl)))));
      meter = n.meter ∙ ap moved em;
      max = ap (λ t. t.max) n.table ∙ ex;
    }

-- the end of an annotation

pub descriptor_ends : (old new : Seen) (number : ℕ) (r : Role) → IsNext phase.SuperTag old.owner old.elements old.header old.text old new
    → old.frames ≡ frame.Descriptor number r ∷ tail_of old.frames → Comes old new (after_end old)
unfolding Ready after_end
descriptor_ends old new number r n e =
    record { ready = rw (next_is phase.SuperTag old.owner old.elements old.header old.text old new n) (rw e (tt, refl)); meter = n.meter; max = ap (λ t. t.max) n.table }

pub external_ends : (old mid new : Seen) → Comes mid new (after_value mid) → old.frames ≡ frame.ExternalNotes ∷ tail_of old.frames
    → mid.frames ≡ tail_of old.frames → mid.layers ≡ old.layers → mid.table ≡ old.table → mid.refs ≡ old.refs → mid.meter ≡ old.meter
    → Comes old new (after_end old)
unfolding after_end after_value
external_ends old mid new h e ef ey et er em =
    let same : after_value mid ≡ after_end old =
    rw ef (rw ey (rw et (rw er (sym (ap (λ fs. settle (moment_of old) (tail_goals (frame_goals old.table.chains old.layers fs))) e))))) in
    record { ready = subst (Ready new) same h.ready; meter = h.meter ∙ ap moved em; max = h.max ∙ ap (λ t. t.max) et }

sections_left : (old : Seen) (last section : ℕ) → old.frames ≡ frame.Notes last section ∷ tail_of old.frames
    → after_end old ≡ before_parts old (tail_of old.frames) (section_parts (under old.table.chains last section))
unfolding after_end before_parts
sections_left old last section e = ap (λ fs. settle (moment_of old) (tail_goals (frame_goals old.table.chains old.layers fs))) e

same_parts : (old mid : Seen) (last section : ℕ) → mid.frames ≡ old.frames → mid.layers ≡ old.layers → mid.table ≡ old.table → mid.refs ≡ old.refs
    → before_parts mid (tail_of mid.frames) (section_parts (under mid.table.chains last section)) ≡ before_parts old (tail_of old.frames) (section_parts (under old.table.chains last section))
unfolding before_parts
same_parts old mid last section ef ey et er =
    ap (λ fs. settle (moment_of mid) (parts_goal (suc (length (tail_of fs))) (section_parts (under mid.table.chains last section)) ∷ frame_goals mid.table.chains mid.layers (tail_of fs))) ef
    ∙ ap (λ ls. settle (moment_of mid) (parts_goal (suc (length (tail_of old.frames))) (section_parts (under mid.table.chains last section)) ∷ frame_goals mid.table.chains ls (tail_of old.frames))) ey
    ∙ ap (λ T. settle (record { table = T.entries; places = mid.refs }) (parts_goal (suc (length (tail_of old.frames))) (section_parts (under T.chains last section)) ∷ frame_goals T.chains old.layers (tail_of old.frames))) et
    ∙ ap (λ k. settle (record { table = old.table.entries; places = k }) (parts_goal (suc (length (tail_of old.frames))) (section_parts (under old.table.chains last section)) ∷ frame_goals old.table.chains old.layers (tail_of old.frames))) er

pub section_ends : (old mid new : Seen) (last section : ℕ) (found : Bool) → PartGives found mid new (section_parts (under mid.table.chains last section)) → found ≡ true
    → old.frames ≡ frame.Notes last section ∷ tail_of old.frames
    → mid.frames ≡ old.frames → mid.layers ≡ old.layers → mid.table ≡ old.table → mid.refs ≡ old.refs → new.meter ≡ mid.meter → mid.meter ≡ moved old.meter
    → Comes old new (after_end old)
unfolding PartGives
section_ends old mid new last section false h ef0 e ef ey et er en em = absurd (cc)
section_ends old mid new last section true h ef0 e ef ey et er en em =
    record { ready = subst (Ready new) (same_parts old mid last section ef ey et er ∙ sym (sections_left old last section e)) h.0; meter = en ∙ em; max = ap (λ t. t.max) (h.1.table ∙ et) }

-- no section is left
pub sections_end : (old mid last_mid popped new : Seen) (last section : ℕ) (found : Bool) → PartGives found mid last_mid (section_parts (under mid.table.chains last section)) → found ≡ false
    → Ready new (after_value popped) → Kept popped new
    → old.frames ≡ frame.Notes last section ∷ tail_of old.frames
    → mid.frames ≡ old.frames → mid.layers ≡ old.layers → mid.table ≡ old.table → mid.refs ≡ old.refs → mid.meter ≡ moved old.meter
    → popped.frames ≡ tail_of last_mid.frames → popped.layers ≡ last_mid.layers → popped.table ≡ last_mid.table → popped.refs ≡ last_mid.refs → popped.meter ≡ last_mid.meter
    → new.meter ≡ popped.meter
    → Comes old new (after_end old)
unfolding PartGives after_value
sections_end old mid last_mid popped new last section true h ef0 ready kept e ef ey et er em pf py pt pr pm en = absurd (cc)
sections_end old mid last_mid popped new last section false h ef0 ready kept e ef ey et er em pf py pt pr pm en =
    let same = h.1 in
    let to_mid : after_value popped ≡ settle (moment_of mid) (frame_goals mid.table.chains mid.layers (tail_of mid.frames)) =
    rw pf (rw py (rw pt (rw pr (ap (λ r. settle (moment_of r) (frame_goals r.table.chains r.layers (tail_of r.frames))) same)))) in
    let goes = to_mid ∙ sym h.0 ∙ same_parts old mid last section ef ey et er ∙ sym (sections_left old last section e) in
    record { ready = subst (Ready new) goes ready; meter = en ∙ pm ∙ ap (λ r. r.meter) same ∙ em; max = ap (λ t. t.max) (kept.table ∙ pt ∙ ap (λ r. r.table) same ∙ et) }
