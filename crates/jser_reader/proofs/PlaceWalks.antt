-- Tags: what the verdict tells of the byte at a place, and the state to which it leads.
use Rattle.std.proofs.Common.{◌≡◌, ℕ, suc, true, List, [], ◌∷◌, length, Option, Some, None, refl, sym, ◌∙◌, ap, arith}
use Rattle.jser_reading.specs.Roles.{object_owner, array_owner, enum_owner, class_owner}
use Rattle.jser_reading.specs.Roles.{Owner as GoalOwner}
use Rattle.jser_reading.specs.Moments.{Moment, tick}
use Rattle.jser_reading.specs.Labels.{Tag, null_tag, reference_tag, class_desc_tag, object_tag, string_tag, array_tag, class_tag, long_string_tag, proxy_desc_tag, enum_tag, StreamToken, tag_token, block_tag_token, end_tag_token, reset_tag_token, Position, top_at, annotation_at, value_at, text_place_at, class_place_at, superclass_place_at}
use Rattle.jser_reading.specs.TokensFromBytes.{tag_from, size_in, token_in}
use Rattle.jser_reading.specs.Goals.{Goal, text_place_goal, class_goal, State, settled}
use Rattle.jser_reading.specs.Accepts.{label_of, AcceptsAt}
use Rattle.jser_reading.specs.Machine.{begin, advance}
use Rattle.jser_reading.proofs.PlainVerdict.{whole}
use Rattle.jser_verdict.specs.Gates.{Gate}
use Rattle.jser_verdict.specs.Verdicts.{content_reason, inner_reason, class_tag_reason, other_tag_reason}
use Rattle.jser_verdict.proofs.Completes.{IsToken, top_byte, annotation_byte, value_byte, object_byte, array_byte, enum_byte, class_byte, superclass_byte, text_place_byte}
use Rattle.jser_reader.specs.declared.machine.flow.Flow.{Flow}
use Rattle.jser_reader.specs.declared.frame.Frame.{Frame}
use Rattle.jser_reader.specs.declared.frame.Frame.TheVariants as frame
use Rattle.jser_reader.specs.declared.phase.Phase.TheVariants as phase
use Rattle.jser_reader.specs.declared.phase.TextFor.{TextFor}
use Rattle.jser_reader.specs.declared.phase.TextFor.TheVariants as text
use Rattle.jser_reader.specs.Frames.{goal_owner, chain_owner}
use Rattle.jser_reader.specs.Fitting.{HasDescriptor}
use Rattle.jser_reader.specs.Readers.{Seen, moment_of, depth_of, goals_of, text_depth, text_rest, IsForm, IsInside, HasNotes, HasPart, value_goals, superclass_goals, ReadyAt}
use Rattle.jser_reader.specs.Handlers.{Tells, plain_gate, label_at, begin_counted, begun, after_tag, after_content, after_end, after_class_tag, opens_class, opens_proxy, opens_text}
use Rattle.jser_reader.specs.Closing.{closed_state}
use Rattle.jser_reader.specs.Superclasses.{strict_in, super_reason, after_super_tag}
use Rattle.jser_reader.specs.TextStates.{after_text_tag}
use Rattle.jser_reader.specs.Walks.{gate_with, Takes, Counts, open_in, cut_in}
use Rattle.jser_reader.proofs.StandLemmas.{LeadsTo}
use Rattle.jser_reader.proofs.PhaseLemmas.{label_is}
use Rattle.jser_reader.proofs.FixedWalks.{IsJudged, byte_taken, phase_reason}

-- the tag of a value leads to what a handler does after it counted the place
begins : (d : ℕ) (m : Moment) (tag : Tag) (goals : List Goal) → begin d m tag goals ≡ begin_counted d (tick m) tag goals
begins d m null_tag goals = refl
begins d m reference_tag goals = refl
begins d m class_desc_tag goals = refl
begins d m proxy_desc_tag goals = refl
begins d m object_tag goals = refl
begins d m string_tag goals = refl
begins d m long_string_tag goals = refl
begins d m array_tag goals = refl
begins d m class_tag goals = refl
begins d m enum_tag goals = refl

tag_begins : (r : Seen) (tag : Tag) → settled (begin (depth_of r) (moment_of r) tag (goals_of r)) ≡ after_tag r tag
unfolding after_tag begun
tag_begins r tag = ap settled (begins (depth_of r) (moment_of r) tag (goals_of r))

-- one byte that is a tag the format takes there
byte_leads : (w : Position) (m : Moment) (s : State) (b : ℕ) (after : Option StreamToken → State) → (label_of s).position ≡ w → IsToken w m (b ∷ [])
    → ((f : StreamToken) → AcceptsAt w m f → settled (advance s f) ≡ after (Some f))
    → size_in w (b ∷ []) ≡ 1 → ((bytes : List ℕ) → token_in w (b ∷ []) ≡ tag_from b)
    → LeadsTo s (b ∷ []) (after (tag_from b))
byte_leads w m s b after ew x goes size tags =
    let f = x.0 in
    let found : token_in w (b ∷ []) ≡ Some f = ap (token_in w) x.1 ∙ (whole w m f x.2).found ∙ refl in
    record {
      token = f;
      enough = let k : size_in (label_of s).position (b ∷ []) ≡ 1 = ap (λ p. size_in p (b ∷ [])) ew ∙ size in omega arith;
      found = ap (λ p. token_in p (b ∷ [])) ew ∙ found;
      goes = goes f x.2 ∙ ap after (sym (sym (tags []) ∙ found));
    }

-- at the top

top_goes : (r : Seen) (f : StreamToken) → r.frames ≡ [] → AcceptsAt top_at (moment_of r) f
    → settled (advance (moment_of r, goals_of r) f) ≡ after_content r (Some f)
top_goes r (tag_token tag) e h = rw (← tag_begins r tag) (rw e refl)
top_goes r (block_tag_token long) e h = rw e refl
top_goes r reset_tag_token e h = rw e refl
top_goes r _ e h = absurd h

top_judged : (gate : Gate) (r : Seen) (b : ℕ) (s : State) → ReadyAt phase.Top r s → gate_with r gate.answer ≡ gate
    → IsJudged gate (content_reason (plain_gate r) (label_at top_at 1 r) b) (after_content r (tag_from b)) s (b ∷ [])
top_judged gate r b s h e = record {
  reason = phase_reason gate phase.Top r s (b ∷ []) tt h e;
  leads =
      λ k. byte_leads top_at (moment_of r) s b (after_content r) (ap (λ l. l.position) (label_is phase.Top r s tt h))
      (top_byte (plain_gate r) 1 (moment_of r) b k)
      (λ f a. ap (λ t. settled (advance t f)) state ∙ top_goes r f h.0 a) refl (λ _. refl);
}
  where
    state : s ≡ (moment_of r, goals_of r)
    state = rw h.0 h.1

pub top_taken : (gate : Gate) (b : ℕ) (found : Flow) (old mid new : Seen)
    → (mid.frames ≡ [] → Tells (content_reason (plain_gate mid) (label_at top_at 1 mid) b) (after_content mid (tag_from b)) found mid new)
    → old.phase ≡ phase.Top → Counts (b ∷ []) old mid
    → Takes gate (b ∷ []) found old new
top_taken gate b found old mid new h ep c =
    byte_taken gate phase.Top (content_reason (plain_gate mid) (label_at top_at 1 mid) b) (after_content mid (tag_from b)) found old mid new b
    (λ s r. h r.0) (λ s r e. top_judged gate mid b s r e) (ap (λ q. open_in q old.meter.cut_phase) ep) (ap (λ q. cut_in q old.meter.kept) ep) tt
    (λ e. absurd (cc)) c

-- in an annotation

note_goes : (r : Seen) (fs : List Frame) (f : StreamToken) → HasNotes fs → r.frames ≡ fs → AcceptsAt annotation_at (moment_of r) f
    → settled (advance (moment_of r, goals_of r) f) ≡ after_content r (Some f)
unfolding after_end
note_goes r (frame.Notes last section ∷ fs) (tag_token tag) n e h = rw (← tag_begins r tag) (rw e refl)
note_goes r (frame.Notes last section ∷ fs) (block_tag_token long) n e h = rw e refl
note_goes r (frame.Notes last section ∷ fs) end_tag_token n e h = rw e refl
note_goes r (frame.ExternalNotes ∷ fs) (tag_token tag) n e h = rw (← tag_begins r tag) (rw e refl)
note_goes r (frame.ExternalNotes ∷ fs) (block_tag_token long) n e h = rw e refl
note_goes r (frame.ExternalNotes ∷ fs) end_tag_token n e h = rw e refl
note_goes r (frame.Descriptor number role ∷ fs) (tag_token tag) n e h = rw (← tag_begins r tag) (rw e refl)
note_goes r (frame.Descriptor number role ∷ fs) (block_tag_token long) n e h = rw e refl
note_goes r (frame.Descriptor number role ∷ fs) end_tag_token n e h = rw e refl
note_goes r (frame.Elements left ∷ fs) f n e h = absurd n
note_goes r (frame.Fields last section pos prims values ∷ fs) f n e h = absurd n
note_goes r [] f n e h = absurd n
note_goes r (frame.Notes last section ∷ fs) _ n e h = absurd h
note_goes r (frame.ExternalNotes ∷ fs) _ n e h = absurd h
note_goes r (frame.Descriptor number role ∷ fs) _ n e h = absurd h

note_judged : (gate : Gate) (r : Seen) (b : ℕ) (s : State) → ReadyAt phase.Note r s → gate_with r gate.answer ≡ gate
    → IsJudged gate (inner_reason (plain_gate r) (label_at annotation_at (suc (length r.frames)) r) b) (after_content r (tag_from b)) s (b ∷ [])
note_judged gate r b s h e = record {
  reason = phase_reason gate phase.Note r s (b ∷ []) tt h e;
  leads =
      λ k. byte_leads annotation_at (moment_of r) s b (after_content r) (ap (λ l. l.position) (label_is phase.Note r s tt h))
      (annotation_byte (plain_gate r) (suc (length r.frames)) (moment_of r) b k)
      (λ f a. ap (λ t. settled (advance t f)) h.1 ∙ note_goes r r.frames f h.0 refl a) refl (λ _. refl);
}

pub note_taken : (gate : Gate) (b : ℕ) (found : Flow) (old mid new : Seen)
    → (HasNotes mid.frames → Tells (inner_reason (plain_gate mid) (label_at annotation_at (suc (length mid.frames)) mid) b) (after_content mid (tag_from b)) found mid new)
    → old.phase ≡ phase.Note → Counts (b ∷ []) old mid
    → Takes gate (b ∷ []) found old new
note_taken gate b found old mid new h ep c =
    byte_taken gate phase.Note (inner_reason (plain_gate mid) (label_at annotation_at (suc (length mid.frames)) mid) b) (after_content mid (tag_from b)) found old mid new b
    (λ s r. h r.0) (λ s r e. note_judged gate mid b s r e) (ap (λ q. open_in q old.meter.cut_phase) ep) (ap (λ q. cut_in q old.meter.kept) ep) tt
    (λ e. absurd (cc)) c

-- in a value place

value_goes : (r : Seen) (fs : List Frame) (f : StreamToken) → HasPart fs → r.frames ≡ fs → AcceptsAt value_at (moment_of r) f
    → settled (advance (moment_of r, value_goals r.table.chains r.layers r.frames) f) ≡ after_content r (Some f)
value_goes r (frame.Elements left ∷ fs) (tag_token tag) n e h = rw (← tag_begins r tag) (rw e refl)
value_goes r (frame.Fields last section pos prims values ∷ fs) (tag_token tag) n e h = rw (← tag_begins r tag) (rw e refl)
value_goes r (frame.Elements left ∷ fs) _ n e h = absurd h
value_goes r (frame.Fields last section pos prims values ∷ fs) _ n e h = absurd h
value_goes r (frame.Notes last section ∷ fs) f n e h = absurd n
value_goes r (frame.ExternalNotes ∷ fs) f n e h = absurd n
value_goes r (frame.Descriptor number role ∷ fs) f n e h = absurd n
value_goes r [] f n e h = absurd n

value_judged : (gate : Gate) (r : Seen) (b : ℕ) (s : State) → ReadyAt phase.Value r s → gate_with r gate.answer ≡ gate
    → IsJudged gate (inner_reason (plain_gate r) (label_at value_at (suc (length r.frames)) r) b) (after_content r (tag_from b)) s (b ∷ [])
value_judged gate r b s h e = record {
  reason = phase_reason gate phase.Value r s (b ∷ []) tt h e;
  leads =
      λ k. byte_leads value_at (moment_of r) s b (after_content r) (ap (λ l. l.position) (label_is phase.Value r s tt h))
      (value_byte (plain_gate r) (suc (length r.frames)) (moment_of r) b k)
      (λ f a. ap (λ t. settled (advance t f)) h.1 ∙ value_goes r r.frames f h.0 refl a) refl (λ _. refl);
}

pub value_taken : (gate : Gate) (b : ℕ) (found : Flow) (old mid new : Seen)
    → Tells (inner_reason (plain_gate mid) (label_at value_at (suc (length mid.frames)) mid) b) (after_content mid (tag_from b)) found mid new
    → old.phase ≡ phase.Value → Counts (b ∷ []) old mid
    → Takes gate (b ∷ []) found old new
value_taken gate b found old mid new h ep c =
    byte_taken gate phase.Value (inner_reason (plain_gate mid) (label_at value_at (suc (length mid.frames)) mid) b) (after_content mid (tag_from b)) found old mid new b
    (λ s r. h) (λ s r e. value_judged gate mid b s r e) (ap (λ q. open_in q old.meter.cut_phase) ep) (ap (λ q. cut_in q old.meter.kept) ep) tt
    (λ e. absurd (cc)) c

-- in a class place

class_goes : (r : Seen) (o : GoalOwner) (f : StreamToken) → goal_owner r.owner ≡ o → AcceptsAt (class_place_at o) (moment_of r) f
    → settled (advance (moment_of r, class_goal (goal_owner r.owner) (depth_of r) ∷ goals_of r) f) ≡ after_class_tag r (Some f)
unfolding opens_class opens_proxy
class_goes r o (tag_token reference_tag) e h = refl
class_goes r o (tag_token class_desc_tag) e h = refl
class_goes r o (tag_token proxy_desc_tag) e h = refl
class_goes r object_owner _ e h = absurd h
class_goes r array_owner _ e h = absurd h
class_goes r enum_owner _ e h = absurd h
class_goes r class_owner _ e h = absurd h

owner_token : (g : Gate) (d : ℕ) (m : Moment) (o : GoalOwner) (b : ℕ)
    → class_tag_reason g (record { position = class_place_at o; depth = d; moment = m }) o b ≡ None → IsToken (class_place_at o) m (b ∷ [])
owner_token g d m object_owner b h = object_byte g d m b h
owner_token g d m array_owner b h = array_byte g d m b h
owner_token g d m enum_owner b h = enum_byte g d m b h
owner_token g d m class_owner b h = class_byte g d m b h

class_judged : (gate : Gate) (r : Seen) (b : ℕ) (s : State) → ReadyAt phase.ClassTag r s → gate_with r gate.answer ≡ gate
    → IsJudged gate (class_tag_reason (plain_gate r) (label_at (class_place_at (goal_owner r.owner)) (suc (length r.frames)) r) (goal_owner r.owner) b)
    (after_class_tag r (tag_from b)) s (b ∷ [])
class_judged gate r b s h e = record {
  reason = phase_reason gate phase.ClassTag r s (b ∷ []) tt h e;
  leads =
      λ k. byte_leads (class_place_at (goal_owner r.owner)) (moment_of r) s b (after_class_tag r)
      (ap (λ l. l.position) (label_is phase.ClassTag r s tt h))
      (owner_token (plain_gate r) (suc (length r.frames)) (moment_of r) (goal_owner r.owner) b k)
      (λ f a. ap (λ t. settled (advance t f)) h ∙ class_goes r (goal_owner r.owner) f refl a) refl (λ _. refl);
}

pub class_tag_taken : (gate : Gate) (b : ℕ) (found : Flow) (old mid new : Seen)
    → Tells (class_tag_reason (plain_gate mid) (label_at (class_place_at (goal_owner mid.owner)) (suc (length mid.frames)) mid) (goal_owner mid.owner) b)
    (after_class_tag mid (tag_from b)) found mid new
    → old.phase ≡ phase.ClassTag → Counts (b ∷ []) old mid
    → Takes gate (b ∷ []) found old new
class_tag_taken gate b found old mid new h ep c =
    byte_taken gate phase.ClassTag (class_tag_reason (plain_gate mid) (label_at (class_place_at (goal_owner mid.owner)) (suc (length mid.frames)) mid) (goal_owner mid.owner) b)
    (after_class_tag mid (tag_from b)) found old mid new b
    (λ s r. h) (λ s r e. class_judged gate mid b s r e) (ap (λ q. open_in q old.meter.cut_phase) ep) (ap (λ q. cut_in q old.meter.kept) ep) tt
    (λ e. absurd (cc)) c

-- in a superclass place

super_goes : (r : Seen) (fs : List Frame) (f : StreamToken) → HasDescriptor fs → r.frames ≡ fs
    → AcceptsAt (superclass_place_at (chain_owner r.frames) (strict_in r.layers r.frames)) (moment_of r) f
    → settled (advance (moment_of r, superclass_goals r.table.chains r.layers r.frames) f) ≡ after_super_tag r (Some f)
unfolding closed_state opens_class opens_proxy
super_goes r (frame.Descriptor number role ∷ fs) (tag_token null_tag) n e h = rw e refl
super_goes r (frame.Descriptor number role ∷ fs) (tag_token reference_tag) n e h = rw e refl
super_goes r (frame.Descriptor number role ∷ fs) (tag_token class_desc_tag) n e h = rw e refl
super_goes r (frame.Descriptor number role ∷ fs) (tag_token proxy_desc_tag) n e h = rw e refl
super_goes r (frame.Descriptor number role ∷ fs) _ n e h = absurd h
super_goes r (frame.Elements left ∷ fs) f n e h = absurd n
super_goes r (frame.Fields last section pos prims values ∷ fs) f n e h = absurd n
super_goes r (frame.Notes last section ∷ fs) f n e h = absurd n
super_goes r (frame.ExternalNotes ∷ fs) f n e h = absurd n
super_goes r [] f n e h = absurd n

super_judged : (gate : Gate) (r : Seen) (b : ℕ) (s : State) → ReadyAt phase.SuperTag r s → gate_with r gate.answer ≡ gate
    → IsJudged gate (super_reason r b) (after_super_tag r (tag_from b)) s (b ∷ [])
super_judged gate r b s h e = record {
  reason = phase_reason gate phase.SuperTag r s (b ∷ []) tt h e;
  leads =
      λ k. byte_leads (superclass_place_at (chain_owner r.frames) (strict_in r.layers r.frames)) (moment_of r) s b (after_super_tag r)
      (ap (λ l. l.position) (label_is phase.SuperTag r s tt h))
      (superclass_byte (plain_gate r) (suc (length r.frames)) (moment_of r) (chain_owner r.frames) (strict_in r.layers r.frames) b k)
      (λ f a. ap (λ t. settled (advance t f)) h.1 ∙ super_goes r r.frames f h.0 refl a) refl (λ _. refl);
}

pub super_tag_taken : (gate : Gate) (b : ℕ) (found : Flow) (old mid new : Seen)
    → (HasDescriptor mid.frames → Tells (super_reason mid b) (after_super_tag mid (tag_from b)) found mid new)
    → old.phase ≡ phase.SuperTag → Counts (b ∷ []) old mid
    → Takes gate (b ∷ []) found old new
super_tag_taken gate b found old mid new h ep c =
    byte_taken gate phase.SuperTag (super_reason mid b) (after_super_tag mid (tag_from b)) found old mid new b
    (λ s r. h r.0) (λ s r e. super_judged gate mid b s r e) (ap (λ q. open_in q old.meter.cut_phase) ep) (ap (λ q. cut_in q old.meter.kept) ep) tt
    (λ e. absurd (cc)) c

-- in a text place, of an enum constant's name or a field's type

text_place_goes : (r : Seen) (t : TextFor) (f : StreamToken) → IsForm t true → r.text ≡ t → AcceptsAt text_place_at (moment_of r) f
    → settled (advance (moment_of r, text_place_goal (text_depth r r.text) ∷ text_rest r r.text) f) ≡ after_text_tag r (Some f)
unfolding opens_text
text_place_goes r text.Value (tag_token reference_tag) i e h = rw e refl
text_place_goes r text.Value (tag_token string_tag) i e h = rw e refl
text_place_goes r text.Value (tag_token long_string_tag) i e h = rw e refl
text_place_goes r text.FieldType (tag_token reference_tag) i e h = rw e refl
text_place_goes r text.FieldType (tag_token string_tag) i e h = rw e refl
text_place_goes r text.FieldType (tag_token long_string_tag) i e h = rw e refl
text_place_goes r (text.FieldName is_object) f i e h = absurd i
text_place_goes r text.ClassName f i e h = absurd i
text_place_goes r text.InterfaceName f i e h = absurd i
text_place_goes r text.Value _ i e h = absurd h
text_place_goes r text.FieldType _ i e h = absurd h

text_tag_judged : (gate : Gate) (r : Seen) (b : ℕ) (s : State) → ReadyAt phase.TextTag r s → gate_with r gate.answer ≡ gate
    → IsJudged gate (other_tag_reason (plain_gate r) (label_at text_place_at (text_depth r r.text) r) b) (after_text_tag r (tag_from b)) s (b ∷ [])
text_tag_judged gate r b s h e = record {
  reason = phase_reason gate phase.TextTag r s (b ∷ []) tt h e;
  leads =
      λ k. byte_leads text_place_at (moment_of r) s b (after_text_tag r) (ap (λ l. l.position) (label_is phase.TextTag r s tt h))
      (text_place_byte (plain_gate r) (text_depth r r.text) (moment_of r) b k)
      (λ f a. ap (λ t. settled (advance t f)) h.2 ∙ text_place_goes r r.text f h.0 refl a) refl (λ _. refl);
}

pub text_tag_taken : (gate : Gate) (b : ℕ) (found : Flow) (old mid new : Seen)
    → (IsForm mid.text true → IsInside mid.text mid.frames
    → Tells (other_tag_reason (plain_gate mid) (label_at text_place_at (text_depth mid mid.text) mid) b) (after_text_tag mid (tag_from b)) found mid new)
    → old.phase ≡ phase.TextTag → Counts (b ∷ []) old mid
    → Takes gate (b ∷ []) found old new
text_tag_taken gate b found old mid new h ep c =
    byte_taken gate phase.TextTag (other_tag_reason (plain_gate mid) (label_at text_place_at (text_depth mid mid.text) mid) b) (after_text_tag mid (tag_from b)) found old mid new b
    (λ s r. h r.0 r.1) (λ s r e. text_tag_judged gate mid b s r e) (ap (λ q. open_in q old.meter.cut_phase) ep) (ap (λ q. cut_in q old.meter.kept) ep) tt
    (λ e. absurd (cc)) c
