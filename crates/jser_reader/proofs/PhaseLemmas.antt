-- Which token the phase is: its label, and that fewer bytes than it has do not decide.
use Rattle.std.proofs.Common.{◌≡◌, ℕ, zero, suc, ◌+◌, ◌^◌, ◌<◌, ◌≤◌, Bool, true, false, List, [], ◌∷◌, ◌++◌, length, None, refl, sym, ◌∙◌, ap, subst, arith, length-append, ◌||◌}
use Rattle.jser_table.specs.Entries.{other_entry, chain_at}
use Rattle.jser_grammar.specs.Parts.{is_external}
use Rattle.jser_reading.specs.Roles.{object_owner, array_owner, enum_owner, class_owner}
use Rattle.jser_reading.specs.Moments.{Moment, assign, closing}
use Rattle.jser_reading.specs.Labels.{Position, nowhere, header_at, top_at, annotation_at, value_at, text_place_at, class_place_at, superclass_place_at, back_handle_at, text_handle_at, class_handle_at, superclass_handle_at, string_at, class_name_at, field_name_at, interface_name_at, suid_at, field_count_at, interface_count_at, array_length_at, flags_at, type_code_at, block_length_at, Label}
use Rattle.jser_reading.specs.TokensFromBytes.{size_in}
use Rattle.jser_reading.specs.Goals.{Part, raw_part, value_part, annotation_part, Goal, block_goal, parts_goal, made_goal, close_goal, fields_goal, interfaces_goal, State, object_parts, settle_parts, settle, settled}
use Rattle.jser_reading.specs.Accepts.{label_of}
use Rattle.jser_reading.specs.Scanner.{more, IsUndecided}
use Rattle.jser_verdict.specs.Reasons.{no_such_handle, handle_space}
use Rattle.jser_verdict.specs.Gates.{Gate}
use Rattle.jser_verdict.specs.BytesSoFar.{differs}
use Rattle.jser_verdict.specs.HandleRows.{is_no_handle}
use Rattle.jser_verdict.specs.Verdicts.{told_if, is_full, content_reason, inner_reason, class_tag_reason, other_tag_reason, text_handle_reason, class_handle_reason, superclass_handle_reason, count_reason, array_reason, flags_reason, code_reason, reason_at, verdict}
use Rattle.jser_verdict.proofs.Fronts.{byte_front, number_front}
use Rattle.jser_reader.specs.declared.frame.Frame.{Frame}
use Rattle.jser_reader.specs.declared.frame.Frame.TheVariants as frame
use Rattle.jser_reader.specs.declared.phase.Phase.{Phase}
use Rattle.jser_reader.specs.declared.phase.Phase.TheVariants as phase
use Rattle.jser_reader.specs.declared.phase.TextFor.{TextFor}
use Rattle.jser_reader.specs.declared.phase.TextFor.TheVariants as text
use Rattle.jser_reader.specs.Frames.{goal_owner, chain_owner}
use Rattle.jser_reader.specs.Readers.{Seen, Meter, moment_of, goals_of, head_role, top_role, fields_goals, text_depth, text_rest, text_goal, IsForm, HasNotes, HasPart, value_goals, superclass_goals, superclass_handle_goals, ReadyAt}
use Rattle.jser_reader.specs.Fitting.{HasDescriptor}
use Rattle.jser_reader.specs.Memory.{IsForgotten}
use Rattle.jser_reader.specs.Handlers.{label_at}
use Rattle.jser_reader.specs.Superclasses.{strict_in}
use Rattle.jser_reader.specs.Walks.{size_of_phase, IsRightSoFar, StandsAt, open_in, cut_in, open_phase, cut_of, Counts}
use Rattle.jser_reader.proofs.WalkLemmas.{verdict_more}
use Rattle.jser_reader.proofs.TextWalks.{IsTextAt}

-- a tag, a number or the header, but not the length of a text
abbrev pub IsFixed : Phase → Type 0
IsFixed phase.Length2 = ⊥
IsFixed phase.Length8 = ⊥
IsFixed phase.Text = ⊥
IsFixed phase.Prims = ⊥
IsFixed phase.Bytes = ⊥
IsFixed phase.Cut = ⊥
IsFixed phase.Stopped = ⊥
IsFixed _ = Unit {0}

-- the position and the depth of the token that a phase is
abbrev pub phase_position : Phase → Seen → Position
phase_position phase.Header r = header_at
phase_position phase.Top r = top_at
phase_position phase.Note r = annotation_at
phase_position phase.Value r = value_at
phase_position phase.ClassTag r = class_place_at (goal_owner r.owner)
phase_position phase.SuperTag r = superclass_place_at (chain_owner r.frames) (strict_in r.layers r.frames)
phase_position phase.TextTag r = text_place_at
phase_position phase.BackHandle r = back_handle_at
phase_position phase.ClassHandle r = class_handle_at (goal_owner r.owner)
phase_position phase.SuperHandle r = superclass_handle_at (chain_owner r.frames) (strict_in r.layers r.frames)
phase_position phase.TextHandle r = text_handle_at
phase_position phase.Suid r = suid_at
phase_position phase.Flags r = flags_at (top_role r.frames)
phase_position phase.FieldCount r = field_count_at
phase_position phase.TypeCode r = type_code_at r.header.seen
phase_position phase.InterfaceCount r = interface_count_at
phase_position phase.ArrayLength r = array_length_at
phase_position phase.BlockLength1 r = block_length_at false
phase_position phase.BlockLength4 r = block_length_at true
phase_position _ r = nowhere

abbrev pub phase_depth : Phase → Seen → ℕ
phase_depth phase.Header r = 0
phase_depth phase.Top r = 1
phase_depth phase.TextTag r = text_depth r r.text
phase_depth phase.TextHandle r = text_depth r r.text
phase_depth phase.Flags r = length r.frames
phase_depth phase.FieldCount r = length r.frames
phase_depth phase.TypeCode r = length r.frames
phase_depth phase.InterfaceCount r = length r.frames
phase_depth phase.BlockLength1 r = length r.frames
phase_depth phase.BlockLength4 r = length r.frames
phase_depth _ r = suc (length r.frames)

note_label : (r : Seen) (fs : List Frame) → HasNotes fs → r.frames ≡ fs → label_of (moment_of r, goals_of r) ≡ label_at annotation_at (suc (length r.frames)) r
note_label r (frame.Notes last section ∷ fs) h e = rw e refl
note_label r (frame.ExternalNotes ∷ fs) h e = rw e refl
note_label r (frame.Descriptor number role ∷ fs) h e = rw e refl
note_label r (frame.Elements left ∷ fs) h e = absurd h
note_label r (frame.Fields last section pos prims values ∷ fs) h e = absurd h
note_label r [] h e = absurd h

value_label : (r : Seen) (fs : List Frame) → HasPart fs → r.frames ≡ fs
    → label_of (moment_of r, value_goals r.table.chains r.layers r.frames) ≡ label_at value_at (suc (length r.frames)) r
value_label r (frame.Elements left ∷ fs) h e = rw e refl
value_label r (frame.Fields last section pos prims values ∷ fs) h e = rw e refl
value_label r (frame.Notes last section ∷ fs) h e = absurd h
value_label r (frame.ExternalNotes ∷ fs) h e = absurd h
value_label r (frame.Descriptor number role ∷ fs) h e = absurd h
value_label r [] h e = absurd h

super_label : (r : Seen) (fs : List Frame) → HasDescriptor fs → r.frames ≡ fs
    → label_of (moment_of r, superclass_goals r.table.chains r.layers r.frames) ≡ label_at (phase_position phase.SuperTag r) (suc (length r.frames)) r
super_label r (frame.Descriptor number role ∷ fs) h e = rw e refl
super_label r (frame.Elements left ∷ fs) h e = absurd h
super_label r (frame.Fields last section pos prims values ∷ fs) h e = absurd h
super_label r (frame.Notes last section ∷ fs) h e = absurd h
super_label r (frame.ExternalNotes ∷ fs) h e = absurd h
super_label r [] h e = absurd h

super_handle_label : (r : Seen) (fs : List Frame) → HasDescriptor fs → r.frames ≡ fs
    → label_of (moment_of r, superclass_handle_goals r.table.chains r.layers r.frames) ≡ label_at (phase_position phase.SuperHandle r) (suc (length r.frames)) r
super_handle_label r (frame.Descriptor number role ∷ fs) h e = rw e refl
super_handle_label r (frame.Elements left ∷ fs) h e = absurd h
super_handle_label r (frame.Fields last section pos prims values ∷ fs) h e = absurd h
super_handle_label r (frame.Notes last section ∷ fs) h e = absurd h
super_handle_label r (frame.ExternalNotes ∷ fs) h e = absurd h
super_handle_label r [] h e = absurd h

code_label : (r : Seen) (n : ℕ) → 0 < n → label_of (moment_of r, fields_goals r n) ≡ label_at (type_code_at r.header.seen) (length r.frames) r
code_label r zero h = absurd (omega arith)
code_label r (suc n) h = refl

-- the label of a tag or a number
pub label_is : (p : Phase) (r : Seen) (s : State) → IsFixed p → ReadyAt p r s → label_of s ≡ label_at (phase_position p r) (phase_depth p r) r
label_is phase.Header r s i h = ap label_of h.1
label_is phase.Top r s i h = ap label_of h.1
label_is phase.Note r s i h = ap label_of h.1 ∙ note_label r r.frames h.0 refl
label_is phase.Value r s i h = ap label_of h.1 ∙ value_label r r.frames h.0 refl
label_is phase.ClassTag r s i h = ap label_of h
label_is phase.SuperTag r s i h = ap label_of h.1 ∙ super_label r r.frames h.0 refl
label_is phase.TextTag r s i h = ap label_of h.2
label_is phase.BackHandle r s i h = ap label_of h
label_is phase.ClassHandle r s i h = ap label_of h
label_is phase.SuperHandle r s i h = ap label_of h.1 ∙ super_handle_label r r.frames h.0 refl
label_is phase.TextHandle r s i h = ap label_of h.2
label_is phase.Suid r s i h = ap label_of h
label_is phase.Flags r s i h = ap label_of h.1
label_is phase.FieldCount r s i h = ap label_of h.1
label_is phase.TypeCode r s i h = ap label_of h.2 ∙ code_label r r.header.fields h.1
label_is phase.InterfaceCount r s i h = ap label_of h.1
label_is phase.ArrayLength r s i h = ap label_of h.is
label_is phase.BlockLength1 r s i h = ap label_of h
label_is phase.BlockLength4 r s i h = ap label_of h
label_is phase.Length2 r s i h = absurd i
label_is phase.Length8 r s i h = absurd i
label_is phase.Text r s i h = absurd i
label_is phase.Prims r s i h = absurd i
label_is phase.Bytes r s i h = absurd i
label_is phase.Cut r s i h = absurd i
label_is phase.Stopped r s i h = absurd i

-- ---- fewer bytes than the token has do not decide

quiet_phase : (g : Gate) (l : Label) (p : Phase) (r : Seen) (bytes : List ℕ) → IsFixed p → length bytes < size_of_phase p → IsRightSoFar p bytes
    → reason_at g l (phase_position p r) bytes ≡ None
quiet_phase g l phase.Header r bytes i k right = rw right refl
quiet_phase g l phase.Top r bytes i k right = byte_front bytes (content_reason g l) k
quiet_phase g l phase.Note r bytes i k right = byte_front bytes (inner_reason g l) k
quiet_phase g l phase.Value r bytes i k right = byte_front bytes (inner_reason g l) k
quiet_phase g l phase.ClassTag r bytes i k right = byte_front bytes (class_tag_reason g l (goal_owner r.owner)) k
quiet_phase g l phase.SuperTag r bytes i k right = byte_front bytes (other_tag_reason g l) k
quiet_phase g l phase.TextTag r bytes i k right = byte_front bytes (other_tag_reason g l) k
quiet_phase g l phase.BackHandle r bytes i k right = number_front 4 bytes (λ n. told_if (is_no_handle l.moment.table n) no_such_handle None) k
quiet_phase g l phase.ClassHandle r bytes i k right = number_front 4 bytes (class_handle_reason g l (goal_owner r.owner)) k
quiet_phase g l phase.SuperHandle r bytes i k right =
    number_front 4 bytes (superclass_handle_reason g l (chain_owner r.frames) (strict_in r.layers r.frames)) k
quiet_phase g l phase.TextHandle r bytes i k right = number_front 4 bytes (text_handle_reason l) k
quiet_phase g l phase.Suid r bytes i k right = number_front 8 bytes (λ n. told_if (is_full g l) handle_space None) k
quiet_phase g l phase.Flags r bytes i k right = byte_front bytes (flags_reason (top_role r.frames)) k
quiet_phase g l phase.FieldCount r bytes i k right = number_front 2 bytes (count_reason (2 ^ 15)) k
quiet_phase g l phase.TypeCode r bytes i k right = byte_front bytes (code_reason r.header.seen) k
quiet_phase g l phase.InterfaceCount r bytes i k right = number_front 4 bytes (count_reason (2 ^ 31)) k
quiet_phase g l phase.ArrayLength r bytes i k right = number_front 4 bytes (array_reason g) k
quiet_phase g l phase.BlockLength1 r bytes i k right = refl
quiet_phase g l phase.BlockLength4 r bytes i k right = number_front 4 bytes (count_reason (2 ^ 31)) k
quiet_phase g l phase.Length2 r bytes i k right = absurd i
quiet_phase g l phase.Length8 r bytes i k right = absurd i
quiet_phase g l phase.Text r bytes i k right = absurd i
quiet_phase g l phase.Prims r bytes i k right = absurd i
quiet_phase g l phase.Bytes r bytes i k right = absurd i
quiet_phase g l phase.Cut r bytes i k right = absurd i
quiet_phase g l phase.Stopped r bytes i k right = absurd i

-- something is kept of it, or put into the table or on the stack
pub not_forgotten : (p : Phase) (r : Seen) → IsFixed p → IsForgotten (phase_position p r) → ⊥
not_forgotten phase.Length2 r i k = absurd i
not_forgotten phase.Length8 r i k = absurd i
not_forgotten phase.Text r i k = absurd i
not_forgotten phase.Prims r i k = absurd i
not_forgotten phase.Bytes r i k = absurd i
not_forgotten phase.Cut r i k = absurd i
not_forgotten phase.Stopped r i k = absurd i
not_forgotten _ r i k = k

pub size_of_fixed : (p : Phase) (r : Seen) (bytes : List ℕ) → IsFixed p → size_in (phase_position p r) bytes ≡ size_of_phase p
size_of_fixed phase.Length2 r bytes i = absurd i
size_of_fixed phase.Length8 r bytes i = absurd i
size_of_fixed phase.Text r bytes i = absurd i
size_of_fixed phase.Prims r bytes i = absurd i
size_of_fixed phase.Bytes r bytes i = absurd i
size_of_fixed phase.Cut r bytes i = absurd i
size_of_fixed phase.Stopped r bytes i = absurd i
size_of_fixed _ r bytes i = refl

pub short_fixed : (g : Gate) (p : Phase) (r : Seen) (l : Label) (bytes : List ℕ) → IsFixed p → l.position ≡ phase_position p r
    → length bytes < size_of_phase p → IsRightSoFar p bytes → verdict g l bytes ≡ more
short_fixed g p r l bytes i e k right =
    let quiet = subst (λ w. reason_at g l w bytes ≡ None) (sym e) (quiet_phase g l p r bytes i k right) in
    let size : size_in l.position bytes ≡ size_of_phase p = ap (λ w. size_in w bytes) e ∙ size_of_fixed p r bytes i in
    verdict_more g l bytes quiet (omega arith)

-- ---- texts: the number of fields and of interfaces that are left is not 0 where one comes next

abbrev NoneIsZero : List Goal → Type 0
NoneIsZero (fields_goal role d number kind flags seen codes zero ∷ gs) = ⊥
NoneIsZero (interfaces_goal role d number zero ∷ gs) = ⊥
NoneIsZero _ = Unit {0}

parts_settled : (d : ℕ) (parts : List Part) (m : Moment) (gs : List Goal) (s : State) → NoneIsZero s.1 → NoneIsZero (settle_parts d parts m gs s).1
parts_settled d [] m gs s h = h
parts_settled d (raw_part c zero ∷ parts) m gs s h = parts_settled d parts m gs s h
parts_settled d (raw_part c (suc n) ∷ parts) m gs s h = tt
parts_settled d (value_part ∷ parts) m gs s h = tt
parts_settled d (annotation_part ∷ parts) m gs s h = tt

settled_goals : (gs : List Goal) (m : Moment) → NoneIsZero (settle m gs).1
settled_goals [] m = tt
settled_goals (block_goal d zero ∷ gs) m = settled_goals gs m
settled_goals (block_goal d (suc n) ∷ gs) m = tt
settled_goals (parts_goal d parts ∷ gs) m = parts_settled d parts m gs (settle m gs) (settled_goals gs m)
settled_goals (made_goal object_owner d number ∷ gs) m =
    parts_settled d (object_parts (is_external (chain_at m.table number)) (chain_at m.table number)) (assign m other_entry) gs
    (settle (assign m other_entry) gs) (settled_goals gs (assign m other_entry))
settled_goals (made_goal array_owner d number ∷ gs) m = tt
settled_goals (made_goal enum_owner d number ∷ gs) m = tt
settled_goals (made_goal class_owner d number ∷ gs) m = settled_goals gs (assign m other_entry)
settled_goals (close_goal number parent l ∷ gs) m = settled_goals gs (closing m number (chain_at m.table parent ++ (l ∷ [])))
settled_goals (fields_goal role d number kind flags seen codes zero ∷ gs) m = tt
settled_goals (fields_goal role d number kind flags seen codes (suc n) ∷ gs) m = tt
settled_goals (interfaces_goal role d number zero ∷ gs) m = tt
settled_goals (interfaces_goal role d number (suc n) ∷ gs) m = tt
settled_goals (g ∷ gs) m = tt

settled_state : (s : State) → NoneIsZero (settled s).1
settled_state (m, gs) = settled_goals gs m

abbrev pub text_position : Seen → TextFor → (long : Bool) → Position
text_position r text.Value long = string_at long
text_position r text.FieldType long = string_at long
text_position r (text.FieldName is_object) long = field_name_at
text_position r text.ClassName long = class_name_at (head_role r)
text_position r text.InterfaceName long = interface_name_at

-- the token is the text that the machine holds it for
pub record IsTextOf (r : Seen) (long : Bool) (s : State) : Type 0 where
  pub position : (label_of s).position ≡ text_position r r.text long
  pub is_text : IsTextAt long (label_of s).position
  pub some : r.text ≡ text.InterfaceName → 0 < r.header.interfaces

text_at : (t : TextFor) (r : Seen) (long : Bool) → IsForm t long → NoneIsZero (text_goal r t long ∷ text_rest r t)
    → ((label_of (moment_of r, text_goal r t long ∷ text_rest r t)).position ≡ text_position r t long) × IsTextAt long (text_position r t long)
    × (t ≡ text.InterfaceName → 0 < r.header.interfaces)
text_at text.Value r true f h = (refl, tt, λ e. absurd (cc))
text_at text.Value r false f h = (refl, tt, λ e. absurd (cc))
text_at text.FieldType r true f h = (refl, tt, λ e. absurd (cc))
text_at text.FieldType r false f h = (refl, tt, λ e. absurd (cc))
text_at (text.FieldName is_object) r false f h = (refl, tt, λ e. absurd (cc))
text_at (text.FieldName is_object) r true f h = absurd f
text_at text.ClassName r false f h = (refl, tt, λ e. absurd (cc))
text_at text.ClassName r true f h = absurd f
text_at text.InterfaceName r true f h = absurd f
text_at text.InterfaceName r false f h = go r.header.interfaces refl h
  where
    go : (n : ℕ) → r.header.interfaces ≡ n → NoneIsZero (text_goal r text.InterfaceName false ∷ text_rest r text.InterfaceName)
        → ((label_of (moment_of r, text_goal r text.InterfaceName false ∷ text_rest r text.InterfaceName)).position ≡ interface_name_at)
        × IsTextAt false interface_name_at × (text.InterfaceName ≡ text.InterfaceName → 0 < r.header.interfaces)
    go zero e h = absurd (rw e at h)
    go (suc n) e h = (rw e refl, tt, λ _. omega (arith, e))

pub text_is : (r : Seen) (long : Bool) (s : State) → IsForm r.text long → settled s ≡ (moment_of r, text_goal r r.text long ∷ text_rest r r.text)
    → IsTextOf r long (settled s)
text_is r long s f e =
    let x = text_at r.text r long f (subst (λ t. NoneIsZero t.1) e (settled_state s)) in
    let p : (label_of (settled s)).position ≡ text_position r r.text long = ap (λ t. (label_of t).position) e ∙ x.0 in
    record { position = p; is_text = subst (IsTextAt long) (sym p) x.1; some = x.2 }

-- ---- the token that is open

pub record IsOpenAt (p : Phase) (r : Seen) (s : State) (cut : List ℕ) : Type 0 where
  pub ready : ReadyAt p r s
  pub cut_is : cut ≡ cut_in r.phase r.meter.kept
  pub short : length cut < size_of_phase p
  pub right : IsRightSoFar p cut

open_at : (q : Phase) (r : Seen) (s : State) (cut : List ℕ) → r.phase ≡ q → StandsAt q r s cut → 0 < size_of_phase (open_in q r.meter.cut_phase)
    → IsOpenAt (open_in q r.meter.cut_phase) r s cut
open_at phase.Cut r s cut eq h some = record { ready = h.ready; cut_is = rw eq h.cut_is; short = h.short; right = h.right }
open_at phase.Text r s cut eq h some = absurd (omega arith)
open_at phase.Prims r s cut eq h some = absurd (omega arith)
open_at phase.Bytes r s cut eq h some = absurd (omega arith)
open_at phase.Stopped r s cut eq h some = absurd h
open_at phase.Header r s cut eq h some = record { ready = h.0; cut_is = rw eq h.1; short = rw h.1 (omega arith); right = rw h.1 refl }
open_at q r s cut eq h some = record { ready = h.0; cut_is = rw eq h.1; short = rw h.1 (omega arith); right = tt }

pub is_open : (p : Phase) (r : Seen) (s : State) (cut : List ℕ) → StandsAt r.phase r s cut → open_in r.phase r.meter.cut_phase ≡ p
    → 0 < size_of_phase p → IsOpenAt p r s cut
is_open p r s cut h e some =
    subst (λ q. IsOpenAt q r s cut) e (open_at r.phase r s cut refl h (subst (λ q. 0 < size_of_phase q) (sym e) some))

-- a token that is not cut

whole_open_at : (p cut_phase : Phase) (kept : List ℕ) → 0 < size_of_phase p → (open_in p cut_phase ≡ p) × (cut_in p kept ≡ [])
whole_open_at phase.Cut cut_phase kept some = absurd (omega arith)
whole_open_at phase.Top cut_phase kept some = (refl, refl)
whole_open_at _ cut_phase kept some = (refl, refl)

pub whole_open : (p : Phase) (r : Seen) → r.phase ≡ p → 0 < size_of_phase p → (open_phase r ≡ p) × (cut_of r ≡ [])
whole_open p r e some =
    let x = whole_open_at p r.meter.cut_phase r.meter.kept some in
    (ap (λ q. open_in q r.meter.cut_phase) e ∙ x.0, ap (λ q. cut_in q r.meter.kept) e ∙ x.1)

-- and one that is
pub cut_open : (r : Seen) → r.phase ≡ phase.Cut → (open_phase r ≡ r.meter.cut_phase) × (cut_of r ≡ r.meter.kept)
cut_open r e = (ap (λ q. open_in q r.meter.cut_phase) e, ap (λ q. cut_in q r.meter.kept) e)

-- ---- bytes that were counted

abbrev pub same_but : Seen → Meter → Phase → ℕ → Seen → Seen
same_but r meter phase left mid = record {
  meter = meter;
  phase = phase;
  frames = r.frames;
  layers = r.layers;
  table = r.table;
  refs = r.refs;
  owner = r.owner;
  elements = r.elements;
  header = r.header;
  text = r.text;
  left = left;
  scan = mid.scan;
  name = mid.name;
}

pub counted_is : (bytes : List ℕ) (old mid : Seen) → Counts bytes old mid → mid ≡ same_but old mid.meter mid.phase mid.left mid
counted_is bytes old mid c =
    rw (← c.frames) (rw (← c.layers) (rw (← c.table) (rw (← c.refs) (rw (← c.owner) (rw (← c.elements) (rw (← c.header) (rw (← c.text) refl)))))))

same_ready : (p : Phase) (r mid : Seen) (meter : Meter) (q : Phase) (left : ℕ) (s : State) → 0 < size_of_phase p → ReadyAt p r s
    → ReadyAt p (same_but r meter q left mid) s
same_ready phase.Text r mid meter q left s some h = absurd h
same_ready phase.Prims r mid meter q left s some h = absurd (omega arith)
same_ready phase.Bytes r mid meter q left s some h = absurd (omega arith)
same_ready phase.Cut r mid meter q left s some h = absurd h
same_ready phase.Stopped r mid meter q left s some h = absurd h
same_ready phase.ArrayLength r mid meter q left s some h = record { elements = h.elements; is = h.is; size = h.size }
same_ready _ r mid meter q left s some h = h

-- a tag or a number that was ready is so still
pub ready_counted : (p : Phase) (bytes : List ℕ) (old mid : Seen) (s : State) → Counts bytes old mid → 0 < size_of_phase p → ReadyAt p old s
    → ReadyAt p mid s
ready_counted p bytes old mid s c some h =
    subst (λ r. ReadyAt p r s) (sym (counted_is bytes old mid c)) (same_ready p old mid mid.meter mid.phase mid.left s some h)

-- ---- no front decides

pub differs_less : (xs a b : List ℕ) → differs xs (a ++ b) ≡ false → differs xs a ≡ false
differs_less [] a b e = none a
  where
    none : (a : List ℕ) → differs [] a ≡ false
    none [] = refl
    none (y ∷ a) = refl
differs_less (x ∷ xs) [] b e = refl
differs_less (x ∷ xs) (y ∷ a) b e = both _ (differs xs (a ++ b)) (differs xs a) e (differs_less xs a b)
  where
    both : (p q q' : Bool) → (p || q) ≡ false → (q ≡ false → q' ≡ false) → (p || q') ≡ false
    both true q q' e k = e
    both false q q' e k = k e

-- the bytes of a token up to some that were right so far
pub fixed_undecided : (g : Gate) (p : Phase) (r : Seen) (s : State) (bytes : List ℕ) → IsFixed p → ReadyAt p r s
    → length bytes ≤ size_of_phase p → ((a : List ℕ) (c : ℕ) (d : List ℕ) → bytes ≡ a ++ (c ∷ d) → IsRightSoFar p a)
    → IsUndecided (verdict g) (label_of s) bytes
fixed_undecided g p r s bytes i h k right a c d e =
    let n : length bytes ≡ length a + suc (length d) = ap length e ∙ length-append a (c ∷ d) in
    short_fixed g p r (label_of s) a i (ap (λ l. l.position) (label_is p r s i h)) (omega arith) (right a c d e)
