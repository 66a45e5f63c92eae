-- Numbers: what the verdict tells of the bytes of a number, and the state to which it leads.
use Rattle.std.proofs.Common.{◌≡◌, ℕ, zero, suc, ◌+◌, ◌-◌, ◌*◌, ◌^◌, ◌<◌, true, false, if◌then◌else◌, List, [], ◌∷◌, ◌++◌, length, Option, Some, None, refl, sym, ◌∙◌, ap, subst, arith, option_map}
use Rattle.jser_prim.specs.Bytes.{big_bytes}
use Rattle.jser_table.specs.Codes.{PrimCode, size_of}
use Rattle.jser_table.specs.Entries.{chain_at}
use Rattle.jser_reading.specs.Labels.{StreamToken, handle_token, suid_token, flags_token, field_count_token, interface_count_token, array_length_token, code_token, block_length_token, class_handle_at, text_handle_at}
use Rattle.jser_reading.specs.TokensFromBytes.{number_of, size_in, token_in}
use Rattle.jser_reading.specs.Goals.{class_handle_goal, State, settle, settled}
use Rattle.jser_reading.specs.Accepts.{label_of}
use Rattle.jser_reading.specs.Machine.{advance}
use Rattle.jser_reading.proofs.Decoding.{number_2, number_4, number_8, length-big_bytes}
use Rattle.jser_verdict.specs.Reasons.{Reason, handle_space}
use Rattle.jser_verdict.specs.Gates.{Gate}
use Rattle.jser_verdict.specs.Verdicts.{told_if, on_number, class_handle_reason, text_handle_reason, count_reason, array_reason, flags_reason, code_reason, reason_at}
use Rattle.jser_verdict.proofs.Fronts.{same_equal}
use Rattle.jser_reader.specs.declared.machine.flow.Flow.{Flow}
use Rattle.jser_reader.specs.declared.frame.Frame.{Frame}
use Rattle.jser_reader.specs.declared.frame.Frame.TheVariants as frame
use Rattle.jser_reader.specs.declared.frame.Owner.{Owner}
use Rattle.jser_reader.specs.declared.frame.Owner.TheVariants as owner
use Rattle.jser_reader.specs.declared.phase.Phase.{Phase}
use Rattle.jser_reader.specs.declared.phase.Phase.TheVariants as phase
use Rattle.jser_reader.specs.Frames.{goal_owner}
use Rattle.jser_reader.specs.Readers.{Seen, moment_of, depth_of, goals_of, top_role, fields_goals, field_count_state, text_depth, text_rest, IsForm, IsInside, LengthReady, superclass_handle_goals, ReadyAt}
use Rattle.jser_reader.specs.Fitting.{HasDescriptor}
use Rattle.jser_reader.specs.Closing.{closed_state}
use Rattle.jser_reader.specs.Superclasses.{super_handle_reason}
use Rattle.jser_reader.specs.Descriptors.{after_suid, after_field_count, after_code, after_interfaces}
use Rattle.jser_reader.specs.Numbers.{back_reason, after_length, after_block_length}
use Rattle.jser_reader.specs.Steps.{after_value}
use Rattle.jser_reader.specs.Handlers.{Tells, TellsSurely, is_full, plain_gate, label_at, object_state, owner_state}
use Rattle.jser_reader.specs.Walks.{gate_with, size_of_phase, Counts, Takes, open_in, cut_in, open_phase, cut_of}
use Rattle.jser_reader.proofs.StandLemmas.{tells_surely}
use Rattle.jser_reader.proofs.PhaseLemmas.{IsFixed, phase_position, phase_depth, label_is, size_of_fixed, is_open, ready_counted}
use Rattle.jser_reader.proofs.FixedWalks.{IsJudged, fixed_took, fixed_taken, byte_taken, right_but_header, phase_reason}

-- these bytes are the number
pub record IsNumber (k n : ℕ) (bytes : List ℕ) : Type 0 where
  pub spelled : big_bytes k n ≡ bytes
  pub number : number_of bytes ≡ n

pub number_in_2 : (n : ℕ) (bytes : List ℕ) → big_bytes 2 n ≡ bytes → n < 2 ^ 16 → IsNumber 2 n bytes
number_in_2 n bytes e h = record { spelled = e; number = ap number_of (sym e) ∙ number_2 n h }

pub number_in_4 : (n : ℕ) (bytes : List ℕ) → big_bytes 4 n ≡ bytes → n < 2 ^ 32 → IsNumber 4 n bytes
number_in_4 n bytes e h = record { spelled = e; number = ap number_of (sym e) ∙ number_4 n h }

pub number_in_8 : (n : ℕ) (bytes : List ℕ) → big_bytes 8 n ≡ bytes → n < 2 ^ 64 → IsNumber 8 n bytes
number_in_8 n bytes e h = record { spelled = e; number = ap number_of (sym e) ∙ number_8 n h }

pub number_long : (k n : ℕ) (bytes : List ℕ) → IsNumber k n bytes → length bytes ≡ k
number_long k n bytes h = ap length (sym h.spelled) ∙ length-big_bytes k n

-- it was in the piece, or the first of its bytes were kept
pub number_at : (k n : ℕ) (r : Seen) (kept taken : List ℕ) → cut_of r ≡ kept → IsNumber k n (kept ++ taken) → IsNumber k n (cut_of r ++ taken)
number_at k n r kept taken e h = subst (λ c. IsNumber k n (c ++ taken)) (sym e) h

-- what is told of a number
pub on_whole : (k n : ℕ) (bytes : List ℕ) (tell : ℕ → Option Reason) → IsNumber k n bytes → on_number k bytes tell ≡ tell n
on_whole k n bytes tell h =
    ap (λ x. if x then tell (number_of bytes) else None) (same_equal (length bytes) k (number_long k n bytes h)) ∙ ap tell h.number

-- the number of a phase, with what its handler told, from the reason at its position and the token that it is
pub number_judged : (gate : Gate) (p : Phase) (r : Seen) (s : State) (n : ℕ) (bytes : List ℕ) (told : Option Reason) (next : State) (f : StreamToken)
    → IsFixed p → ReadyAt p r s → gate_with r gate.answer ≡ gate → IsNumber (size_of_phase p) n bytes
    → reason_at (plain_gate r) (label_at (phase_position p r) (phase_depth p r) r) (phase_position p r) bytes ≡ told
    → token_in (phase_position p r) bytes ≡ Some f → (told ≡ None → settled (advance s f) ≡ next)
    → IsJudged gate told next s bytes
number_judged gate p r s n bytes told next f i h e b er ef goes =
    let w : (label_of s).position ≡ phase_position p r = ap (λ l. l.position) (label_is p r s i h) in
    record {
      reason = phase_reason gate p r s bytes i h e ∙ er;
      leads =
          λ k. record {
            token = f;
            enough =
                let size : size_in (label_of s).position bytes ≡ size_of_phase p = ap (λ x. size_in x bytes) w ∙ size_of_fixed p r bytes i in
                let l = number_long (size_of_phase p) n bytes b in
                omega arith;
            found = ap (λ x. token_in x bytes) w ∙ ef;
            goes = goes k;
          };
    }

-- a token of one byte is judged
pub byte_judged : (gate : Gate) (p : Phase) (r : Seen) (s : State) (b : ℕ) (told : Option Reason) (next : State) (f : StreamToken)
    → IsFixed p → ReadyAt p r s → gate_with r gate.answer ≡ gate → size_of_phase p ≡ 1
    → reason_at (plain_gate r) (label_at (phase_position p r) (phase_depth p r) r) (phase_position p r) (b ∷ []) ≡ told
    → token_in (phase_position p r) (b ∷ []) ≡ Some f → (told ≡ None → settled (advance s f) ≡ next)
    → IsJudged gate told next s (b ∷ [])
byte_judged gate p r s b told next f i h e one er ef goes =
    let w : (label_of s).position ≡ phase_position p r = ap (λ l. l.position) (label_is p r s i h) in
    record {
      reason = phase_reason gate p r s (b ∷ []) i h e ∙ er;
      leads =
          λ k. record {
            token = f;
            enough =
                let size : size_in (label_of s).position (b ∷ []) ≡ size_of_phase p = ap (λ x. size_in x (b ∷ [])) w ∙ size_of_fixed p r (b ∷ []) i in
                omega arith;
            found = ap (λ x. token_in x (b ∷ [])) w ∙ ef;
            goes = goes k;
          };
    }

-- a number ends, whole in a piece or after what was kept of it
pub number_taken : (gate : Gate) (p : Phase) (n : ℕ) (told : Option Reason) (next : State) (found : Flow) (old mid new : Seen) (taken : List ℕ)
    → ((s : State) → ReadyAt p mid s → Tells told next found mid new)
    → ((s : State) → ReadyAt p mid s → gate_with mid gate.answer ≡ gate → IsJudged gate told next s (cut_of old ++ taken))
    → open_phase old ≡ p → IsFixed p → (p ≡ phase.Header → ⊥) → 0 < length taken → IsNumber (size_of_phase p) n (cut_of old ++ taken)
    → Counts taken old mid
    → Takes gate taken found old new
number_taken gate p n told next found old mid new taken h j eo i other some b c =
    fixed_taken gate p told next found old mid new taken h j eo i some
    (let l = number_long (size_of_phase p) n (cut_of old ++ taken) b in omega arith)
    (λ _ a c d e. right_but_header p a other) c

-- ---- handles

-- the handle of a reference in a value place
pub back_handle_taken : (gate : Gate) (n : ℕ) (found : Flow) (old mid new : Seen) (taken : List ℕ)
    → TellsSurely (back_reason mid n) (after_value mid) found mid new
    → open_phase old ≡ phase.BackHandle → 0 < length taken → IsNumber 4 n (cut_of old ++ taken)
    → Counts taken old mid → Takes gate taken found old new
unfolding after_value
back_handle_taken gate n found old mid new taken h ep some b c =
    number_taken gate phase.BackHandle n (back_reason mid n) (after_value mid) found old mid new taken
    (λ s r. tells_surely (back_reason mid n) (after_value mid) found mid new h)
    (λ s r e. number_judged gate phase.BackHandle mid s n (cut_of old ++ taken) (back_reason mid n) (after_value mid)
    (handle_token (n - 0x7E0000)) tt r e b (on_whole 4 n (cut_of old ++ taken) (back_reason mid) b)
    (ap (λ k. Some (handle_token (k - 0x7E0000))) b.number) (λ _. ap (λ t. settled (advance t (handle_token (n - 0x7E0000)))) r))
    ep tt (λ e. absurd (cc)) some b c

-- the handle of a reference in a class place
class_handle_goes : (r : Seen) (o : Owner) (k : ℕ) → r.owner ≡ o
    → settled (advance (moment_of r, class_handle_goal (goal_owner r.owner) (depth_of r) ∷ goals_of r) (handle_token k)) ≡ owner_state r (chain_at r.table.entries k)
unfolding owner_state object_state
class_handle_goes r owner.Object k e = rw e refl
class_handle_goes r owner.Array k e = rw e refl
class_handle_goes r owner.EnumConst k e = rw e refl
class_handle_goes r owner.ClassObject k e = rw e refl

pub class_handle_taken : (gate : Gate) (n : ℕ) (found : Flow) (old mid new : Seen) (taken : List ℕ)
    → Tells (class_handle_reason (plain_gate mid) (label_at (class_handle_at (goal_owner mid.owner)) (suc (length mid.frames)) mid) (goal_owner mid.owner) n)
    (owner_state mid (chain_at mid.table.entries (n - 0x7E0000))) found mid new
    → open_phase old ≡ phase.ClassHandle → 0 < length taken → IsNumber 4 n (cut_of old ++ taken)
    → Counts taken old mid → Takes gate taken found old new
class_handle_taken gate n found old mid new taken h ep some b c =
    let told = class_handle_reason (plain_gate mid) (label_at (class_handle_at (goal_owner mid.owner)) (suc (length mid.frames)) mid) (goal_owner mid.owner) n in
    let next = owner_state mid (chain_at mid.table.entries (n - 0x7E0000)) in
    number_taken gate phase.ClassHandle n told next found old mid new taken (λ s r. h)
    (λ s r e. number_judged gate phase.ClassHandle mid s n (cut_of old ++ taken) told next (handle_token (n - 0x7E0000)) tt r e b
    (on_whole 4 n (cut_of old ++ taken)
    (class_handle_reason (plain_gate mid) (label_at (class_handle_at (goal_owner mid.owner)) (suc (length mid.frames)) mid) (goal_owner mid.owner)) b)
    (ap (λ k. Some (handle_token (k - 0x7E0000))) b.number)
    (λ _. ap (λ t. settled (advance t (handle_token (n - 0x7E0000)))) r ∙ class_handle_goes mid mid.owner (n - 0x7E0000) refl))
    ep tt (λ e. absurd (cc)) some b c

-- the handle of a reference in a superclass place
super_handle_goes : (r : Seen) (fs : List Frame) (k : ℕ) → HasDescriptor fs → r.frames ≡ fs
    → settled (advance (moment_of r, superclass_handle_goals r.table.chains r.layers r.frames) (handle_token k)) ≡ closed_state r (Some k)
unfolding closed_state
super_handle_goes r (frame.Descriptor number role ∷ fs) k n e = rw e refl
super_handle_goes r (frame.Elements left ∷ fs) k n e = absurd n
super_handle_goes r (frame.Fields last section pos prims values ∷ fs) k n e = absurd n
super_handle_goes r (frame.Notes last section ∷ fs) k n e = absurd n
super_handle_goes r (frame.ExternalNotes ∷ fs) k n e = absurd n
super_handle_goes r [] k n e = absurd n

pub super_handle_taken : (gate : Gate) (n : ℕ) (found : Flow) (old mid new : Seen) (taken : List ℕ)
    → (HasDescriptor mid.frames → Tells (super_handle_reason mid n) (closed_state mid (Some (n - 0x7E0000))) found mid new)
    → open_phase old ≡ phase.SuperHandle → 0 < length taken → IsNumber 4 n (cut_of old ++ taken)
    → Counts taken old mid → Takes gate taken found old new
super_handle_taken gate n found old mid new taken h ep some b c =
    let told = super_handle_reason mid n in
    let next = closed_state mid (Some (n - 0x7E0000)) in
    number_taken gate phase.SuperHandle n told next found old mid new taken (λ s r. h r.0)
    (λ s r e. number_judged gate phase.SuperHandle mid s n (cut_of old ++ taken) told next (handle_token (n - 0x7E0000)) tt r e b
    (on_whole 4 n (cut_of old ++ taken) (super_handle_reason mid) b)
    (ap (λ k. Some (handle_token (k - 0x7E0000))) b.number)
    (λ _. ap (λ t. settled (advance t (handle_token (n - 0x7E0000)))) r.1 ∙ super_handle_goes mid mid.frames (n - 0x7E0000) r.0 refl))
    ep tt (λ e. absurd (cc)) some b c

-- the handle of a reference in a text place
pub text_handle_taken : (gate : Gate) (n : ℕ) (found : Flow) (old mid new : Seen) (taken : List ℕ)
    → (IsForm mid.text true → IsInside mid.text mid.frames
    → TellsSurely (text_handle_reason (label_at text_handle_at (text_depth mid mid.text) mid) n) (settle (moment_of mid) (text_rest mid mid.text)) found mid new)
    → open_phase old ≡ phase.TextHandle → 0 < length taken → IsNumber 4 n (cut_of old ++ taken)
    → Counts taken old mid → Takes gate taken found old new
text_handle_taken gate n found old mid new taken h ep some b c =
    let told = text_handle_reason (label_at text_handle_at (text_depth mid mid.text) mid) n in
    let next = settle (moment_of mid) (text_rest mid mid.text) in
    number_taken gate phase.TextHandle n told next found old mid new taken (λ s r. tells_surely told next found mid new (h r.0 r.1))
    (λ s r e. number_judged gate phase.TextHandle mid s n (cut_of old ++ taken) told next (handle_token (n - 0x7E0000)) tt r e b
    (on_whole 4 n (cut_of old ++ taken) (text_handle_reason (label_at text_handle_at (text_depth mid mid.text) mid)) b)
    (ap (λ k. Some (handle_token (k - 0x7E0000))) b.number)
    (λ _. ap (λ t. settled (advance t (handle_token (n - 0x7E0000)))) r.2))
    ep tt (λ e. absurd (cc)) some b c

-- ---- lengths and counts

-- the length of an array, of elements with this type, if they are raw values
pub array_length_taken : (gate : Gate) (n : ℕ) (found : Flow) (old mid new : Seen) (taken : List ℕ)
    → ((elements : Option PrimCode) → mid.elements ≡ option_map size_of elements → Tells (array_reason (plain_gate mid) n) (after_length mid elements n) found mid new)
    → open_phase old ≡ phase.ArrayLength → 0 < length taken → IsNumber 4 n (cut_of old ++ taken)
    → Counts taken old mid → Takes gate taken found old new
unfolding Takes after_length
array_length_taken gate n found old mid new taken h ep some b c = λ s cut st.
    let r = is_open phase.ArrayLength old (settled s) cut st.stands ep (omega arith) in
    let ready : LengthReady mid (settled s) = ready_counted phase.ArrayLength taken old mid (settled s) c (omega arith) r.ready in
    fixed_took gate phase.ArrayLength (array_reason (plain_gate mid) n) (after_length mid ready.elements n) found old mid new taken s cut st
    (λ _. h ready.elements ready.size)
    (λ r e. number_judged gate phase.ArrayLength mid (settled s) n (cut_of old ++ taken) (array_reason (plain_gate mid) n) (after_length mid ready.elements n)
    (array_length_token n) tt r e b (on_whole 4 n (cut_of old ++ taken) (array_reason (plain_gate mid)) b)
    (ap (λ k. Some (array_length_token k)) b.number) (λ _. ap (λ t. settled (advance t (array_length_token n))) ready.is))
    ep tt some (let l = number_long 4 n (cut_of old ++ taken) b in omega arith) (λ _ a c d e. tt) c

-- the length of a block
pub block_length_taken : (gate : Gate) (n : ℕ) (found : Flow) (old mid new : Seen) (taken : List ℕ)
    → TellsSurely (count_reason (2 ^ 31) n) (after_block_length mid n) found mid new
    → open_phase old ≡ phase.BlockLength4 → 0 < length taken → IsNumber 4 n (cut_of old ++ taken)
    → Counts taken old mid → Takes gate taken found old new
unfolding after_block_length
block_length_taken gate n found old mid new taken h ep some b c =
    let told = count_reason (2 ^ 31) n in
    number_taken gate phase.BlockLength4 n told (after_block_length mid n) found old mid new taken
    (λ s r. tells_surely told (after_block_length mid n) found mid new h)
    (λ s r e. number_judged gate phase.BlockLength4 mid s n (cut_of old ++ taken) told (after_block_length mid n) (block_length_token true n) tt r e b
    (on_whole 4 n (cut_of old ++ taken) (count_reason (2 ^ 31)) b)
    (ap (λ k. Some (block_length_token true k)) b.number) (λ _. ap (λ t. settled (advance t (block_length_token true n))) r))
    ep tt (λ e. absurd (cc)) some b c

-- the length of a short block, of one byte
pub byte_length_taken : (gate : Gate) (n : ℕ) (found : Flow) (old mid new : Seen)
    → TellsSurely None (after_block_length mid n) found mid new
    → old.phase ≡ phase.BlockLength1 → Counts (n ∷ []) old mid → Takes gate (n ∷ []) found old new
unfolding after_block_length
byte_length_taken gate n found old mid new h ep c =
    let one : n * 256 ^ 0 + 0 ≡ n = omega arith in
    byte_taken gate phase.BlockLength1 None (after_block_length mid n) found old mid new n
    (λ s r. tells_surely None (after_block_length mid n) found mid new h)
    (λ s r e. byte_judged gate phase.BlockLength1 mid s n None (after_block_length mid n) (block_length_token false n) tt r e refl refl
    (ap (λ k. Some (block_length_token false k)) one) (λ _. ap (λ t. settled (advance t (block_length_token false n))) r))
    (ap (λ q. open_in q old.meter.cut_phase) ep) (ap (λ q. cut_in q old.meter.kept) ep) tt (λ e. absurd (cc)) c

-- ---- a descriptor

-- the suid of a plain descriptor, whose handle it assigns
pub suid_taken : (gate : Gate) (n : ℕ) (found : Flow) (old mid new : Seen) (taken : List ℕ)
    → Tells (told_if (is_full mid) handle_space None) (after_suid mid) found mid new
    → open_phase old ≡ phase.Suid → 0 < length taken → IsNumber 8 n (cut_of old ++ taken)
    → Counts taken old mid → Takes gate taken found old new
unfolding after_suid
suid_taken gate n found old mid new taken h ep some b c =
    let told = told_if (is_full mid) handle_space None in
    let next : State = after_suid mid in
    number_taken gate phase.Suid n told next found old mid new taken (λ s r. h)
    (λ s r e. number_judged gate phase.Suid mid s n (cut_of old ++ taken) told next (suid_token n) tt r e b
    (on_whole 8 n (cut_of old ++ taken) (λ n. told_if (is_full mid) handle_space None) b)
    (ap (λ k. Some (suid_token k)) b.number) (λ _. ap (λ t. settled (advance t (suid_token n))) r))
    ep tt (λ e. absurd (cc)) some b c

-- its flags
pub flags_taken : (gate : Gate) (n : ℕ) (found : Flow) (old mid new : Seen)
    → (HasDescriptor mid.frames → Tells (flags_reason (top_role mid.frames) n) (field_count_state mid n) found mid new)
    → old.phase ≡ phase.Flags → Counts (n ∷ []) old mid → Takes gate (n ∷ []) found old new
flags_taken gate n found old mid new h ep c =
    let told = flags_reason (top_role mid.frames) n in
    let next : State = field_count_state mid n in
    byte_taken gate phase.Flags told next found old mid new n (λ s r. h r.0)
    (λ s r e. byte_judged gate phase.Flags mid s n told next (flags_token n) tt r e refl refl refl (λ _. ap (λ t. settled (advance t (flags_token n))) r.1))
    (ap (λ q. open_in q old.meter.cut_phase) ep) (ap (λ q. cut_in q old.meter.kept) ep) tt (λ e. absurd (cc)) c

-- the number of its fields
pub field_count_taken : (gate : Gate) (n : ℕ) (found : Flow) (old mid new : Seen) (taken : List ℕ)
    → (HasDescriptor mid.frames → Tells (count_reason (2 ^ 15) n) (after_field_count mid n) found mid new)
    → open_phase old ≡ phase.FieldCount → 0 < length taken → IsNumber 2 n (cut_of old ++ taken)
    → Counts taken old mid → Takes gate taken found old new
unfolding after_field_count
field_count_taken gate n found old mid new taken h ep some b c =
    let told = count_reason (2 ^ 15) n in
    let next = after_field_count mid n in
    number_taken gate phase.FieldCount n told next found old mid new taken (λ s r. h r.0)
    (λ s r e. number_judged gate phase.FieldCount mid s n (cut_of old ++ taken) told next (field_count_token n) tt r e b
    (on_whole 2 n (cut_of old ++ taken) (count_reason (2 ^ 15)) b)
    (ap (λ k. Some (field_count_token k)) b.number) (λ _. ap (λ t. settled (advance t (field_count_token n))) r.1))
    ep tt (λ e. absurd (cc)) some b c

-- the type code of a field: its name comes next, and its type text, if it has one
code_goes : (r : Seen) (n b : ℕ) → r.header.fields ≡ n → 0 < n → settled (advance (moment_of r, fields_goals r n) (code_token b)) ≡ after_code r b
unfolding after_code
code_goes r zero b e h = absurd (omega arith)
code_goes r (suc n) b e h = let d : suc n - 1 ≡ n = omega arith in rw e (rw d refl)

pub type_code_taken : (gate : Gate) (b : ℕ) (found : Flow) (old mid new : Seen)
    → (HasDescriptor mid.frames → 0 < mid.header.fields → Tells (code_reason mid.header.seen b) (after_code mid b) found mid new)
    → old.phase ≡ phase.TypeCode → Counts (b ∷ []) old mid → Takes gate (b ∷ []) found old new
type_code_taken gate b found old mid new h ep c =
    let told = code_reason mid.header.seen b in
    let next : State = after_code mid b in
    byte_taken gate phase.TypeCode told next found old mid new b (λ s r. h r.0 r.1)
    (λ s r e. byte_judged gate phase.TypeCode mid s b told next (code_token b) tt r e refl refl refl
    (λ _. ap (λ t. settled (advance t (code_token b))) r.2 ∙ code_goes mid mid.header.fields b refl r.1))
    (ap (λ q. open_in q old.meter.cut_phase) ep) (ap (λ q. cut_in q old.meter.kept) ep) tt (λ e. absurd (cc)) c

-- the number of interfaces of a proxy descriptor
pub interface_count_taken : (gate : Gate) (n : ℕ) (found : Flow) (old mid new : Seen) (taken : List ℕ)
    → (HasDescriptor mid.frames → Tells (count_reason (2 ^ 31) n) (after_interfaces mid n) found mid new)
    → open_phase old ≡ phase.InterfaceCount → 0 < length taken → IsNumber 4 n (cut_of old ++ taken)
    → Counts taken old mid → Takes gate taken found old new
unfolding after_interfaces
interface_count_taken gate n found old mid new taken h ep some b c =
    let told = count_reason (2 ^ 31) n in
    let next = after_interfaces mid n in
    number_taken gate phase.InterfaceCount n told next found old mid new taken (λ s r. h r.0)
    (λ s r e. number_judged gate phase.InterfaceCount mid s n (cut_of old ++ taken) told next (interface_count_token n) tt r e b
    (on_whole 4 n (cut_of old ++ taken) (count_reason (2 ^ 31)) b)
    (ap (λ k. Some (interface_count_token k)) b.number) (λ _. ap (λ t. settled (advance t (interface_count_token n))) r.1))
    ep tt (λ e. absurd (cc)) some b c
