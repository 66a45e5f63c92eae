-- Tags and numbers that are taken: from the handler's clause to the walk over their bytes.
use Rattle.std.proofs.Common.{◌≡◌, ℕ, suc, ◌+◌, ◌-◌, ◌^◌, ◌<◌, ◌≤◌, true, List, [], ◌∷◌, ◌++◌, length, get_or, take, Option, Some, None, option_map, refl, sym, ◌∙◌, ap, subst, arith}
use Rattle.jser_table.specs.Codes.{PrimCode, size_of}
use Rattle.jser_table.specs.Entries.{chain_at}
use Rattle.jser_reading.specs.Labels.{top_at, annotation_at, value_at, class_place_at, class_handle_at}
use Rattle.jser_reading.specs.TokensFromBytes.{tag_from}
use Rattle.jser_verdict.specs.Reasons.{handle_space}
use Rattle.jser_verdict.specs.Gates.{Gate}
use Rattle.jser_verdict.specs.Verdicts.{told_if, content_reason, inner_reason, class_tag_reason, class_handle_reason, array_reason, count_reason, flags_reason, code_reason}
use Rattle.jser_reader.specs.declared.machine.flow.Flow.{Flow}
use Rattle.jser_reader.specs.declared.machine.flow.Flow.TheVariants as flow
use Rattle.jser_reader.specs.declared.machine.take.taken.Taken.{Taken}
use Rattle.jser_reader.specs.declared.phase.Phase.{Phase}
use Rattle.jser_reader.specs.declared.phase.Phase.TheVariants as phase
use Rattle.jser_reader.specs.Fitting.{HasDescriptor}
use Rattle.jser_reader.specs.Frames.{goal_owner}
use Rattle.jser_reader.specs.Readers.{Seen, HasNotes, IsForm, IsInside, top_role, field_count_state}
use Rattle.jser_reader.specs.Steps.{after_value}
use Rattle.jser_reader.specs.Handlers.{Tells, TellsSurely, is_full, plain_gate, label_at, after_content, after_class_tag, owner_state}
use Rattle.jser_reader.specs.Numbers.{back_reason, after_length, after_block_length}
use Rattle.jser_reader.specs.Closing.{closed_state}
use Rattle.jser_reader.specs.Descriptors.{after_suid, after_field_count, after_code, after_interfaces}
use Rattle.jser_reader.specs.TextStates.{text_tag_reason, after_text_tag}
use Rattle.jser_reader.specs.Superclasses.{super_reason, super_handle_reason, after_super_tag}
use Rattle.jser_reader.specs.Walks.{Counts, Takes, open_in, open_phase, cut_of}
use Rattle.jser_reader.specs.Takes.{farther, TakesByte, IsOne, IsWholeLength, TakesNumberFor, TakesNumber, TakesFromFor, TakesFrom, taken_by}
use Rattle.jser_reader.proofs.NumberWalks.{number_in_2, number_in_4, number_in_8, back_handle_taken, class_handle_taken, super_handle_taken, array_length_taken, block_length_taken, byte_length_taken, suid_taken, flags_taken, field_count_taken, type_code_taken, interface_count_taken}
use Rattle.jser_reader.proofs.PlaceWalks.{top_taken, note_taken, value_taken, class_tag_taken, super_tag_taken, text_tag_taken}

-- bytes that were counted and no more
pub counts_bytes : (bytes : List ℕ) (count : ℕ) (old mid : Seen) → mid ≡ farther old count → length bytes ≡ count → Counts bytes old mid
counts_bytes bytes count old mid e n = record {
  at = ap (λ r. r.meter.at) e ∙ ap (λ k. old.meter.at + k) (sym n);
  from = ap (λ r. r.meter.from) e;
  limits = ap (λ r. r.meter.limits) e;
  frames = ap (λ r. r.frames) e;
  layers = ap (λ r. r.layers) e;
  table = ap (λ r. r.table) e;
  refs = ap (λ r. r.refs) e;
  owner = ap (λ r. r.owner) e;
  elements = ap (λ r. r.elements) e;
  header = ap (λ r. r.header) e;
  text = ap (λ r. r.text) e;
}

counts_one : (b : ℕ) (old mid : Seen) → mid ≡ farther old 1 → Counts (b ∷ []) old mid
counts_one b old mid e = counts_bytes (b ∷ []) 1 old mid e refl

-- ---- tags, and the length of a short block

pub takes_top : (b : ℕ) (found : Flow) (old mid new : Seen)
    → (mid.frames ≡ [] → Tells (content_reason (plain_gate mid) (label_at top_at 1 mid) b) (after_content mid (tag_from b)) found mid new)
    → mid ≡ farther old 1 → old.phase ≡ phase.Top → TakesByte b found old new
unfolding TakesByte
takes_top b found old mid new h m ep = λ gate. top_taken gate b found old mid new h ep (counts_one b old mid m)

pub takes_note : (b : ℕ) (found : Flow) (old mid new : Seen)
    → (HasNotes mid.frames → Tells (inner_reason (plain_gate mid) (label_at annotation_at (suc (length mid.frames)) mid) b) (after_content mid (tag_from b)) found mid new)
    → mid ≡ farther old 1 → old.phase ≡ phase.Note → TakesByte b found old new
unfolding TakesByte
takes_note b found old mid new h m ep = λ gate. note_taken gate b found old mid new h ep (counts_one b old mid m)

pub takes_value : (b : ℕ) (found : Flow) (old mid new : Seen)
    → Tells (inner_reason (plain_gate mid) (label_at value_at (suc (length mid.frames)) mid) b) (after_content mid (tag_from b)) found mid new
    → mid ≡ farther old 1 → old.phase ≡ phase.Value → TakesByte b found old new
unfolding TakesByte
takes_value b found old mid new h m ep = λ gate. value_taken gate b found old mid new h ep (counts_one b old mid m)

pub takes_class_tag : (b : ℕ) (found : Flow) (old mid new : Seen)
    → Tells (class_tag_reason (plain_gate mid) (label_at (class_place_at (goal_owner mid.owner)) (suc (length mid.frames)) mid) (goal_owner mid.owner) b)
    (after_class_tag mid (tag_from b)) found mid new
    → mid ≡ farther old 1 → old.phase ≡ phase.ClassTag → TakesByte b found old new
unfolding TakesByte
takes_class_tag b found old mid new h m ep = λ gate. class_tag_taken gate b found old mid new h ep (counts_one b old mid m)

pub takes_super_tag : (b : ℕ) (found : Flow) (old mid new : Seen)
    → (HasDescriptor mid.frames → Tells (super_reason mid b) (after_super_tag mid (tag_from b)) found mid new)
    → mid ≡ farther old 1 → old.phase ≡ phase.SuperTag → TakesByte b found old new
unfolding TakesByte
takes_super_tag b found old mid new h m ep = λ gate. super_tag_taken gate b found old mid new h ep (counts_one b old mid m)

pub takes_block_length : (n : ℕ) (found : Flow) (old mid new : Seen) → TellsSurely None (after_block_length mid n) found mid new
    → mid ≡ farther old 1 → old.phase ≡ phase.BlockLength1 → TakesByte n found old new
unfolding TakesByte
takes_block_length n found old mid new h m ep = λ gate. byte_length_taken gate n found old mid new h ep (counts_one n old mid m)

-- ---- the tag of a text place

pub takes_text_tag : (b : ℕ) (found : Flow) (old mid new : Seen)
    → (IsForm mid.text true → IsInside mid.text mid.frames → Tells (text_tag_reason mid b) (after_text_tag mid (tag_from b)) found mid new)
    → mid ≡ farther old 1 → old.phase ≡ phase.TextTag → TakesByte b found old new
unfolding TakesByte
takes_text_tag b found old mid new h m ep = λ gate. text_tag_taken gate b found old mid new h ep (counts_one b old mid m)

-- ---- a descriptor: its flags, and the type code of a field

pub takes_flags : (n : ℕ) (found : Flow) (old mid new : Seen)
    → (HasDescriptor mid.frames → Tells (flags_reason (top_role mid.frames) n) (field_count_state mid n) found mid new)
    → mid ≡ farther old 1 → old.phase ≡ phase.Flags → TakesByte n found old new
unfolding TakesByte
takes_flags n found old mid new h m ep = λ gate. flags_taken gate n found old mid new h ep (counts_one n old mid m)

pub takes_type_code : (b : ℕ) (found : Flow) (old mid new : Seen)
    → (HasDescriptor mid.frames → 0 < mid.header.fields → Tells (code_reason mid.header.seen b) (after_code mid b) found mid new)
    → mid ≡ farther old 1 → old.phase ≡ phase.TypeCode → TakesByte b found old new
unfolding TakesByte
takes_type_code b found old mid new h m ep = λ gate. type_code_taken gate b found old mid new h ep (counts_one b old mid m)

-- ---- one byte of a piece

pub no_other_one : (p : Phase) → IsOne p → (p ≡ phase.Top → ⊥) → (p ≡ phase.Note → ⊥) → (p ≡ phase.Value → ⊥) → (p ≡ phase.ClassTag → ⊥)
    → (p ≡ phase.SuperTag → ⊥) → (p ≡ phase.TextTag → ⊥) → (p ≡ phase.Flags → ⊥) → (p ≡ phase.TypeCode → ⊥) → (p ≡ phase.BlockLength1 → ⊥) → ⊥
no_other_one phase.Top i t n v c s x f k b = t refl
no_other_one phase.Note i t n v c s x f k b = n refl
no_other_one phase.Value i t n v c s x f k b = v refl
no_other_one phase.ClassTag i t n v c s x f k b = c refl
no_other_one phase.SuperTag i t n v c s x f k b = s refl
no_other_one phase.TextTag i t n v c s x f k b = x refl
no_other_one phase.Flags i t n v c s x f k b = f refl
no_other_one phase.TypeCode i t n v c s x f k b = k refl
no_other_one phase.BlockLength1 i t n v c s x f k b = b refl
no_other_one _ i t n v c s x f k b = absurd i

-- bytes of a piece end the open token, or the machine stops at them
pub taken_so_far : (gate : Gate) (count : ℕ) (found : Flow) (result : Taken) (piece : List ℕ) (old new : Seen)
    → Takes gate (take count piece) found old new → result ≡ taken_by count found → 0 < count → count ≤ length piece
    → IsWholeLength (open_phase old) (cut_of old ++ take count piece) → TakesFromFor gate result piece old new
unfolding TakesFromFor
taken_so_far gate count flow.On result piece old new h er some within whole = rw er (some, within, h, whole)
taken_so_far gate count flow.Stopped result piece old new h er some within whole = rw er (some, within, h)

-- a token of one byte is no length
one_is_whole : (p : Phase) (cut_phase : Phase) (bytes : List ℕ) → IsOne p → IsWholeLength (open_in p cut_phase) bytes
one_is_whole phase.Top cut_phase bytes i = tt
one_is_whole phase.Note cut_phase bytes i = tt
one_is_whole phase.Value cut_phase bytes i = tt
one_is_whole phase.ClassTag cut_phase bytes i = tt
one_is_whole phase.SuperTag cut_phase bytes i = tt
one_is_whole phase.TextTag cut_phase bytes i = tt
one_is_whole phase.Flags cut_phase bytes i = tt
one_is_whole phase.TypeCode cut_phase bytes i = tt
one_is_whole phase.BlockLength1 cut_phase bytes i = tt
one_is_whole _ cut_phase bytes i = absurd i

-- the first byte of a piece
pub one_taken : (b : ℕ) (found : Flow) (result : Taken) (piece : List ℕ) (old new : Seen) → TakesByte b found old new → result ≡ taken_by 1 found
    → b ≡ get_or piece 0 0 → 0 < length piece → IsOne old.phase → TakesFrom result piece old new
unfolding TakesByte
one_taken b found result piece old new h er is some one =
    λ gate. taken_so_far gate 1 found result piece old new (subst (λ xs. Takes gate xs found old new) (first piece some is) (h gate)) er (omega arith) (omega arith)
    (one_is_whole old.phase old.meter.cut_phase (cut_of old ++ take 1 piece) one)
  where
    first : (xs : List ℕ) → 0 < length xs → b ≡ get_or xs 0 0 → b ∷ [] ≡ take 1 xs
    first [] some e = absurd (omega arith)
    first (x ∷ xs) some e = ap (λ y. y ∷ []) e

-- ---- numbers

pub takes_back_handle : (n count : ℕ) (found : Flow) (old mid new : Seen) → TellsSurely (back_reason mid n) (after_value mid) found mid new
    → mid ≡ farther old count → open_phase old ≡ phase.BackHandle → 0 < count → n < 2 ^ 32 → TakesNumber 4 n count found old new
unfolding TakesNumber TakesNumberFor
takes_back_handle n count found old mid new h m eo some small = λ gate taken size spelled.
    back_handle_taken gate n found old mid new taken h eo (omega arith) (number_in_4 n _ spelled small) (counts_bytes taken count old mid m size)

pub takes_class_handle : (n count : ℕ) (found : Flow) (old mid new : Seen)
    → Tells (class_handle_reason (plain_gate mid) (label_at (class_handle_at (goal_owner mid.owner)) (suc (length mid.frames)) mid) (goal_owner mid.owner) n)
    (owner_state mid (chain_at mid.table.entries (n - 0x7E0000))) found mid new
    → mid ≡ farther old count → open_phase old ≡ phase.ClassHandle → 0 < count → n < 2 ^ 32 → TakesNumber 4 n count found old new
unfolding TakesNumber TakesNumberFor
takes_class_handle n count found old mid new h m eo some small = λ gate taken size spelled.
    class_handle_taken gate n found old mid new taken h eo (omega arith) (number_in_4 n _ spelled small) (counts_bytes taken count old mid m size)

pub takes_super_handle : (n count : ℕ) (found : Flow) (old mid new : Seen)
    → (HasDescriptor mid.frames → Tells (super_handle_reason mid n) (closed_state mid (Some (n - 0x7E0000))) found mid new)
    → mid ≡ farther old count → open_phase old ≡ phase.SuperHandle → 0 < count → n < 2 ^ 32 → TakesNumber 4 n count found old new
unfolding TakesNumber TakesNumberFor
takes_super_handle n count found old mid new h m eo some small = λ gate taken size spelled.
    super_handle_taken gate n found old mid new taken h eo (omega arith) (number_in_4 n _ spelled small) (counts_bytes taken count old mid m size)

pub takes_array_length : (n count : ℕ) (found : Flow) (old mid new : Seen)
    → ((elements : Option PrimCode) → mid.elements ≡ option_map size_of elements → Tells (array_reason (plain_gate mid) n) (after_length mid elements n) found mid new)
    → mid ≡ farther old count → open_phase old ≡ phase.ArrayLength → 0 < count → n < 2 ^ 32 → TakesNumber 4 n count found old new
unfolding TakesNumber TakesNumberFor
takes_array_length n count found old mid new h m eo some small = λ gate taken size spelled.
    array_length_taken gate n found old mid new taken h eo (omega arith) (number_in_4 n _ spelled small) (counts_bytes taken count old mid m size)

pub takes_long_block_length : (n count : ℕ) (found : Flow) (old mid new : Seen)
    → TellsSurely (count_reason (2 ^ 31) n) (after_block_length mid n) found mid new
    → mid ≡ farther old count → open_phase old ≡ phase.BlockLength4 → 0 < count → n < 2 ^ 32 → TakesNumber 4 n count found old new
unfolding TakesNumber TakesNumberFor
takes_long_block_length n count found old mid new h m eo some small = λ gate taken size spelled.
    block_length_taken gate n found old mid new taken h eo (omega arith) (number_in_4 n _ spelled small) (counts_bytes taken count old mid m size)

pub takes_interface_count : (n count : ℕ) (found : Flow) (old mid new : Seen)
    → (HasDescriptor mid.frames → Tells (count_reason (2 ^ 31) n) (after_interfaces mid n) found mid new)
    → mid ≡ farther old count → open_phase old ≡ phase.InterfaceCount → 0 < count → n < 2 ^ 32 → TakesNumber 4 n count found old new
unfolding TakesNumber TakesNumberFor
takes_interface_count n count found old mid new h m eo some small = λ gate taken size spelled.
    interface_count_taken gate n found old mid new taken h eo (omega arith) (number_in_4 n _ spelled small) (counts_bytes taken count old mid m size)

pub takes_suid : (count : ℕ) (found : Flow) (old mid new : Seen) → Tells (told_if (is_full mid) handle_space None) (after_suid mid) found mid new
    → mid ≡ farther old count → open_phase old ≡ phase.Suid → 0 < count → (n : ℕ) → n < 2 ^ 64 → TakesNumber 8 n count found old new
unfolding TakesNumber TakesNumberFor
takes_suid count found old mid new h m eo some n small = λ gate taken size spelled.
    suid_taken gate n found old mid new taken h eo (omega arith) (number_in_8 n _ spelled small) (counts_bytes taken count old mid m size)

pub takes_field_count : (n count : ℕ) (found : Flow) (old mid new : Seen)
    → (HasDescriptor mid.frames → Tells (count_reason (2 ^ 15) n) (after_field_count mid n) found mid new)
    → mid ≡ farther old count → open_phase old ≡ phase.FieldCount → 0 < count → n < 2 ^ 16 → TakesNumber 2 n count found old new
unfolding TakesNumber TakesNumberFor
takes_field_count n count found old mid new h m eo some small = λ gate taken size spelled.
    field_count_taken gate n found old mid new taken h eo (omega arith) (number_in_2 n _ spelled small) (counts_bytes taken count old mid m size)
