-- Fronts of tokens: what the machine takes in two parts, and which stacks it passes on the way. A stack stays open
-- but for the tag of a reference, and the handle that is taken there opens it again.
use Rattle.std.proofs.Common.{◌≡◌, ℕ, zero, suc, Bool, true, false, ◌||◌, List, [], ◌∷◌, ◌++◌, refl, ◌⊎◌, inl, inr}
use Rattle.jser_reading.proofs.Vocabulary.{other_entry, chain_at, Layer, is_object_code, is_external, Owner, object_owner, array_owner, enum_owner, class_owner, ChainOwner, Moment, tick, assign, closing, Tag, null_tag, reference_tag, class_desc_tag, object_tag, string_tag, array_tag, class_tag, long_string_tag, proxy_desc_tag, enum_tag, StreamToken, header_token, tag_token, block_tag_token, end_tag_token, reset_tag_token, handle_token, suid_token, flags_token, field_count_token, interface_count_token, array_length_token, code_token, text_token, block_length_token, prims_token, bytes_token, back_handle_at, Piece, piece, Part, raw_part, value_part, annotation_part, Goal, header_goal, top_goal, annotation_goal, back_handle_goal, text_place_goal, text_handle_goal, field_name_goal, string_goal, block_length_goal, block_goal, array_length_goal, parts_goal, class_goal, class_handle_goal, made_goal, superclass_goal, superclass_handle_goal, close_goal, class_name_goal, suid_goal, flags_goal, field_count_goal, fields_goal, interface_count_goal, interfaces_goal, State, object_parts, settle_parts, settle, settled, label_of, Accepts, begin, type_goals, advance_at, advance, Runs, left, Reads}
use Rattle.jser_reading.specs.ComesNext.{handle_label}
use Rattle.jser_reading.proofs.Completion.{Open}

-- a handle is waited for, and the stack below it is open
abbrev pub Waits : List Goal → Type 0
Waits (back_handle_goal d ∷ gs) = Open gs
Waits (text_handle_goal d ∷ gs) = Open gs
Waits (class_handle_goal owner d ∷ gs) = Open gs
Waits (superclass_handle_goal owner strict d number l ∷ gs) = Open gs
Waits _ = ⊥

open_parts : (parts : List Part) (d : ℕ) (m : Moment) (gs : List Goal) (s : State) → Open gs → Open s.1
    → Open (settle_parts d parts m gs s).1
open_parts [] d m gs s o h = h
open_parts (raw_part c zero ∷ parts) d m gs s o h = open_parts parts d m gs s o h
open_parts (raw_part c (suc n) ∷ parts) d m gs s o h = o
open_parts (value_part ∷ parts) d m gs s o h = o
open_parts (annotation_part ∷ parts) d m gs s o h = o

pub open_settle : (gs : List Goal) (m : Moment) → Open gs → Open (settle m gs).1
open_settle [] m o = o
open_settle (block_goal d zero ∷ gs) m o = open_settle gs m o
open_settle (block_goal d (suc n) ∷ gs) m o = o
open_settle (parts_goal d parts ∷ gs) m o = open_parts parts d m gs (settle m gs) o (open_settle gs m o)
open_settle (made_goal object_owner d number ∷ gs) m o =
    open_parts (object_parts (is_external (chain_at m.table number)) (chain_at m.table number)) d (assign m other_entry) gs
    (settle (assign m other_entry) gs) o
    (open_settle gs (assign m other_entry) o)
open_settle (made_goal array_owner d number ∷ gs) m o = o
open_settle (made_goal enum_owner d number ∷ gs) m o = o
open_settle (made_goal class_owner d number ∷ gs) m o = open_settle gs (assign m other_entry) o
open_settle (close_goal number parent l ∷ gs) m o = open_settle gs (closing m number (chain_at m.table parent ++ (l ∷ []))) o
open_settle (fields_goal role d number kind flags seen codes zero ∷ gs) m o = o
open_settle (fields_goal role d number kind flags seen codes (suc n) ∷ gs) m o = o
open_settle (interfaces_goal role d number zero ∷ gs) m o = o
open_settle (interfaces_goal role d number (suc n) ∷ gs) m o = o
open_settle (g ∷ gs) m o = o

waits_settle : (gs : List Goal) (m : Moment) → Waits gs → settle m gs ≡ (m, gs)
waits_settle (back_handle_goal d ∷ gs) m w = refl
waits_settle (text_handle_goal d ∷ gs) m w = refl
waits_settle (class_handle_goal owner d ∷ gs) m w = refl
waits_settle (superclass_handle_goal owner strict d number l ∷ gs) m w = refl
waits_settle [] m w = absurd w
waits_settle (g ∷ gs) m w = absurd w

pub settled_waits : (s : State) → Waits s.1 → settled s ≡ s
settled_waits (m, gs) w = waits_settle gs m w

-- one token leaves a stack open, or it is the tag of a reference and its handle is waited for
abbrev pub Moved : StreamToken → State → State → Type 0
Moved f s t = Open t.1 ⊎ ((f ≡ tag_token reference_tag) × Waits t.1 × (label_of t ≡ handle_label (label_of s)))

moved_value : (tag : Tag) (d : ℕ) (m : Moment) (gs : List Goal) → Open gs
    → Open (begin d m tag gs).1
    ⊎ ((tag_token tag ≡ tag_token reference_tag) × Waits (begin d m tag gs).1
    × (label_of (begin d m tag gs) ≡ record { position = back_handle_at; depth = d; moment = tick m }))
moved_value null_tag d m gs o = inl o
moved_value reference_tag d m gs o = inr (refl, o, refl)
moved_value class_desc_tag d m gs o = inl o
moved_value object_tag d m gs o = inl o
moved_value string_tag d m gs o = inl o
moved_value array_tag d m gs o = inl o
moved_value class_tag d m gs o = inl o
moved_value long_string_tag d m gs o = inl o
moved_value proxy_desc_tag d m gs o = inl o
moved_value enum_tag d m gs o = inl o

moved_text : (tag : Tag) (d : ℕ) (m : Moment) (gs : List Goal) → Open gs
    → Moved (tag_token tag) (m, text_place_goal d ∷ gs) (advance_at m (text_place_goal d) gs (tag_token tag))
moved_text reference_tag d m gs o = inr (refl, o, refl)
moved_text string_tag d m gs o = inl o
moved_text long_string_tag d m gs o = inl o
moved_text tag d m gs o = inl o

moved_class : (tag : Tag) (owner : Owner) (d : ℕ) (m : Moment) (gs : List Goal) → Open gs
    → Moved (tag_token tag) (m, class_goal owner d ∷ gs) (advance_at m (class_goal owner d) gs (tag_token tag))
moved_class reference_tag owner d m gs o = inr (refl, o, refl)
moved_class class_desc_tag owner d m gs o = inl o
moved_class proxy_desc_tag owner d m gs o = inl o
moved_class tag owner d m gs o = inl o

moved_superclass : (tag : Tag) (owner : ChainOwner) (strict : Bool) (d number : ℕ) (l : Layer) (m : Moment) (gs : List Goal)
    → Open gs
    → Moved (tag_token tag) (m, superclass_goal owner strict d number l ∷ gs)
    (advance_at m (superclass_goal owner strict d number l) gs (tag_token tag))
moved_superclass reference_tag owner strict d number l m gs o = inr (refl, o, refl)
moved_superclass class_desc_tag owner strict d number l m gs o = inl o
moved_superclass proxy_desc_tag owner strict d number l m gs o = inl o
moved_superclass null_tag owner strict d number l m gs o = inl o
moved_superclass tag owner strict d number l m gs o = inl o

open_type : (object : Bool) (d : ℕ) (gs : List Goal) → Open gs → Open (type_goals object d gs)
open_type true d gs o = o
open_type false d gs o = o

moved : (g : Goal) (f : StreamToken) (m : Moment) (gs : List Goal) → Open (g ∷ gs) → Moved f (m, g ∷ gs) (advance_at m g gs f)
moved header_goal header_token m gs o = inl o
moved top_goal (tag_token tag) m gs o = moved_value tag 1 m (top_goal ∷ gs) o
moved top_goal (block_tag_token long) m gs o = inl o
moved top_goal reset_tag_token m gs o = inl o
moved (annotation_goal d) (tag_token tag) m gs o = moved_value tag (suc d) m (annotation_goal d ∷ gs) o
moved (annotation_goal d) (block_tag_token long) m gs o = inl o
moved (annotation_goal d) end_tag_token m gs o = inl o
moved (parts_goal d (value_part ∷ parts)) (tag_token tag) m gs o = moved_value tag (suc d) m (parts_goal d parts ∷ gs) o
moved (parts_goal d (raw_part c (suc n) ∷ parts)) (prims_token ps) m gs o = inl o
moved (block_goal d (suc n)) (bytes_token b) m gs o = inl o
moved (text_place_goal d) (tag_token tag) m gs o = moved_text tag d m gs o
moved (class_goal owner d) (tag_token tag) m gs o = moved_class tag owner d m gs o
moved (superclass_goal owner strict d number l) (tag_token tag) m gs o = moved_superclass tag owner strict d number l m gs o
moved (fields_goal role d number kind flags seen codes (suc n)) (code_token c) m gs o =
    inl (open_type (is_object_code c) d (fields_goal role d number kind flags (seen || is_object_code c) (c ∷ codes) n ∷ gs) o)
moved (interfaces_goal role d number (suc n)) (text_token long u) m gs o = inl o
moved (back_handle_goal d) f m gs o = absurd o
moved (text_handle_goal d) f m gs o = absurd o
moved (class_handle_goal owner d) f m gs o = absurd o
moved (superclass_handle_goal owner strict d number l) f m gs o = absurd o
moved (string_goal long d) (text_token long' u) m gs o = inl o
moved (block_length_goal long d) (block_length_token long' n) m gs o = inl o
moved (field_name_goal d) (text_token long u) m gs o = inl o
moved (array_length_goal elements d) (array_length_token n) m gs o = inl o
moved (class_name_goal role d) (text_token long u) m gs o = inl o
moved (suid_goal role d kind) (suid_token n) m gs o = inl o
moved (flags_goal role d number kind) (flags_token f) m gs o = inl o
moved (field_count_goal role d number kind flags) (field_count_token n) m gs o = inl o
moved (interface_count_goal role d number) (interface_count_token n) m gs o = inl o
moved g f m gs o = inl o

pub moved_of : (s : State) (f : StreamToken) → Open s.1 → Moved f s (advance s f)
moved_of (m, []) f o = absurd o
moved_of (m, g ∷ gs) f o = moved g f m gs o

-- a handle that is taken leaves the stack open
waited : (g : Goal) (f : StreamToken) (m : Moment) (gs : List Goal) → Waits (g ∷ gs) → Accepts (label_of (m, g ∷ gs)) f
    → Open (advance_at m g gs f).1
waited (back_handle_goal d) (handle_token n) m gs w a = w
waited (text_handle_goal d) (handle_token n) m gs w a = w
waited (class_handle_goal owner d) (handle_token n) m gs w a = w
waited (superclass_handle_goal owner strict d number l) (handle_token n) m gs w a = w
waited (back_handle_goal d) _ m gs w a = absurd a
waited (text_handle_goal d) _ m gs w a = absurd a
waited (class_handle_goal owner d) _ m gs w a = absurd a
waited (superclass_handle_goal owner strict d number l) _ m gs w a = absurd a
waited _ f m gs w a = absurd w

pub waited_of : (f : StreamToken) (s : State) → Waits s.1 → Accepts (label_of s) f → Open (advance s f).1
waited_of f (m, []) w a = absurd w
waited_of f (m, g ∷ gs) w a = waited g f m gs w a

-- behind the tag of a reference its handle is read
handle_next : (g : Goal) (m : Moment) (gs : List Goal) → Accepts (label_of (m, g ∷ gs)) (tag_token reference_tag)
    → label_of (settled (advance_at m g gs (tag_token reference_tag))) ≡ handle_label (label_of (m, g ∷ gs))
handle_next top_goal m gs a = refl
handle_next (annotation_goal d) m gs a = refl
handle_next (parts_goal d (value_part ∷ parts)) m gs a = refl
handle_next (parts_goal d (raw_part c zero ∷ parts)) m gs a = absurd a
handle_next (block_goal d zero) m gs a = absurd a
handle_next (text_place_goal d) m gs a = refl
handle_next (class_goal owner d) m gs a = refl
handle_next (superclass_goal owner strict d number l) m gs a = refl
handle_next (string_goal true d) m gs a = absurd a
handle_next (block_length_goal true d) m gs a = absurd a
handle_next (fields_goal role d number kind flags seen codes zero) m gs a = absurd a
handle_next (interfaces_goal role d number zero) m gs a = absurd a
handle_next (parts_goal d []) m gs a = absurd a
handle_next _ m gs a = absurd a

pub handle_next_of : (s : State) → Accepts (label_of s) (tag_token reference_tag)
    → label_of (settled (advance s (tag_token reference_tag))) ≡ handle_label (label_of s)
handle_next_of (m, []) a = absurd a
handle_next_of (m, g ∷ gs) a = handle_next g m gs a

-- tokens in two parts

pub left-append : (a b : List Piece) (s : State) → left s (a ++ b) ≡ left (left s a) b
left-append [] b s = refl
left-append (piece l f ∷ a) b s = left-append a b (advance (settled s) f)

pub Runs-append : (a b : List Piece) (s : State) → Runs s a → Runs (left s a) b → Runs s (a ++ b)
Runs-append [] b s h k = k
Runs-append (piece l f ∷ a) b s h k = (h.0, h.1, Runs-append a b (advance (settled s) f) h.2 k)

pub Reads-append : (a b : List Piece) (s : State) → Runs s a → Reads (left s a) b → Reads s (a ++ b)
Reads-append [] b s h k = k
Reads-append (piece l f ∷ a) b s h k = (h.0, h.1, Reads-append a b (advance (settled s) f) h.2 k)

pub reads_split : (a b : List Piece) (s : State) → Reads s (a ++ b) → Runs s a × Reads (left s a) b
reads_split [] b s h = (tt, h)
reads_split (piece l f ∷ a) b s h = let k = reads_split a b (advance (settled s) f) h.2 in ((h.0, h.1, k.0), k.1)

pub reads_runs : (a : List Piece) (s : State) → Reads s a → Runs s a
reads_runs [] s h = tt
reads_runs (piece l f ∷ a) s h = (h.0, h.1, reads_runs a (advance (settled s) f) h.2)
