-- How long the stack of goals gets: a goal of depth d has at least d goals below it, and at most about 3 d. A value
-- has one goal of its container below it, its class at most three more for each level.
use Rattle.std.proofs.Common.{◌≡◌, ℕ, zero, suc, ◌+◌, ◌*◌, ◌≤◌, Bool, true, false, ◌||◌, List, [], ◌∷◌, ◌++◌, length, refl, arith}
use Rattle.jser_reading.proofs.Vocabulary.{other_entry, chain_at, Layer, is_object_code, proxy_layer, is_external, Owner, object_owner, array_owner, enum_owner, class_owner, ChainOwner, Role, Moment, assign, closing, Tag, null_tag, reference_tag, class_desc_tag, object_tag, string_tag, array_tag, class_tag, long_string_tag, proxy_desc_tag, enum_tag, StreamToken, header_token, tag_token, block_tag_token, end_tag_token, reset_tag_token, handle_token, suid_token, flags_token, field_count_token, interface_count_token, array_length_token, code_token, text_token, block_length_token, prims_token, bytes_token, Piece, piece, Part, raw_part, value_part, annotation_part, Goal, header_goal, top_goal, annotation_goal, back_handle_goal, text_place_goal, text_handle_goal, field_name_goal, string_goal, block_length_goal, block_goal, array_length_goal, parts_goal, class_goal, class_handle_goal, made_goal, superclass_goal, superclass_handle_goal, close_goal, class_name_goal, suid_goal, flags_goal, field_count_goal, fields_goal, interface_count_goal, interfaces_goal, State, object_parts, read_layer, ending, settle_parts, settle, settled, depth_of_parts, depth_of_goal, label_of, begin, type_goals, advance_at, advance, begin_state, left}
use Rattle.jser_reading.specs.Laws.{StackIsBounded}

-- how many goals may stand below this one
abbrev Below : Goal → ℕ → Type 0
Below header_goal n = n ≡ 1
Below top_goal n = n ≡ 0
Below (annotation_goal d) n = (d ≤ n) × (n ≤ 3 * d)
Below (back_handle_goal d) n = (d ≤ n) × (n + 2 ≤ 3 * d)
Below (text_place_goal d) n = (d ≤ n) × (n ≤ 3 * d)
Below (text_handle_goal d) n = (d ≤ n) × (n ≤ 3 * d)
Below (field_name_goal d) n = (d ≤ n) × (n ≤ 3 * d + 1)
Below (string_goal long d) n = (d ≤ n) × (n ≤ 3 * d)
Below (block_length_goal long d) n = (d ≤ n) × (n ≤ 3 * d + 1)
Below (block_goal d size) n = (d ≤ n) × (n ≤ 3 * d + 1)
Below (array_length_goal elements d) n = (d ≤ n) × (n + 2 ≤ 3 * d)
Below (parts_goal d parts) n = (d ≤ n) × (n + 2 ≤ 3 * d)
Below (class_goal owner d) n = (d ≤ n) × (n + 2 ≤ 3 * d)
Below (class_handle_goal owner d) n = (d ≤ n) × (n + 2 ≤ 3 * d)
Below (made_goal owner d number) n = (d ≤ n) × (n + 2 ≤ 3 * d)
Below (superclass_goal owner strict d number l) n = (d ≤ suc n) × (n + 4 ≤ 3 * d)
Below (superclass_handle_goal owner strict d number l) n = (d ≤ suc n) × (n + 4 ≤ 3 * d)
Below (close_goal number parent l) n = Unit {0}
Below (class_name_goal role d) n = (d ≤ n) × (n + 1 ≤ 3 * d)
Below (suid_goal role d kind) n = (d ≤ n) × (n + 1 ≤ 3 * d)
Below (flags_goal role d number kind) n = (d ≤ n) × (n + 1 ≤ 3 * d)
Below (field_count_goal role d number kind flags) n = (d ≤ n) × (n + 1 ≤ 3 * d)
Below (fields_goal role d number kind flags seen codes count) n = (d ≤ n) × (n + 1 ≤ 3 * d)
Below (interface_count_goal role d number) n = (d ≤ n) × (n + 1 ≤ 3 * d)
Below (interfaces_goal role d number count) n = (d ≤ n) × (n + 1 ≤ 3 * d)

abbrev Piled : List Goal → Type 0
Piled [] = Unit {0}
Piled (g ∷ gs) = Below g (length gs) × Piled gs

-- goals that take no token

piled_parts : (parts : List Part) (d : ℕ) (m : Moment) (gs : List Goal) (s : State) → d ≤ length gs → length gs + 2 ≤ 3 * d
    → Piled gs → Piled s.1
    → Piled (settle_parts d parts m gs s).1
piled_parts [] d m gs s a b p h = h
piled_parts (raw_part c zero ∷ parts) d m gs s a b p h = piled_parts parts d m gs s a b p h
piled_parts (raw_part c (suc n) ∷ parts) d m gs s a b p h = ((a, b), p)
piled_parts (value_part ∷ parts) d m gs s a b p h = ((a, b), p)
piled_parts (annotation_part ∷ parts) d m gs s a b p h = ((omega arith, omega arith), ((a, b), p))

piled_ending : (role : Role) (d number flags : ℕ) (l : Layer) (gs : List Goal) → d ≤ length gs → length gs + 1 ≤ 3 * d
    → Piled gs → Piled (ending role d number flags l gs)
piled_ending role d number flags l gs a b p = ((omega arith, omega arith), ((omega arith, omega arith), p))

piled_settle : (gs : List Goal) (m : Moment) → Piled gs → Piled (settle m gs).1
piled_settle [] m p = p
piled_settle (block_goal d zero ∷ gs) m p = piled_settle gs m p.1
piled_settle (block_goal d (suc n) ∷ gs) m p = p
piled_settle (parts_goal d parts ∷ gs) m p = piled_parts parts d m gs (settle m gs) p.0.0 p.0.1 p.1 (piled_settle gs m p.1)
piled_settle (made_goal object_owner d number ∷ gs) m p =
    piled_parts (object_parts (is_external (chain_at m.table number)) (chain_at m.table number)) d (assign m other_entry) gs
    (settle (assign m other_entry) gs)
    p.0.0 p.0.1 p.1 (piled_settle gs (assign m other_entry) p.1)
piled_settle (made_goal array_owner d number ∷ gs) m p = p
piled_settle (made_goal enum_owner d number ∷ gs) m p = let a = p.0.0 in let b = p.0.1 in ((a, omega arith), p.1)
piled_settle (made_goal class_owner d number ∷ gs) m p = piled_settle gs (assign m other_entry) p.1
piled_settle (close_goal number parent l ∷ gs) m p = piled_settle gs (closing m number (chain_at m.table parent ++ (l ∷ []))) p.1
piled_settle (fields_goal role d number kind flags seen codes zero ∷ gs) m p =
    piled_ending role d number flags (read_layer kind flags codes) gs p.0.0 p.0.1 p.1
piled_settle (fields_goal role d number kind flags seen codes (suc n) ∷ gs) m p = p
piled_settle (interfaces_goal role d number zero ∷ gs) m p = piled_ending role d number 0 proxy_layer gs p.0.0 p.0.1 p.1
piled_settle (interfaces_goal role d number (suc n) ∷ gs) m p = p
piled_settle (g ∷ gs) m p = p

-- one token

piled_value : (tag : Tag) (d : ℕ) (m : Moment) (gs : List Goal) → d ≤ length gs → length gs + 2 ≤ 3 * d → Piled gs
    → Piled (begin d m tag gs).1
piled_value null_tag d m gs a b p = p
piled_value reference_tag d m gs a b p = ((a, b), p)
piled_value class_desc_tag d m gs a b p = ((a, omega arith), p)
piled_value object_tag d m gs a b p = ((a, b), p)
piled_value string_tag d m gs a b p = ((a, omega arith), p)
piled_value array_tag d m gs a b p = ((a, b), p)
piled_value class_tag d m gs a b p = ((a, b), p)
piled_value long_string_tag d m gs a b p = ((a, omega arith), p)
piled_value proxy_desc_tag d m gs a b p = ((a, omega arith), p)
piled_value enum_tag d m gs a b p = ((a, b), p)

piled_text : (tag : Tag) (d : ℕ) (m : Moment) (gs : List Goal) → Piled (text_place_goal d ∷ gs)
    → Piled (advance_at m (text_place_goal d) gs (tag_token tag)).1
piled_text reference_tag d m gs p = p
piled_text string_tag d m gs p = p
piled_text long_string_tag d m gs p = p
piled_text tag d m gs p = p

piled_class : (tag : Tag) (owner : Owner) (d : ℕ) (m : Moment) (gs : List Goal) → Piled (class_goal owner d ∷ gs)
    → Piled (advance_at m (class_goal owner d) gs (tag_token tag)).1
piled_class reference_tag owner d m gs p = p
piled_class class_desc_tag owner d m gs p = let a = p.0.0 in let b = p.0.1 in ((omega arith, omega arith), (p.0, p.1))
piled_class proxy_desc_tag owner d m gs p = let a = p.0.0 in let b = p.0.1 in ((omega arith, omega arith), (p.0, p.1))
piled_class tag owner d m gs p = p

piled_superclass : (tag : Tag) (owner : ChainOwner) (strict : Bool) (d number : ℕ) (l : Layer) (m : Moment) (gs : List Goal)
    → Piled (superclass_goal owner strict d number l ∷ gs)
    → Piled (advance_at m (superclass_goal owner strict d number l) gs (tag_token tag)).1
piled_superclass reference_tag owner strict d number l m gs p = p
piled_superclass class_desc_tag owner strict d number l m gs p =
    let a = p.0.0 in let b = p.0.1 in ((omega arith, omega arith), (tt, p.1))
piled_superclass proxy_desc_tag owner strict d number l m gs p =
    let a = p.0.0 in let b = p.0.1 in ((omega arith, omega arith), (tt, p.1))
piled_superclass null_tag owner strict d number l m gs p = p.1
piled_superclass tag owner strict d number l m gs p = p

piled_type : (object : Bool) (d : ℕ) (fields : Goal) (gs : List Goal) → d ≤ length gs → length gs + 1 ≤ 3 * d
    → Piled (fields ∷ gs) → Piled (field_name_goal d ∷ type_goals object d (fields ∷ gs))
piled_type true d fields gs a b p = ((omega arith, omega arith), ((omega arith, omega arith), p))
piled_type false d fields gs a b p = ((omega arith, omega arith), p)

piled_at : (g : Goal) (f : StreamToken) (m : Moment) (gs : List Goal) → Piled (g ∷ gs) → Piled (advance_at m g gs f).1
piled_at header_goal header_token m gs p = p.1
piled_at top_goal (tag_token tag) m gs p = let a = p.0 in piled_value tag 1 m (top_goal ∷ gs) (omega arith) (omega arith) p
piled_at top_goal (block_tag_token long) m gs p = let a = p.0 in ((omega arith, omega arith), p)
piled_at top_goal reset_tag_token m gs p = p
piled_at (annotation_goal d) (tag_token tag) m gs p =
    let a = p.0.0 in let b = p.0.1 in piled_value tag (suc d) m (annotation_goal d ∷ gs) (omega arith) (omega arith) p
piled_at (annotation_goal d) (block_tag_token long) m gs p = let a = p.0.0 in let b = p.0.1 in ((omega arith, omega arith), p)
piled_at (annotation_goal d) end_tag_token m gs p = p.1
piled_at (parts_goal d (value_part ∷ parts)) (tag_token tag) m gs p =
    let a = p.0.0 in let b = p.0.1 in piled_value tag (suc d) m (parts_goal d parts ∷ gs) (omega arith) (omega arith) p
piled_at (parts_goal d (raw_part c (suc n) ∷ parts)) (prims_token ps) m gs p = p
piled_at (block_length_goal long d) (block_length_token long' n) m gs p = p
piled_at (block_goal d (suc n)) (bytes_token b) m gs p = p.1
piled_at (text_place_goal d) (tag_token tag) m gs p = piled_text tag d m gs p
piled_at (class_goal owner d) (tag_token tag) m gs p = piled_class tag owner d m gs p
piled_at (superclass_goal owner strict d number l) (tag_token tag) m gs p = piled_superclass tag owner strict d number l m gs p
piled_at (fields_goal role d number kind flags seen codes (suc n)) (code_token c) m gs p =
    piled_type (is_object_code c) d
    (fields_goal role d number kind flags (seen || is_object_code c) (c ∷ codes) n) gs p.0.0 p.0.1 p
piled_at (interfaces_goal role d number (suc n)) (text_token long u) m gs p = p
piled_at (back_handle_goal d) (handle_token n) m gs p = p.1
piled_at (text_handle_goal d) (handle_token n) m gs p = p.1
piled_at (class_handle_goal owner d) (handle_token n) m gs p = p
piled_at (superclass_handle_goal owner strict d number l) (handle_token n) m gs p = (tt, p.1)
piled_at (string_goal long d) (text_token long' u) m gs p = p.1
piled_at (field_name_goal d) (text_token long u) m gs p = p.1
piled_at (array_length_goal elements d) (array_length_token n) m gs p = p
piled_at (class_name_goal role d) (text_token long u) m gs p = p
piled_at (suid_goal role d kind) (suid_token n) m gs p = p
piled_at (flags_goal role d number kind) (flags_token f) m gs p = p
piled_at (field_count_goal role d number kind flags) (field_count_token n) m gs p = p
piled_at (interface_count_goal role d number) (interface_count_token n) m gs p = p
piled_at g f m gs p = p

piled_advance : (s : State) (f : StreamToken) → Piled s.1 → Piled (advance s f).1
piled_advance (m, []) f p = p
piled_advance (m, g ∷ gs) f p = piled_at g f m gs p

piled_settled : (s : State) → Piled s.1 → Piled (settled s).1
piled_settled (m, gs) p = piled_settle gs m p

piled_left : (front : List Piece) (s : State) → Piled s.1 → Piled (left s front).1
piled_left [] s p = p
piled_left (piece l f ∷ front) s p = piled_left front (advance (settled s) f) (piled_advance (settled s) f (piled_settled s p))

-- a settled stack does not begin with a closing

abbrev NoClose : List Goal → Type 0
NoClose (close_goal number parent l ∷ gs) = ⊥
NoClose _ = Unit {0}

no_close_parts : (parts : List Part) (d : ℕ) (m : Moment) (gs : List Goal) (s : State) → NoClose s.1
    → NoClose (settle_parts d parts m gs s).1
no_close_parts [] d m gs s h = h
no_close_parts (raw_part c zero ∷ parts) d m gs s h = no_close_parts parts d m gs s h
no_close_parts (raw_part c (suc n) ∷ parts) d m gs s h = tt
no_close_parts (value_part ∷ parts) d m gs s h = tt
no_close_parts (annotation_part ∷ parts) d m gs s h = tt

no_close : (gs : List Goal) (m : Moment) → NoClose (settle m gs).1
no_close [] m = tt
no_close (block_goal d zero ∷ gs) m = no_close gs m
no_close (block_goal d (suc n) ∷ gs) m = tt
no_close (parts_goal d parts ∷ gs) m = no_close_parts parts d m gs (settle m gs) (no_close gs m)
no_close (made_goal object_owner d number ∷ gs) m =
    no_close_parts (object_parts (is_external (chain_at m.table number)) (chain_at m.table number)) d (assign m other_entry) gs
    (settle (assign m other_entry) gs)
    (no_close gs (assign m other_entry))
no_close (made_goal array_owner d number ∷ gs) m = tt
no_close (made_goal enum_owner d number ∷ gs) m = tt
no_close (made_goal class_owner d number ∷ gs) m = no_close gs (assign m other_entry)
no_close (close_goal number parent l ∷ gs) m = no_close gs (closing m number (chain_at m.table parent ++ (l ∷ [])))
no_close (fields_goal role d number kind flags seen codes zero ∷ gs) m = tt
no_close (fields_goal role d number kind flags seen codes (suc n) ∷ gs) m = tt
no_close (interfaces_goal role d number zero ∷ gs) m = tt
no_close (interfaces_goal role d number (suc n) ∷ gs) m = tt
no_close (g ∷ gs) m = tt

bounds_parts : (parts : List Part) (d n : ℕ) → d ≤ n → n + 2 ≤ 3 * d → (depth_of_parts d parts ≤ suc n)
    × (suc n ≤ 3 * depth_of_parts d parts + 2)
bounds_parts [] d n a b = (omega arith, omega arith)
bounds_parts (raw_part c k ∷ parts) d n a b = (omega arith, omega arith)
bounds_parts (value_part ∷ parts) d n a b = (omega arith, omega arith)
bounds_parts (annotation_part ∷ parts) d n a b = (omega arith, omega arith)

bounds_at : (g : Goal) (gs : List Goal) → Below g (length gs) → NoClose (g ∷ gs) → (depth_of_goal g ≤ suc (length gs))
    × (suc (length gs) ≤ 3 * depth_of_goal g + 2)
bounds_at header_goal gs b h = (omega arith, omega arith)
bounds_at top_goal gs b h = (omega arith, omega arith)
bounds_at (parts_goal d parts) gs b h = bounds_parts parts d (length gs) b.0 b.1
bounds_at (close_goal number parent l) gs b h = absurd h
bounds_at (annotation_goal d) gs (a, b) h = (omega arith, omega arith)
bounds_at (back_handle_goal d) gs (a, b) h = (omega arith, omega arith)
bounds_at (text_place_goal d) gs (a, b) h = (omega arith, omega arith)
bounds_at (text_handle_goal d) gs (a, b) h = (omega arith, omega arith)
bounds_at (field_name_goal d) gs (a, b) h = (omega arith, omega arith)
bounds_at (string_goal long d) gs (a, b) h = (omega arith, omega arith)
bounds_at (block_length_goal long d) gs (a, b) h = (omega arith, omega arith)
bounds_at (block_goal d size) gs (a, b) h = (omega arith, omega arith)
bounds_at (array_length_goal elements d) gs (a, b) h = (omega arith, omega arith)
bounds_at (class_goal owner d) gs (a, b) h = (omega arith, omega arith)
bounds_at (class_handle_goal owner d) gs (a, b) h = (omega arith, omega arith)
bounds_at (made_goal owner d number) gs (a, b) h = (omega arith, omega arith)
bounds_at (superclass_goal owner strict d number l) gs (a, b) h = (omega arith, omega arith)
bounds_at (superclass_handle_goal owner strict d number l) gs (a, b) h = (omega arith, omega arith)
bounds_at (class_name_goal role d) gs (a, b) h = (omega arith, omega arith)
bounds_at (suid_goal role d kind) gs (a, b) h = (omega arith, omega arith)
bounds_at (flags_goal role d number kind) gs (a, b) h = (omega arith, omega arith)
bounds_at (field_count_goal role d number kind flags) gs (a, b) h = (omega arith, omega arith)
bounds_at (fields_goal role d number kind flags seen codes count) gs (a, b) h = (omega arith, omega arith)
bounds_at (interface_count_goal role d number) gs (a, b) h = (omega arith, omega arith)
bounds_at (interfaces_goal role d number count) gs (a, b) h = (omega arith, omega arith)

bounds : (s : State) → Piled s.1 → NoClose s.1 → ((label_of s).depth ≤ length s.1) × (length s.1 ≤ 3 * (label_of s).depth + 2)
bounds (m, []) p h = (omega arith, omega arith)
bounds (m, g ∷ gs) p h = bounds_at g gs p.0 h

settled_bounds : (s : State) → Piled s.1 → ((label_of (settled s)).depth ≤ length (settled s).1)
    × (length (settled s).1 ≤ 3 * (label_of (settled s)).depth + 2)
settled_bounds (m, gs) p = bounds (settle m gs) (piled_settle gs m p) (no_close gs m)

pub stack_law : StackIsBounded
stack_law front = settled_bounds (left begin_state front) (piled_left front begin_state (refl, (refl, tt)))
