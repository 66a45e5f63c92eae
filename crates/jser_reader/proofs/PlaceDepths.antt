-- No token lies deeper than one below the deepest place: a goal stands in a place that has begun, and a place that is to
-- begin next is one deeper.
use Rattle.std.proofs.Common.{◌≡◌, ℕ, zero, suc, ◌+◌, ◌≤◌, max, Bool, true, false, ◌||◌, List, [], ◌∷◌, ◌++◌, refl, sym, ◌∙◌, subst, arith}
use Rattle.jser_reading.proofs.Vocabulary.{other_entry, chain_at, Layer, is_object_code, proxy_layer, is_external, Owner, object_owner, array_owner, enum_owner, class_owner, ChainOwner, Role, Moment, assign, closing, Tag, null_tag, reference_tag, class_desc_tag, object_tag, string_tag, array_tag, class_tag, long_string_tag, proxy_desc_tag, enum_tag, StreamToken, header_token, tag_token, block_tag_token, end_tag_token, reset_tag_token, handle_token, suid_token, flags_token, field_count_token, interface_count_token, array_length_token, code_token, text_token, block_length_token, prims_token, bytes_token, Piece, piece, Part, raw_part, value_part, annotation_part, Goal, header_goal, top_goal, annotation_goal, back_handle_goal, text_place_goal, text_handle_goal, field_name_goal, string_goal, block_length_goal, block_goal, array_length_goal, parts_goal, class_goal, class_handle_goal, made_goal, superclass_goal, superclass_handle_goal, close_goal, class_name_goal, suid_goal, flags_goal, field_count_goal, fields_goal, interface_count_goal, interfaces_goal, State, object_parts, read_layer, ending, settle_parts, settle, settled, depth_of_parts, depth_of_goal, label_of, begin, type_goals, advance_at, advance, begin_state, left}
use Rattle.jser_reading.specs.Accepts.{position_of}
use Rattle.jser_reading.specs.GateLimits.{begins_place, gate_of}
use Rattle.jser_reading.specs.Machine.{Runs}
use Rattle.jser_reading.specs.Totals.{number_if, deepest}
use Rattle.jser_reading.proofs.Observed.{observed}
use Rattle.jser_reading.proofs.Told.{tokens_told_law}
use Rattle.jser_verdict.specs.Gates.{Gate, limits_of}
use Rattle.jser_verdict.proofs.Scanning.{scanning_verdict}
use Rattle.jser_verdict.proofs.Scans.{verdict_scans}
use Rattle.jser_verdict.proofs.SameWalks.{same_walk}
use Rattle.jser_reader.specs.Readers.{Seen}
use Rattle.jser_reader.specs.Walks.{HasTaken}

-- where no place is deeper than this
abbrev Deep : ℕ → Goal → Type 0
Deep D header_goal = Unit {0}
Deep D top_goal = Unit {0}
Deep D (annotation_goal d) = d ≤ D
Deep D (back_handle_goal d) = d ≤ D
Deep D (text_place_goal d) = d ≤ D
Deep D (text_handle_goal d) = d ≤ D
Deep D (field_name_goal d) = d ≤ D
Deep D (string_goal long d) = d ≤ D
Deep D (block_length_goal long d) = d ≤ D
Deep D (block_goal d size) = d ≤ D
Deep D (array_length_goal elements d) = d ≤ D
Deep D (parts_goal d parts) = d ≤ D
Deep D (class_goal owner d) = d ≤ D
Deep D (class_handle_goal owner d) = d ≤ D
Deep D (made_goal owner d number) = d ≤ D
Deep D (superclass_goal owner strict d number l) = d ≤ suc D
Deep D (superclass_handle_goal owner strict d number l) = d ≤ D
Deep D (close_goal number parent l) = Unit {0}
Deep D (class_name_goal role d) = d ≤ D
Deep D (suid_goal role d kind) = d ≤ D
Deep D (flags_goal role d number kind) = d ≤ D
Deep D (field_count_goal role d number kind flags) = d ≤ D
Deep D (fields_goal role d number kind flags seen codes count) = d ≤ D
Deep D (interface_count_goal role d number) = d ≤ D
Deep D (interfaces_goal role d number count) = d ≤ D

abbrev AllDeep : ℕ → List Goal → Type 0
AllDeep D [] = Unit {0}
AllDeep D (g ∷ gs) = Deep D g × AllDeep D gs

-- goals that take no token

deep_parts : (D : ℕ) (parts : List Part) (d : ℕ) (m : Moment) (gs : List Goal) (s : State) → d ≤ D → AllDeep D gs → AllDeep D s.1
    → AllDeep D (settle_parts d parts m gs s).1
deep_parts D [] d m gs s a p h = h
deep_parts D (raw_part c zero ∷ parts) d m gs s a p h = deep_parts D parts d m gs s a p h
deep_parts D (raw_part c (suc n) ∷ parts) d m gs s a p h = (a, p)
deep_parts D (value_part ∷ parts) d m gs s a p h = (a, p)
deep_parts D (annotation_part ∷ parts) d m gs s a p h = (a, (a, p))

deep_ending : (D : ℕ) (role : Role) (d number flags : ℕ) (l : Layer) (gs : List Goal) → d ≤ D → AllDeep D gs → AllDeep D (ending role d number flags l gs)
deep_ending D role d number flags l gs a p = (a, (omega arith, p))

deep_settle : (D : ℕ) (gs : List Goal) (m : Moment) → AllDeep D gs → AllDeep D (settle m gs).1
deep_settle D [] m p = p
deep_settle D (block_goal d zero ∷ gs) m p = deep_settle D gs m p.1
deep_settle D (block_goal d (suc n) ∷ gs) m p = p
deep_settle D (parts_goal d parts ∷ gs) m p = deep_parts D parts d m gs (settle m gs) p.0 p.1 (deep_settle D gs m p.1)
deep_settle D (made_goal object_owner d number ∷ gs) m p =
    deep_parts D (object_parts (is_external (chain_at m.table number)) (chain_at m.table number)) d (assign m other_entry) gs
    (settle (assign m other_entry) gs) p.0 p.1 (deep_settle D gs (assign m other_entry) p.1)
deep_settle D (made_goal array_owner d number ∷ gs) m p = p
deep_settle D (made_goal enum_owner d number ∷ gs) m p = p
deep_settle D (made_goal class_owner d number ∷ gs) m p = deep_settle D gs (assign m other_entry) p.1
deep_settle D (close_goal number parent l ∷ gs) m p = deep_settle D gs (closing m number (chain_at m.table parent ++ (l ∷ []))) p.1
deep_settle D (fields_goal role d number kind flags seen codes zero ∷ gs) m p = deep_ending D role d number flags (read_layer kind flags codes) gs p.0 p.1
deep_settle D (fields_goal role d number kind flags seen codes (suc n) ∷ gs) m p = p
deep_settle D (interfaces_goal role d number zero ∷ gs) m p = deep_ending D role d number 0 proxy_layer gs p.0 p.1
deep_settle D (interfaces_goal role d number (suc n) ∷ gs) m p = p
deep_settle D (g ∷ gs) m p = p

-- one token

deep_value : (D : ℕ) (tag : Tag) (d : ℕ) (m : Moment) (gs : List Goal) → d ≤ D → AllDeep D gs → AllDeep D (begin d m tag gs).1
deep_value D null_tag d m gs a p = p
deep_value D reference_tag d m gs a p = (a, p)
deep_value D class_desc_tag d m gs a p = (a, p)
deep_value D object_tag d m gs a p = (a, p)
deep_value D string_tag d m gs a p = (a, p)
deep_value D array_tag d m gs a p = (a, p)
deep_value D class_tag d m gs a p = (a, p)
deep_value D long_string_tag d m gs a p = (a, p)
deep_value D proxy_desc_tag d m gs a p = (a, p)
deep_value D enum_tag d m gs a p = (a, p)

deep_text : (D : ℕ) (tag : Tag) (d : ℕ) (m : Moment) (gs : List Goal) → AllDeep D (text_place_goal d ∷ gs)
    → AllDeep D (advance_at m (text_place_goal d) gs (tag_token tag)).1
deep_text D reference_tag d m gs p = p
deep_text D string_tag d m gs p = p
deep_text D long_string_tag d m gs p = p
deep_text D tag d m gs p = p

deep_class : (D : ℕ) (tag : Tag) (owner : Owner) (d : ℕ) (m : Moment) (gs : List Goal) → AllDeep D (class_goal owner d ∷ gs)
    → AllDeep D (advance_at m (class_goal owner d) gs (tag_token tag)).1
deep_class D reference_tag owner d m gs p = p
deep_class D class_desc_tag owner d m gs p = (p.0, (p.0, p.1))
deep_class D proxy_desc_tag owner d m gs p = (p.0, (p.0, p.1))
deep_class D tag owner d m gs p = p

deep_superclass : (D : ℕ) (tag : Tag) (owner : ChainOwner) (strict : Bool) (d number : ℕ) (l : Layer) (m : Moment) (gs : List Goal)
    → d ≤ D → AllDeep D (superclass_goal owner strict d number l ∷ gs)
    → AllDeep D (advance_at m (superclass_goal owner strict d number l) gs (tag_token tag)).1
deep_superclass D reference_tag owner strict d number l m gs a p = (a, p.1)
deep_superclass D class_desc_tag owner strict d number l m gs a p = (a, (tt, p.1))
deep_superclass D proxy_desc_tag owner strict d number l m gs a p = (a, (tt, p.1))
deep_superclass D null_tag owner strict d number l m gs a p = p.1
deep_superclass D tag owner strict d number l m gs a p = p

deep_type : (D : ℕ) (object : Bool) (d : ℕ) (fields : Goal) (gs : List Goal) → d ≤ D → AllDeep D (fields ∷ gs)
    → AllDeep D (field_name_goal d ∷ type_goals object d (fields ∷ gs))
deep_type D true d fields gs a p = (a, (a, p))
deep_type D false d fields gs a p = (a, p)

-- a place that begins is no deeper either
deep_at : (D : ℕ) (g : Goal) (f : StreamToken) (m : Moment) (gs : List Goal) → (begins_place (position_of g) f ≡ true → depth_of_goal g ≤ D)
    → AllDeep D (g ∷ gs) → AllDeep D (advance_at m g gs f).1
deep_at D header_goal header_token m gs k p = p.1
deep_at D top_goal (tag_token tag) m gs k p = deep_value D tag 1 m (top_goal ∷ gs) (k refl) p
deep_at D top_goal (block_tag_token long) m gs k p = (omega arith, p)
deep_at D top_goal reset_tag_token m gs k p = p
deep_at D (annotation_goal d) (tag_token tag) m gs k p = deep_value D tag (suc d) m (annotation_goal d ∷ gs) (k refl) p
deep_at D (annotation_goal d) (block_tag_token long) m gs k p = (p.0, p)
deep_at D (annotation_goal d) end_tag_token m gs k p = p.1
deep_at D (parts_goal d (value_part ∷ parts)) (tag_token tag) m gs k p = deep_value D tag (suc d) m (parts_goal d parts ∷ gs) (k refl) p
deep_at D (parts_goal d (raw_part c (suc n) ∷ parts)) (prims_token ps) m gs k p = p
deep_at D (block_length_goal long d) (block_length_token long' n) m gs k p = p
deep_at D (block_goal d (suc n)) (bytes_token b) m gs k p = p.1
deep_at D (text_place_goal d) (tag_token tag) m gs k p = deep_text D tag d m gs p
deep_at D (class_goal owner d) (tag_token tag) m gs k p = deep_class D tag owner d m gs p
deep_at D (superclass_goal owner strict d number l) (tag_token tag) m gs k p = deep_superclass D tag owner strict d number l m gs (k refl) p
deep_at D (fields_goal role d number kind flags seen codes (suc n)) (code_token c) m gs k p =
    deep_type D (is_object_code c) d (fields_goal role d number kind flags (seen || is_object_code c) (c ∷ codes) n) gs p.0 p
deep_at D (interfaces_goal role d number (suc n)) (text_token long u) m gs k p = p
deep_at D (back_handle_goal d) (handle_token n) m gs k p = p.1
deep_at D (text_handle_goal d) (handle_token n) m gs k p = p.1
deep_at D (class_handle_goal owner d) (handle_token n) m gs k p = p
deep_at D (superclass_handle_goal owner strict d number l) (handle_token n) m gs k p = (tt, p.1)
deep_at D (string_goal long d) (text_token long' u) m gs k p = p.1
deep_at D (field_name_goal d) (text_token long u) m gs k p = p.1
deep_at D (array_length_goal elements d) (array_length_token n) m gs k p = p
deep_at D (class_name_goal role d) (text_token long u) m gs k p = p
deep_at D (suid_goal role d kind) (suid_token n) m gs k p = p
deep_at D (flags_goal role d number kind) (flags_token f) m gs k p = p
deep_at D (field_count_goal role d number kind flags) (field_count_token n) m gs k p = p
deep_at D (interface_count_goal role d number) (interface_count_token n) m gs k p = p
deep_at D g f m gs k p = p

deep_advance : (D : ℕ) (s : State) (f : StreamToken) → (begins_place (label_of s).position f ≡ true → (label_of s).depth ≤ D) → AllDeep D s.1
    → AllDeep D (advance s f).1
deep_advance D (m, []) f k p = p
deep_advance D (m, g ∷ gs) f k p = deep_at D g f m gs k p

deep_settled : (D : ℕ) (s : State) → AllDeep D s.1 → AllDeep D (settled s).1
deep_settled D (m, gs) p = deep_settle D gs m p

-- ---- the tokens that were taken

deep_left : (D : ℕ) (front : List Piece) (s : State) → Runs s front → deepest front ≤ D → AllDeep D s.1 → AllDeep D (left s front).1
deep_left D [] s r h p = p
deep_left D (piece l f ∷ front) s r h p =
    deep_left D front (advance (settled s) f) r.2 (omega arith)
    (deep_advance D (settled s) f
    (subst (λ k. begins_place k.position f ≡ true → k.depth ≤ D) r.0 (begun (begins_place l.position f) l.depth (deepest front) h)) (deep_settled D s p))
  where
    begun : (b : Bool) (n k : ℕ) → max (number_if b n) k ≤ D → b ≡ true → n ≤ D
    begun true n k h e = omega arith
    begun false n k h e = absurd (cc)

-- the depth of the token that is next

deep_parts_label : (D d : ℕ) (parts : List Part) → d ≤ D → depth_of_parts d parts ≤ D + 1
deep_parts_label D d [] a = omega arith
deep_parts_label D d (raw_part c n ∷ parts) a = omega arith
deep_parts_label D d (value_part ∷ parts) a = omega arith
deep_parts_label D d (annotation_part ∷ parts) a = omega arith

deep_goal : (D : ℕ) (g : Goal) → Deep D g → depth_of_goal g ≤ D + 1
deep_goal D header_goal a = omega arith
deep_goal D top_goal a = omega arith
deep_goal D (parts_goal d parts) a = deep_parts_label D d parts a
deep_goal D (close_goal number parent l) a = omega arith
deep_goal D (annotation_goal d) a = omega arith
deep_goal D (back_handle_goal d) a = omega arith
deep_goal D (text_place_goal d) a = omega arith
deep_goal D (text_handle_goal d) a = omega arith
deep_goal D (field_name_goal d) a = omega arith
deep_goal D (string_goal long d) a = omega arith
deep_goal D (block_length_goal long d) a = omega arith
deep_goal D (block_goal d size) a = omega arith
deep_goal D (array_length_goal elements d) a = omega arith
deep_goal D (class_goal owner d) a = omega arith
deep_goal D (class_handle_goal owner d) a = omega arith
deep_goal D (made_goal owner d number) a = omega arith
deep_goal D (superclass_goal owner strict d number l) a = omega arith
deep_goal D (superclass_handle_goal owner strict d number l) a = omega arith
deep_goal D (class_name_goal role d) a = omega arith
deep_goal D (suid_goal role d kind) a = omega arith
deep_goal D (flags_goal role d number kind) a = omega arith
deep_goal D (field_count_goal role d number kind flags) a = omega arith
deep_goal D (fields_goal role d number kind flags seen codes count) a = omega arith
deep_goal D (interface_count_goal role d number) a = omega arith
deep_goal D (interfaces_goal role d number count) a = omega arith

deep_label : (D : ℕ) (s : State) → AllDeep D s.1 → (label_of s).depth ≤ D + 1
deep_label D (m, []) p = omega arith
deep_label D (m, g ∷ gs) p = deep_goal D g p.0

-- the machine is in a token one deeper than the gate allows at most
pub depth_within : (gate : Gate) (bytes : List ℕ) (r : Seen) (h : HasTaken gate bytes r)
    → (label_of (settled (left begin_state h.tokens))).depth ≤ gate.depth + 1
depth_within gate bytes r h =
    let s : State = left begin_state h.tokens in
    let x = tokens_told_law (gate_of (limits_of gate)) (scanning_verdict gate) (verdict_scans gate) bytes h.cut s (sym (same_walk gate bytes h.all_bytes) ∙ h.walked) in
    let o = observed (limits_of gate) x.0 x.2 in
    let p : AllDeep gate.depth (left begin_state x.0).1 = deep_left gate.depth x.0 begin_state x.1 o.depth (tt, (tt, tt)) in
    deep_label gate.depth (settled s) (deep_settled gate.depth s (subst (λ t. AllDeep gate.depth t.1) x.3 p))
