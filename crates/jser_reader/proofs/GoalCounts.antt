-- What one token adds to the table and to the number of places, told by its position. A handle that is owed to an owner
-- is assigned when its class has been read, so the goals below a class or a superclass place tell whether one is owed.
use Rattle.std.proofs.Common.{◌≡◌, ℕ, zero, suc, ◌+◌, Bool, true, false, ◌||◌, is_some, List, [], ◌∷◌, ◌++◌, length, Some, None, refl, sym, ◌∙◌, ap, ap₂, arith}
use Rattle.jser_reading.proofs.Vocabulary.{text_entry, other_entry, pending_entry, chain_at, Layer, is_object_code, is_external, Entries, Owner, object_owner, array_owner, enum_owner, class_owner, ChainOwner, owner_of, Moment, tick, assign, closing, Tag, null_tag, reference_tag, class_desc_tag, object_tag, string_tag, array_tag, class_tag, long_string_tag, proxy_desc_tag, enum_tag, StreamToken, header_token, tag_token, block_tag_token, end_tag_token, reset_tag_token, handle_token, suid_token, flags_token, field_count_token, interface_count_token, array_length_token, code_token, text_token, block_length_token, prims_token, bytes_token, Position, top_at, annotation_at, value_at, text_place_at, class_place_at, superclass_place_at, superclass_handle_at, Label, Piece, piece, Part, raw_part, value_part, annotation_part, Goal, header_goal, top_goal, annotation_goal, back_handle_goal, text_place_goal, text_handle_goal, field_name_goal, string_goal, block_length_goal, block_goal, array_length_goal, parts_goal, class_goal, class_handle_goal, made_goal, superclass_goal, superclass_handle_goal, close_goal, class_name_goal, suid_goal, flags_goal, field_count_goal, fields_goal, interface_count_goal, interfaces_goal, State, object_parts, settle_parts, settle, settled, position_of, label_of, AcceptsAt, Accepts, begin, type_goals, advance_at, advance, begin_state, Runs, left}
use Rattle.jser_reading.specs.GateLimits.{begins_place, assigns_handle}
use Rattle.jser_reading.specs.Totals.{one_more_if, count_of}
use Rattle.jser_grammar.proofs.TableLemmas.{length-add, length-close}
use Rattle.jser_reader.specs.Tallies.{ended_by, earlier_handles}

-- settling these goals assigns a handle
abbrev pub makes : List Goal → Bool
makes [] = false
makes (made_goal owner d number ∷ goals) = true
makes (close_goal number parent layer ∷ goals) = makes goals
makes (goal ∷ goals) = false

-- whether the goals below this one assign a handle: they do below a descriptor whose chain has an owner
abbrev Below : Goal → Bool → Type 0
Below (superclass_goal owner strict d number layer) b = b ≡ is_some owner
Below (superclass_handle_goal owner strict d number layer) b = b ≡ is_some owner
Below (close_goal number parent layer) b = Unit {0}
Below (class_name_goal role d) b = b ≡ is_some (owner_of role)
Below (suid_goal role d kind) b = b ≡ is_some (owner_of role)
Below (flags_goal role d number kind) b = b ≡ is_some (owner_of role)
Below (field_count_goal role d number kind flags) b = b ≡ is_some (owner_of role)
Below (fields_goal role d number kind flags seen codes count) b = b ≡ is_some (owner_of role)
Below (interface_count_goal role d number) b = b ≡ is_some (owner_of role)
Below (interfaces_goal role d number count) b = b ≡ is_some (owner_of role)
Below _ b = b ≡ false

abbrev pub Orderly : List Goal → Type 0
Orderly [] = Unit {0}
Orderly (goal ∷ goals) = Below goal (makes goals) × Orderly goals

-- ---- goals that take no token

-- so many places went by, the table has so many entries, and the goals are in order
abbrev pub Has : State → (places entries : ℕ) → Type 0
Has s places entries = (s.0.places ≡ places) × (length s.0.table ≡ entries) × Orderly s.1

same_entries : (s : State) (p n k : ℕ) → n ≡ k → Has s p n → Has s p k
same_entries s p n k e h = (h.0, h.1 ∙ e, h.2)

still : (s : State) (b : Bool) (p n : ℕ) → b ≡ false → Has s p (one_more_if b n) → Has s p n
still s b p n e h = same_entries s p (one_more_if b n) n (ap (λ b. one_more_if b n) e) h

settles_parts : (parts : List Part) (d : ℕ) (m : Moment) (gs : List Goal) (s : State) → makes gs ≡ false → Orderly gs
    → Has s m.places (length m.table) → Has (settle_parts d parts m gs s) m.places (length m.table)
settles_parts [] d m gs s e o h = h
settles_parts (raw_part c zero ∷ parts) d m gs s e o h = settles_parts parts d m gs s e o h
settles_parts (raw_part c (suc n) ∷ parts) d m gs s e o h = (refl, refl, (e, o))
settles_parts (value_part ∷ parts) d m gs s e o h = (refl, refl, (e, o))
settles_parts (annotation_part ∷ parts) d m gs s e o h = (refl, refl, (refl, (e, o)))

settles : (gs : List Goal) (m : Moment) → Orderly gs → Has (settle m gs) m.places (one_more_if (makes gs) (length m.table))
settles [] m o = (refl, refl, o)
settles (block_goal d zero ∷ gs) m o = still (settle m gs) (makes gs) m.places (length m.table) o.0 (settles gs m o.1)
settles (block_goal d (suc n) ∷ gs) m o = (refl, refl, o)
settles (parts_goal d parts ∷ gs) m o =
    settles_parts parts d m gs (settle m gs) o.0 o.1 (still (settle m gs) (makes gs) m.places (length m.table) o.0 (settles gs m o.1))
settles (made_goal object_owner d number ∷ gs) m o =
    let made = assign m other_entry in
    let chain = chain_at m.table number in
    same_entries (settle_parts d (object_parts (is_external chain) chain) made gs (settle made gs)) m.places (length made.table) (suc (length m.table)) (length-add m.table other_entry)
    (settles_parts (object_parts (is_external chain) chain) d made gs (settle made gs) o.0 o.1
    (still (settle made gs) (makes gs) m.places (length made.table) o.0 (settles gs made o.1)))
settles (made_goal array_owner d number ∷ gs) m o = (refl, length-add m.table other_entry, o)
settles (made_goal enum_owner d number ∷ gs) m o = (refl, length-add m.table other_entry, o)
settles (made_goal class_owner d number ∷ gs) m o =
    let made = assign m other_entry in
    same_entries (settle made gs) m.places (length made.table) (suc (length m.table)) (length-add m.table other_entry)
    (still (settle made gs) (makes gs) m.places (length made.table) o.0 (settles gs made o.1))
settles (close_goal number parent l ∷ gs) m o =
    let chain = chain_at m.table parent ++ (l ∷ []) in
    let closed = closing m number chain in
    same_entries (settle closed gs) m.places (one_more_if (makes gs) (length closed.table)) (one_more_if (makes gs) (length m.table))
    (ap (one_more_if (makes gs)) (length-close m.table number chain)) (settles gs closed o.1)
settles (fields_goal role d number kind flags seen codes zero ∷ gs) m o = (refl, refl, (refl, o))
settles (fields_goal role d number kind flags seen codes (suc n) ∷ gs) m o = (refl, refl, o)
settles (interfaces_goal role d number zero ∷ gs) m o = (refl, refl, (refl, o))
settles (interfaces_goal role d number (suc n) ∷ gs) m o = (refl, refl, o)
settles (g ∷ gs) m o = (refl, refl, o)

-- ---- one token

-- how many entries there are after this token
abbrev pub entries_after : Position → StreamToken → ℕ → ℕ
entries_after position reset_tag_token n = 0
entries_after position token n = one_more_if (assigns_handle position token) n

-- `Has`, of a state that is not settled
abbrev Leads : State → (places entries : ℕ) → Type 0
Leads s places entries = (s.0.places ≡ places) × (one_more_if (makes s.1) (length s.0.table) ≡ entries) × Orderly s.1

-- the tag of a value assigns a handle
abbrev by_tag : Tag → Bool
by_tag tag = assigns_handle value_at (tag_token tag)

by_content_tag : (tag : Tag) → (by_tag tag ≡ assigns_handle top_at (tag_token tag)) × (by_tag tag ≡ assigns_handle annotation_at (tag_token tag))
by_content_tag null_tag = (refl, refl)
by_content_tag reference_tag = (refl, refl)
by_content_tag class_desc_tag = (refl, refl)
by_content_tag object_tag = (refl, refl)
by_content_tag string_tag = (refl, refl)
by_content_tag array_tag = (refl, refl)
by_content_tag class_tag = (refl, refl)
by_content_tag long_string_tag = (refl, refl)
by_content_tag proxy_desc_tag = (refl, refl)
by_content_tag enum_tag = (refl, refl)

none_made : (b : Bool) (n : ℕ) → b ≡ false → one_more_if b n ≡ n
none_made b n e = ap (λ b. one_more_if b n) e

leads_value : (tag : Tag) (d : ℕ) (m : Moment) (gs : List Goal) → makes gs ≡ false → Orderly gs
    → Leads (begin d m tag gs) (suc m.places) (one_more_if (by_tag tag) (length m.table))
leads_value null_tag d m gs e o = (refl, none_made (makes gs) (length m.table) e, o)
leads_value reference_tag d m gs e o = (refl, refl, (e, o))
leads_value class_desc_tag d m gs e o = (refl, refl, (e, o))
leads_value object_tag d m gs e o = (refl, refl, (e, o))
leads_value string_tag d m gs e o = (refl, length-add m.table text_entry, (e, o))
leads_value array_tag d m gs e o = (refl, refl, (e, o))
leads_value class_tag d m gs e o = (refl, refl, (e, o))
leads_value long_string_tag d m gs e o = (refl, length-add m.table text_entry, (e, o))
leads_value proxy_desc_tag d m gs e o = (refl, length-add m.table pending_entry, (e, o))
leads_value enum_tag d m gs e o = (refl, refl, (e, o))

leads_content : (tag : Tag) (b : Bool) (s : State) (p n : ℕ) → by_tag tag ≡ b → Leads s p (one_more_if (by_tag tag) n) → Leads s p (one_more_if b n)
leads_content tag b s p n e h = (h.0, h.1 ∙ ap (λ b. one_more_if b n) e, h.2)

-- what stands at this goal, and the token is taken there
abbrev Taken : Moment → Goal → List Goal → StreamToken → Type 0
Taken m g gs f =
    Leads (advance_at m g gs f) (one_more_if (begins_place (position_of g) f) m.places) (entries_after (position_of g) f (length m.table))

leads_text : (tag : Tag) (d : ℕ) (m : Moment) (gs : List Goal) → Orderly (text_place_goal d ∷ gs)
    → AcceptsAt text_place_at m (tag_token tag) → Taken m (text_place_goal d) gs (tag_token tag)
leads_text reference_tag d m gs o a = (refl, refl, o)
leads_text string_tag d m gs o a = (refl, length-add m.table text_entry, o)
leads_text long_string_tag d m gs o a = (refl, length-add m.table text_entry, o)
leads_text _ d m gs o a = absurd a

leads_class : (tag : Tag) (owner : Owner) (d : ℕ) (m : Moment) (gs : List Goal) → Orderly (class_goal owner d ∷ gs)
    → AcceptsAt (class_place_at owner) m (tag_token tag) → Taken m (class_goal owner d) gs (tag_token tag)
leads_class reference_tag owner d m gs o a = (refl, refl, o)
leads_class class_desc_tag owner d m gs o a = (refl, refl, (refl, o))
leads_class proxy_desc_tag owner d m gs o a = (refl, length-add m.table pending_entry, (refl, o))
leads_class _ owner d m gs o a = absurd a

leads_superclass : (tag : Tag) (owner : ChainOwner) (strict : Bool) (d number : ℕ) (l : Layer) (m : Moment) (gs : List Goal)
    → Orderly (superclass_goal owner strict d number l ∷ gs) → AcceptsAt (superclass_place_at owner strict) m (tag_token tag)
    → Taken m (superclass_goal owner strict d number l) gs (tag_token tag)
leads_superclass null_tag None strict d number l m gs o a =
    (refl, none_made (makes gs) (length (closing (tick m) number (l ∷ [])).table) o.0 ∙ length-close m.table number (l ∷ []), o.1)
leads_superclass null_tag (Some owner) strict d number l m gs o a =
    (refl, ap (λ b. one_more_if b (length (closing (tick m) number (l ∷ [])).table)) o.0 ∙ ap (λ n. suc n) (length-close m.table number (l ∷ [])), o.1)
leads_superclass reference_tag None strict d number l m gs o a = (refl, refl, o)
leads_superclass reference_tag (Some owner) strict d number l m gs o a = (refl, refl, o)
leads_superclass class_desc_tag None strict d number l m gs o a = (refl, refl, (o.0, (tt, o.1)))
leads_superclass class_desc_tag (Some owner) strict d number l m gs o a = (refl, refl, (o.0, (tt, o.1)))
leads_superclass proxy_desc_tag None strict d number l m gs o a = (refl, length-add m.table pending_entry, (o.0, (tt, o.1)))
leads_superclass proxy_desc_tag (Some owner) strict d number l m gs o a = (refl, length-add m.table pending_entry, (o.0, (tt, o.1)))
leads_superclass _ owner strict d number l m gs o a = absurd a

leads_superclass_handle : (owner : ChainOwner) (n : ℕ) (strict : Bool) (d number : ℕ) (l : Layer) (m : Moment) (gs : List Goal)
    → Orderly (superclass_handle_goal owner strict d number l ∷ gs)
    → Taken m (superclass_handle_goal owner strict d number l) gs (handle_token n)
leads_superclass_handle None n strict d number l m gs o = (refl, none_made (makes gs) (length m.table) o.0, (tt, o.1))
leads_superclass_handle (Some owner) n strict d number l m gs o = (refl, ap (λ b. one_more_if b (length m.table)) o.0, (tt, o.1))

leads_type : (object : Bool) (d : ℕ) (m : Moment) (fields : Goal) (gs : List Goal) → makes (fields ∷ gs) ≡ false → Orderly (fields ∷ gs)
    → Leads (m, field_name_goal d ∷ type_goals object d (fields ∷ gs)) m.places (length m.table)
leads_type true d m fields gs e o = (refl, refl, (refl, (e, o)))
leads_type false d m fields gs e o = (refl, refl, (e, o))

leads : (g : Goal) (f : StreamToken) (m : Moment) (gs : List Goal) → Orderly (g ∷ gs) → AcceptsAt (position_of g) m f → Taken m g gs f
leads header_goal header_token m gs o a = (refl, none_made (makes gs) (length m.table) o.0, o.1)
leads top_goal (tag_token tag) m gs o a =
    leads_content tag (assigns_handle top_at (tag_token tag)) (begin 1 m tag (top_goal ∷ gs)) (suc m.places) (length m.table) (by_content_tag tag).0
    (leads_value tag 1 m (top_goal ∷ gs) refl o)
leads top_goal (block_tag_token long) m gs o a = (refl, refl, (refl, o))
leads top_goal reset_tag_token m gs o a = (refl, refl, o)
leads (annotation_goal d) (tag_token tag) m gs o a =
    leads_content tag (assigns_handle annotation_at (tag_token tag)) (begin (suc d) m tag (annotation_goal d ∷ gs)) (suc m.places) (length m.table) (by_content_tag tag).1
    (leads_value tag (suc d) m (annotation_goal d ∷ gs) refl o)
leads (annotation_goal d) (block_tag_token long) m gs o a = (refl, refl, (refl, o))
leads (annotation_goal d) end_tag_token m gs o a = (refl, none_made (makes gs) (length m.table) o.0, o.1)
leads (parts_goal d (value_part ∷ parts)) (tag_token tag) m gs o a = leads_value tag (suc d) m (parts_goal d parts ∷ gs) refl o
leads (parts_goal d (raw_part c (suc n) ∷ parts)) (prims_token ps) m gs o a = (refl, refl, o)
leads (block_length_goal long d) (block_length_token long' n) m gs o a = (refl, refl, o)
leads (block_goal d (suc n)) (bytes_token b) m gs o a = (refl, none_made (makes gs) (length m.table) o.0, o.1)
leads (text_place_goal d) (tag_token tag) m gs o a = leads_text tag d m gs o a
leads (class_goal owner d) (tag_token tag) m gs o a = leads_class tag owner d m gs o a
leads (superclass_goal owner strict d number l) (tag_token tag) m gs o a = leads_superclass tag owner strict d number l m gs o a
leads (superclass_handle_goal owner strict d number l) (handle_token n) m gs o a = leads_superclass_handle owner n strict d number l m gs o
leads (fields_goal role d number kind flags seen codes (suc n)) (code_token c) m gs o a =
    leads_type (is_object_code c) d m (fields_goal role d number kind flags (seen || is_object_code c) (c ∷ codes) n) gs refl o
leads (interfaces_goal role d number (suc n)) (text_token long u) m gs o a = (refl, refl, o)
leads (back_handle_goal d) (handle_token n) m gs o a = (refl, none_made (makes gs) (length m.table) o.0, o.1)
leads (text_handle_goal d) (handle_token n) m gs o a = (refl, none_made (makes gs) (length m.table) o.0, o.1)
leads (class_handle_goal owner d) (handle_token n) m gs o a = (refl, refl, o)
leads (string_goal long d) (text_token long' u) m gs o a = (refl, none_made (makes gs) (length m.table) o.0, o.1)
leads (field_name_goal d) (text_token long u) m gs o a = (refl, none_made (makes gs) (length m.table) o.0, o.1)
leads (array_length_goal elements d) (array_length_token n) m gs o a = (refl, refl, o)
leads (class_name_goal role d) (text_token long u) m gs o a = (refl, refl, o)
leads (suid_goal role d kind) (suid_token n) m gs o a = (refl, length-add m.table pending_entry, o)
leads (flags_goal role d number kind) (flags_token f) m gs o a = (refl, refl, o)
leads (field_count_goal role d number kind flags) (field_count_token n) m gs o a = (refl, refl, o)
leads (interface_count_goal role d number) (interface_count_token n) m gs o a = (refl, refl, o)
leads (string_goal true d) _ m gs o a = absurd a
leads (block_length_goal true d) _ m gs o a = absurd a
leads _ _ m gs o a = absurd a

settled_leads : (s : State) (places entries : ℕ) → Leads s places entries → Has (settled s) places entries
settled_leads (m, gs) places entries h = let k = settles gs m h.2 in (k.0 ∙ h.0, k.1 ∙ h.1, k.2)

-- a token that is taken adds a place where its label begins one, and an entry where it assigns a handle
pub one_token : (s : State) (f : StreamToken) → Orderly s.1 → Accepts (label_of s) f
    → Has (settled (advance s f)) (one_more_if (begins_place (label_of s).position f) s.0.places)
    (entries_after (label_of s).position f (length s.0.table))
one_token (m, []) f o a = absurd a
one_token (m, g ∷ gs) f o a =
    settled_leads (advance_at m g gs f) (one_more_if (begins_place (position_of g) f) m.places) (entries_after (position_of g) f (length m.table))
    (leads g f m gs o a)

-- ---- all tokens

pub label_moment : (s : State) → (label_of s).moment ≡ s.0
label_moment (m, []) = refl
label_moment (m, g ∷ gs) = refl

one_more_in : (b : Bool) (n k : ℕ) → one_more_if b n + k ≡ n + one_more_if b k
one_more_in true n k = omega arith
one_more_in false n k = refl

reset_assigns_none : (position : Position) → assigns_handle position reset_tag_token ≡ false
reset_assigns_none (superclass_place_at None strict) = refl
reset_assigns_none (superclass_place_at (Some owner) strict) = refl
reset_assigns_none (superclass_handle_at None strict) = refl
reset_assigns_none (superclass_handle_at (Some owner) strict) = refl
reset_assigns_none _ = refl

entries_in : (f : StreamToken) (position : Position) (T : Entries) (k : ℕ)
    → ended_by f T + (entries_after position f (length T) + k) ≡ length T + one_more_if (assigns_handle position f) k
entries_in reset_tag_token position T k = let e : one_more_if (assigns_handle position reset_tag_token) k ≡ k = ap (λ b. one_more_if b k) (reset_assigns_none position) in omega arith
entries_in f position T k = let e = one_more_in (assigns_handle position f) (length T) k in omega arith

-- Along tokens that the machine takes from s on to t one counts the places and the handles by which t differs from s.
pub record CountedTo (s t : State) (tokens : List Piece) : Type 0 where
  pub places : t.0.places ≡ s.0.places + count_of begins_place tokens
  pub handles : earlier_handles tokens + length t.0.table ≡ length s.0.table + count_of assigns_handle tokens
  pub orderly : Orderly t.1

counted_on : (f : StreamToken) (l : Label) (s t u : State) (tokens : List Piece) → l ≡ label_of s
    → Has t (one_more_if (begins_place (label_of s).position f) s.0.places) (entries_after (label_of s).position f (length s.0.table))
    → CountedTo t u tokens → CountedTo s u (piece l f ∷ tokens)
counted_on f l s t u tokens e h c =
    let place : begins_place (label_of s).position f ≡ begins_place l.position f = ap (λ l. begins_place l.position f) (sym e) in
    let handle : assigns_handle (label_of s).position f ≡ assigns_handle l.position f = ap (λ l. assigns_handle l.position f) (sym e) in
    let ended : ended_by f l.moment.table ≡ ended_by f s.0.table = ap (λ m. ended_by f m.table) (ap (λ l. l.moment) e ∙ label_moment s) in
    let n = entries_in f (label_of s).position s.0.table (count_of assigns_handle tokens) in
    let a = c.handles in
    let b = h.1 in
    record {
      places =
          c.places ∙ ap (λ n. n + count_of begins_place tokens) h.0
          ∙ one_more_in (begins_place (label_of s).position f) s.0.places (count_of begins_place tokens)
          ∙ ap (λ b. s.0.places + one_more_if b (count_of begins_place tokens)) place;
      handles =
          sums (ended_by f l.moment.table) (earlier_handles tokens) (length u.0.table) (length t.0.table) (count_of assigns_handle tokens) a
          ∙ ap₂ (λ x y. x + (y + count_of assigns_handle tokens)) ended b ∙ n
          ∙ ap (λ b. length s.0.table + one_more_if b (count_of assigns_handle tokens)) handle;
      orderly = c.orderly;
    }
  where
    sums : (e k n t c : ℕ) → k + n ≡ t + c → e + k + n ≡ e + (t + c)
    sums e k n t c h = omega arith

pub counted_along : (tokens : List Piece) (s : State) → Orderly (settled s).1 → Runs s tokens
    → CountedTo (settled s) (settled (left s tokens)) tokens
counted_along [] s o r = record { places = omega arith; handles = omega arith; orderly = o }
counted_along (piece l f ∷ tokens) s o r =
    let x = one_token (settled s) f o r.1 in
    counted_on f l (settled s) (settled (advance (settled s) f)) (settled (left (advance (settled s) f) tokens)) tokens r.0 x
    (counted_along tokens (advance (settled s) f) x.2 r.2)

-- of a stream, from its beginning on
pub counted_from_start : (tokens : List Piece) → Runs begin_state tokens → CountedTo begin_state (settled (left begin_state tokens)) tokens
counted_from_start tokens r = counted_along tokens begin_state (refl, (refl, tt)) r
