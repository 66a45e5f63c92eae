-- From trees to what is found: along the tokens of a well-formed tree its nodes, its owners and its checked names are
-- found, and after them the place is that after the tree's spelling.
use Rattle.std.proofs.Common.{◌≡◌, ℕ, suc, Bool, true, false, if◌then◌else◌, List, [], ◌∷◌, ◌++◌, length, refl, sym, ap, ◌∙◌, Option, Some, None, MatchBool, slice_set, append_assoc, append-nil}
use Rattle.jser_prim.specs.Bytes.{big_bytes}
use Rattle.jser_grammar.specs.Counts.{array_length}
use Rattle.jser_grammar.specs.Spelling.{utf, string_spelling, prims_spelling, text_place_spelling, interfaces_spelling, value_spelling, desc_spelling, class_spelling, body_spelling, values_spelling, sections_spelling, notes_spelling, annotation_spelling, content_spelling}
use Rattle.jser_reading.proofs.Vocabulary.{ValueTree, null, back, string, descriptor, class_object, array, enum_constant, object, DescTree, plain, proxy, ClassPlaceTree, no_class, back_class, new_class, BodyTree, raw_body, value_body, ValueTrees, no_values, value_and, section, SectionTrees, no_sections, section_and, NotesTree, no_notes, annotation, block, reset, content, ContentTrees, no_contents, content_and}
use Rattle.jser_reading.proofs.Vocabulary.{Layer, Entries, add, text_entry, other_entry, pending_entry, PrimCode, primitive_codes, plain_layer, proxy_layer, chain_of_class, after_text_place, after_value, after_desc, after_class, after_body, after_values, after_sections, after_notes, after_contents}
use Rattle.jser_reading.proofs.Vocabulary.{has_write_method, elements_of, is_external, WellFormedValue, WellFormedDesc, WellFormedClass, WellFormedSuperclass, WellFormedBody, WellFormedValues, WellFormedExternal, WellFormedSections, WellFormedNotesIf, WellFormedNotes, WellFormedContents}
use Rattle.jser_reading.proofs.Vocabulary.{Owner, object_owner, array_owner, enum_owner, class_owner, ChainOwner, Role, own_class, superclass, owner_of, is_strict_above, Moment, beginning, tick, assign, emptied, past_fields, past_value, past_class, past_values, past_notes, past_contents}
use Rattle.jser_reading.proofs.Vocabulary.{tag_token, null_tag, reference_tag, class_desc_tag, proxy_desc_tag, object_tag, array_tag, class_tag, enum_tag, end_tag_token, reset_tag_token, handle_token, suid_token, flags_token, field_count_token, interface_count_token, array_length_token, text_token}
use Rattle.jser_reading.proofs.Vocabulary.{Position, top_at, annotation_at, value_at, class_place_at, superclass_place_at, back_handle_at, class_handle_at, superclass_handle_at, class_name_at, suid_at, field_count_at, interface_count_at, array_length_at, flags_at, Piece, at}
use Rattle.jser_reading.proofs.Vocabulary.{tag_of_desc, tag_of, cut_text_place, cut_fields, cut_interfaces, cut_value, cut_desc, cut_class, cut_superclass, cut_body, cut_values, cut_external, cut_sections, cut_notes, cut_annotation, cut_top}
use Rattle.jser_reading.specs.TokenBytes.{bytes_of}
use Rattle.jser_shown.specs.Known.{known_other, known_pending, Known, with_entry, known_fields, known_value, known_class_place, known_values, known_notes, known_contents}
use Rattle.jser_shown.specs.Nodes.{NodeKind, plain_desc_node, proxy_desc_node, class_object_node, array_node, enum_const_node, object_node, Nodes, with_node, with_text, place_after, nodes_value, nodes_desc, nodes_class, nodes_body, nodes_values, nodes_sections, nodes_notes, nodes_contents, epochs_of_nodes}
use Rattle.jser_shown.specs.Owners.{OwnerNode, owner_node, owners_in_value, owners_in_desc, owners_in_class, owners_in_body, owners_in_values, owners_in_sections, owners_in_notes, owners_in_annotation, owners_at_top}
use Rattle.jser_shown.specs.Finding.{Begun, Finding, moved, found}
use Rattle.jser_shown.specs.Laws.{Found}
use Rattle.jser_shown.proofs.KnownLemmas.{entries, length-entries, then_entry, then_fields, then_value, then_class, then_values, then_notes, then_contents}
use Rattle.jser_shown.proofs.PlaceLemmas.{after_both, after_three, after_four, plain_place}
use Rattle.jser_shown.proofs.OwnerLemmas.{fill_blank, joined, filled_joined, owners_before_value, owners_before_class, owners_before_annotation, section_joined}
use Rattle.jser_shown.proofs.NameLemmas.{from_value, from_desc, from_class, from_body, from_values, from_sections, from_notes, from_contents, behind_contents}
use Rattle.jser_shown.proofs.FindingLemmas.{Findings, findings, named, Near, Goes, Leads, below_added, both_added, near_self, step, step_exact, step_late, made_owner, late_owner, near_end, leads_same, goes_same, goes, goes_closed}
use Rattle.jser_shown.proofs.FindingParts.{text_found, fields_found, interfaces_found, leads_new_text, leads_text, leads_fields, goes_interfaces, leads_block, leads_prims, leads_raw}

-- y, behind a tree

abbrev all_found : List ℕ → Nodes → List OwnerNode → List (List ℕ) → Finding → Finding
all_found bytes nodes owners names y = record y { place = place_after y.place bytes; nodes = nodes; owners = y.owners ++ owners; names = names }

abbrev value_found : Known → ValueTree → Finding → Finding
value_found T v y = all_found (value_spelling v) (nodes_value y.nodes y.place v) (owners_in_value T v []) (from_value y.names v) y

abbrev desc_found : Known → DescTree → Finding → Finding
desc_found T x y = all_found (desc_spelling x) (nodes_desc y.nodes y.place x) (owners_in_desc T x []) (from_desc y.names x) y

abbrev class_found : Known → ClassPlaceTree → Finding → Finding
class_found T c y = all_found (class_spelling c) (nodes_class y.nodes y.place c) (owners_in_class T c []) (from_class y.names c) y

abbrev elements_spelling : BodyTree → List ℕ
elements_spelling (raw_body ps) = prims_spelling ps
elements_spelling (value_body vs) = values_spelling vs

-- of an array, behind its length
abbrev body_found : Known → BodyTree → Finding → Finding
body_found T b y = all_found (elements_spelling b) (nodes_body y.nodes y.place b) (owners_in_body T b []) (from_body y.names b) y

abbrev values_found : Known → ValueTrees → Finding → Finding
values_found T vs y = all_found (values_spelling vs) (nodes_values y.nodes y.place vs) (owners_in_values T vs []) (from_values y.names vs) y

abbrev sections_found : Known → SectionTrees → Finding → Finding
sections_found T ss y = all_found (sections_spelling ss) (nodes_sections y.nodes y.place ss) (owners_in_sections T ss []) (from_sections y.names ss) y

abbrev notes_found : Known → NotesTree → Finding → Finding
notes_found T n y = all_found (notes_spelling n) (nodes_notes y.nodes y.place n) (owners_in_notes T n []) (from_notes y.names n) y

abbrev annotation_found : Known → ContentTrees → Finding → Finding
annotation_found T cs y = all_found (annotation_spelling cs) (nodes_contents y.nodes y.place cs) (owners_in_annotation T cs []) (from_contents y.names cs) y

-- tags

abbrev desc_kind : DescTree → NodeKind
desc_kind (plain name suid flags fields notes parent) = plain_desc_node
desc_kind (proxy interfaces notes parent) = proxy_desc_node

abbrev begins : NodeKind → Finding → Begun
begins kind y = record { kind = kind; place = y.place; position = length y.owners }

-- behind the tag of a descriptor
abbrev desc_entered : DescTree → Finding → Finding
desc_entered x y = record y { place = suc y.place; begun = begins (desc_kind x) y ∷ y.begun; is_name = true }

-- behind the tag of an owner
abbrev owner_entered : NodeKind → Finding → Finding
owner_entered kind y = record y { place = suc y.place; begun = begins kind y ∷ y.begun; owners = y.owners ++ (owner_node 0 0 ∷ []) }

desc_tag : (x : DescTree) (position : Position) (depth : ℕ) (m : Moment) (i : Bool) (z y : Finding) (rest : List Piece) (A : Findings)
    → Near (length m.table) z (named i y) → findings (found (desc_entered x y) rest) ≡ A
    → findings (found z (at position depth m (tag_token (tag_of_desc x)) ∷ rest)) ≡ A
desc_tag (plain name suid flags fields notes parent) position depth m i z y rest A near k =
    step position depth m (tag_token class_desc_tag) z (named i y) rest A near (λ z. refl) k
desc_tag (proxy interfaces notes parent) position depth m i z y rest A near k =
    step position depth m (tag_token proxy_desc_tag) z (named i y) rest A near (λ z. refl) k

-- a tree without owners

no_owners : (E : Entries) (y : Finding) (rest : List Piece) (A : Findings) → Leads E (record y { owners = y.owners ++ [] }) rest A → Leads E y rest A
no_owners E y rest A k = leads_same E y y.place y.place (y.owners ++ []) y.owners rest A refl (sym (append-nil y.owners)) k

none_owned : (E : Entries) (y : Finding) (rest : List Piece) (A : Findings) → Goes E (record y { owners = y.owners ++ [] }) rest A → Goes E y rest A
none_owned E y rest A k = goes_same E y y.place y.place (y.owners ++ []) y.owners rest A refl (sym (append-nil y.owners)) k

-- an owner is filled in behind its class place, with its number in the words of what is known

numbered : (N : Nodes) (E : Entries) (T : Known) → length N ≡ length E → E ≡ entries T → length N ≡ length T
numbered N E T e q = e ∙ (ap (λ t. length t) q ∙ length-entries T)

filled_alone : (O C : List OwnerNode) (n k elements : ℕ) → n ≡ k
    → slice_set ((O ++ (owner_node 0 0 ∷ [])) ++ C) (length O) (owner_node n elements) ≡ O ++ (owner_node k elements ∷ C)
filled_alone O C n k elements e = fill_blank O C (owner_node n elements) ∙ ap (λ j. O ++ (owner_node j elements ∷ C)) e

filled_before : (O C S W : List OwnerNode) (n k elements : ℕ) → n ≡ k → W ≡ C ++ S
    → slice_set ((O ++ (owner_node 0 0 ∷ [])) ++ C) (length O) (owner_node n elements) ++ S ≡ O ++ (owner_node k elements ∷ W)
filled_before O C S W n k elements e f =
    filled_joined O C S W (owner_node n elements) f ∙ ap (λ j. O ++ (owner_node j elements ∷ W)) e

-- the place after an array
array_place : (b : BodyTree) (c : ClassPlaceTree) (p : ℕ)
    → place_after p (class_spelling c ++ body_spelling b)
    ≡ place_after (place_after (place_after p (class_spelling c)) (big_bytes 4 (array_length b))) (elements_spelling b)
array_place (raw_body ps) c p = after_both p (class_spelling c) (body_spelling (raw_body ps))
array_place (value_body vs) c p = after_both p (class_spelling c) (body_spelling (value_body vs))

-- an externalizable class has one section, of notes alone; any other one for each class of the chain
by_class : (external : Bool) (E S : Type 0) (T : Entries) (y : Finding) (a b : List Piece) (A : Findings) → MatchBool external E S
    → (E → Leads T y a A) → (S → Leads T y b A) → Leads T y (if external then a else b) A
by_class true E S T y a b A h f g = f h
by_class false E S T y a b A h f g = g h

-- trees: from what is found behind a tree to what is found before it

mutual
  leads_value : (v : ValueTree) (position : Position) (d : ℕ) (m : Moment) (T : Known) (y : Finding) (rest : List Piece) (A : Findings)
      → m.table ≡ entries T → WellFormedValue m.table v → Leads (after_value m.table v) (value_found T v y) rest A
      → Leads m.table y (at position d m (tag_token (tag_of v)) ∷ cut_value d m v rest) A
  leads_value null position d m T y rest A q h k = λ i x near.
      let y1 : Finding = record y { place = suc y.place; is_name = true } in
      step position d m (tag_token null_tag) x (named i y) rest A near (λ z. refl)
      (goes m.table true y1 rest A (no_owners m.table y1 rest A k) near.exact)
  leads_value (back n) position d m T y rest A q h k = λ i x near.
      let y1 : Finding = record y { place = suc y.place; is_name = true } in
      let y2 = moved (bytes_of (handle_token n)) y1 in
      step position d m (tag_token reference_tag) x (named i y) (at back_handle_at d (tick m) (handle_token n) ∷ rest) A near (λ z. refl)
      (step_exact back_handle_at d (tick m) (handle_token n) y1 rest A near.exact (goes m.table true y2 rest A (no_owners m.table y2 rest A k) near.exact))
  leads_value (string t) position d m T y rest A q h k =
      let y1 : Finding = record y { place = place_after y.place (string_spelling t.long t.units); nodes = with_text y.nodes y.place t.units } in
      leads_new_text t.long t.units position d m (assign (tick m) text_entry) y rest A refl (no_owners (add m.table text_entry) y1 rest A k)
  leads_value (descriptor x) position d m T y rest A q h k = λ i z near.
      desc_tag x position d m i z y (cut_desc (own_class None) d (tick m) x rest) A near
      (goes_desc x (own_class None) d (tick m) T y rest A q h (goes (after_desc m.table x) true (desc_found T x y) rest A k) near.exact)
  leads_value (class_object c) position d m T y rest A q h k = λ i x near.
      let entered = owner_entered class_object_node y in
      let placed = named true (class_found T c entered) in
      let E = after_class m.table c in
      let made = made_owner (begins class_object_node y) y.begun placed in
      step position d m (tag_token class_tag) x (named i y) (cut_class class_owner d (tick m) c rest) A near (λ z. refl)
      (goes_class c class_owner d (tick m) T entered rest A q h
      (λ e. late_owner E other_entry (begins class_object_node y) y.begun placed rest A refl (λ f. refl) (λ f. refl) e
      (leads_same (add E other_entry) made made.place made.place (value_found T (class_object c) y).owners made.owners rest A refl
      (filled_alone y.owners (owners_in_class T c []) (length placed.nodes) (length (known_class_place T c)) 0
      (numbered placed.nodes E (known_class_place T c) e (then_class c T m.table q)))
      k))
      near.exact)
  leads_value (array c b) position d m T y rest A q h k = λ i x near.
      let entered = owner_entered array_node y in
      let placed = named true (class_found T c entered) in
      let E = after_class m.table c in
      let T1 = with_entry (known_class_place T c) known_other in
      let opened = assign (past_class (tick m) c) other_entry in
      let elements = elements_of (chain_of_class m.table c) in
      let inside = cut_body d opened elements b rest in
      let sizes = array_length_token (array_length b) in
      let y1 = moved (bytes_of sizes) (record placed {
        begun = y.begun;
        nodes = with_node placed.nodes array_node y.place;
        owners = slice_set placed.owners (length y.owners) (owner_node (length placed.nodes) (array_length b));
      }) in
      let y2 = body_found T1 b y1 in
      let those = owners_in_body T1 b [] in
      step position d m (tag_token array_tag) x (named i y) (cut_class array_owner d (tick m) c (at array_length_at d opened sizes ∷ inside)) A near (λ z. refl)
      (goes_class c array_owner d (tick m) T entered (at array_length_at d opened sizes ∷ inside) A q h.0
      (λ e. step_late array_length_at d opened sizes placed inside A (below_added (length placed.nodes) E other_entry e)
      (goes (add E other_entry) true y1 inside A
      (leads_body b elements d opened T1 y1 rest A (then_entry known_other (known_class_place T c) E (then_class c T m.table q)) h.2
      (leads_same (after_body (add E other_entry) b) y2 (value_found T (array c b) y).place y2.place (value_found T (array c b) y).owners y2.owners rest A
      (array_place b c (suc y.place))
      (filled_before y.owners (owners_in_class T c []) those (owners_in_class T c those) (length placed.nodes) (length (known_class_place T c)) (array_length b)
      (numbered placed.nodes E (known_class_place T c) e (then_class c T m.table q)) (owners_before_class c T those))
      k))
      (both_added placed.nodes (record { kind = array_node; place = y.place; units = None }) E other_entry e)))
      near.exact)
  leads_value (enum_constant c t) position d m T y rest A q h k = λ i x near.
      let entered = owner_entered enum_const_node y in
      let placed = named true (class_found T c entered) in
      let E = after_class m.table c in
      let opened = assign (past_class (tick m) c) other_entry in
      let made = made_owner (begins enum_const_node y) y.begun placed in
      let y1 = text_found t made in
      let pieces = cut_text_place d opened t rest in
      step position d m (tag_token enum_tag) x (named i y) (cut_class enum_owner d (tick m) c pieces) A near (λ z. refl)
      (goes_class c enum_owner d (tick m) T entered pieces A q h.0
      (λ e. late_owner E other_entry (begins enum_const_node y) y.begun placed pieces A refl (λ f. refl) (λ f. refl) e
      (leads_text t d opened made rest A
      (leads_same (after_text_place (add E other_entry) t) y1 (value_found T (enum_constant c t) y).place y1.place (value_found T (enum_constant c t) y).owners y1.owners rest A
      (after_both (suc y.place) (class_spelling c) (text_place_spelling t))
      (filled_alone y.owners (owners_in_class T c []) (length placed.nodes) (length (known_class_place T c)) 0
      (numbered placed.nodes E (known_class_place T c) e (then_class c T m.table q)))
      k)))
      near.exact)
  leads_value (object c ss) position d m T y rest A q h k = λ i x near.
      let entered = owner_entered object_node y in
      let placed = named true (class_found T c entered) in
      let E = after_class m.table c in
      let T1 = with_entry (known_class_place T c) known_other in
      let opened = assign (past_class (tick m) c) other_entry in
      let made = made_owner (begins object_node y) y.begun placed in
      let y1 = sections_found T1 ss made in
      let chain = chain_of_class m.table c in
      let pieces = if is_external chain then cut_external d opened ss rest else cut_sections d opened chain ss rest in
      let those = owners_in_sections T1 ss [] in
      let q1 = then_entry known_other (known_class_place T c) E (then_class c T m.table q) in
      step position d m (tag_token object_tag) x (named i y) (cut_class object_owner d (tick m) c pieces) A near (λ z. refl)
      (goes_class c object_owner d (tick m) T entered pieces A q h.0
      (λ e.
      let later : Leads (after_sections opened.table ss) y1 rest A =
      leads_same (after_sections (add E other_entry) ss) y1 (value_found T (object c ss) y).place y1.place (value_found T (object c ss) y).owners y1.owners rest A
      (after_both (suc y.place) (class_spelling c) (sections_spelling ss))
      (filled_before y.owners (owners_in_class T c []) those (owners_in_class T c those) (length placed.nodes) (length (known_class_place T c)) 0
      (numbered placed.nodes E (known_class_place T c) e (then_class c T m.table q)) (owners_before_class c T those))
      k in
      late_owner E other_entry (begins object_node y) y.begun placed pieces A refl (λ f. refl) (λ f. refl) e
      (by_class (is_external chain) (WellFormedExternal opened.table ss) (WellFormedSections opened.table ss chain) (add E other_entry) made
      (cut_external d opened ss rest) (cut_sections d opened chain ss rest) A h.2
      (λ w. leads_external ss d opened T1 made rest A q1 w later)
      (λ w. leads_sections ss chain d opened T1 made rest A q1 w later)))
      near.exact)

  goes_desc : (x : DescTree) (role : Role) (d : ℕ) (m : Moment) (T : Known) (y : Finding) (rest : List Piece) (A : Findings)
      → m.table ≡ entries T → WellFormedDesc m.table x → Goes (after_desc m.table x) (named true (desc_found T x y)) rest A
      → Goes m.table (desc_entered x y) (cut_desc role d m x rest) A
  goes_desc (plain name suid flags fields notes parent) role d m T y rest A q h k = λ e.
      let opened = assign m pending_entry in
      let past = past_fields opened fields in
      let inside = past_contents past notes in
      let T1 = with_entry T known_pending in
      let T2 = known_fields T1 fields in
      let T3 = known_contents T2 notes in
      let q2 = then_fields fields T1 opened.table (then_entry known_pending T m.table q) in
      let q3 = then_contents notes T2 past.table q2 in
      let y1 = desc_entered (plain name suid flags fields notes parent) y in
      let y2 : Finding = record y1 { place = place_after y1.place (utf name); names = y.names ++ (name ∷ []) } in
      let y3 = moved (bytes_of (suid_token suid)) y2 in
      let y4 = moved (bytes_of (flags_token flags)) (record y3 { begun = y.begun; nodes = with_node y.nodes plain_desc_node y.place }) in
      let y5 = moved (bytes_of (field_count_token (length fields))) y4 in
      let y6 = fields_found fields y5 in
      let y7 = annotation_found T2 notes y6 in
      let y8 = named true (class_found T3 parent y7) in
      let all = named true (desc_found T (plain name suid flags fields notes parent) y) in
      let ends = cut_superclass (owner_of role) (is_strict_above role flags) (suc d) inside parent rest in
      let lists = cut_fields d false opened fields (cut_annotation d past notes ends) in
      let counts = at field_count_at d opened (field_count_token (length fields)) ∷ lists in
      let marks = at (flags_at role) d opened (flags_token flags) ∷ counts in
      let made = both_added y.nodes (record { kind = plain_desc_node; place = y.place; units = None }) m.table pending_entry e in
      let those = owners_in_class T3 parent [] in
      let layers = chain_of_class inside.table parent ++ (plain_layer name flags fields ∷ []) in
      step_exact (class_name_at role) d m (text_token false name) y1 (at suid_at d m (suid_token suid) ∷ marks) A e
      (step_exact suid_at d m (suid_token suid) y2 marks A e
      (step_late (flags_at role) d opened (flags_token flags) y3 counts A (below_added (length y.nodes) m.table pending_entry e)
      (step_exact field_count_at d opened (field_count_token (length fields)) y4 lists A made
      (goes opened.table true y5 lists A
      (leads_fields fields d false opened y5 (cut_annotation d past notes ends) A
      (leads_annotation notes d past T2 y6 ends A q2 h.5
      (leads_super parent (owner_of role) (is_strict_above role flags) (suc d) inside T3 y7 rest A q3 h.6
      (goes_closed (after_class inside.table parent) (length m.table) layers y8 rest A
      (goes_same (after_desc m.table (plain name suid flags fields notes parent)) y8 all.place y8.place all.owners y8.owners rest A
      (plain_place y.place name suid flags fields notes parent)
      (joined y.owners (owners_in_annotation T2 notes []) those (owners_in_annotation T2 notes those) (owners_before_annotation notes T2 those))
      k)))))
      made))))
  goes_desc (proxy interfaces notes parent) role d m T y rest A q h k = λ e.
      let opened = assign m pending_entry in
      let inside = past_contents opened notes in
      let T2 = with_entry T known_pending in
      let T3 = known_contents T2 notes in
      let q2 = then_entry known_pending T m.table q in
      let q3 = then_contents notes T2 opened.table q2 in
      let y1 = desc_entered (proxy interfaces notes parent) y in
      let y2 = moved (bytes_of (interface_count_token (length interfaces))) (record y1 { begun = y.begun; nodes = with_node y.nodes proxy_desc_node y.place }) in
      let y3 = interfaces_found interfaces y2 in
      let y4 = annotation_found T2 notes y3 in
      let y5 = named true (class_found T3 parent y4) in
      let all = named true (desc_found T (proxy interfaces notes parent) y) in
      let ends = cut_superclass (owner_of role) (is_strict_above role 0) (suc d) inside parent rest in
      let annotated = cut_annotation d opened notes ends in
      let made = both_added y.nodes (record { kind = proxy_desc_node; place = y.place; units = None }) m.table pending_entry e in
      let those = owners_in_class T3 parent [] in
      let layers = chain_of_class inside.table parent ++ (proxy_layer ∷ []) in
      step_late interface_count_at d opened (interface_count_token (length interfaces)) y1 (cut_interfaces d opened interfaces annotated) A
      (below_added (length y.nodes) m.table pending_entry e)
      (goes_interfaces interfaces d opened y2 annotated A
      (goes opened.table true y3 annotated A
      (leads_annotation notes d opened T2 y3 ends A q2 h.2
      (leads_super parent (owner_of role) (is_strict_above role 0) (suc d) inside T3 y4 rest A q3 h.3
      (goes_closed (after_class inside.table parent) (length m.table) layers y5 rest A
      (goes_same (after_desc m.table (proxy interfaces notes parent)) y5 all.place y5.place all.owners y5.owners rest A
      (after_three (place_after (suc y.place) (big_bytes 4 (length interfaces))) (interfaces_spelling interfaces) (annotation_spelling notes) (class_spelling parent))
      (joined y.owners (owners_in_annotation T2 notes []) those (owners_in_annotation T2 notes those) (owners_before_annotation notes T2 those))
      k)))))
      made)

  goes_class : (c : ClassPlaceTree) (owner : Owner) (d : ℕ) (m : Moment) (T : Known) (y : Finding) (rest : List Piece) (A : Findings)
      → m.table ≡ entries T → WellFormedClass m.table c → Goes (after_class m.table c) (named true (class_found T c y)) rest A
      → Goes m.table (named true y) (cut_class owner d m c rest) A
  goes_class no_class owner d m T y rest A q h k = absurd h
  goes_class (back_class n) owner d m T y rest A q h k = λ e.
      let y1 : Finding = record y { place = suc y.place; is_name = true } in
      let y2 = moved (bytes_of (handle_token n)) y1 in
      step_exact (class_place_at owner) d m (tag_token reference_tag) (named true y) (at (class_handle_at owner) d m (handle_token n) ∷ rest) A e
      (step_exact (class_handle_at owner) d m (handle_token n) y1 rest A e (none_owned m.table y2 rest A k e))
  goes_class (new_class x) owner d m T y rest A q h k = λ e.
      desc_tag x (class_place_at owner) d m true (named true y) y (cut_desc (own_class (Some owner)) d m x rest) A (near_self (named true y) (length m.table) e)
      (goes_desc x (own_class (Some owner)) d m T y rest A q h k e)

  leads_super : (c : ClassPlaceTree) (owner : ChainOwner) (strict : Bool) (d : ℕ) (m : Moment) (T : Known) (y : Finding) (rest : List Piece) (A : Findings)
      → m.table ≡ entries T → WellFormedSuperclass m.table c → Goes (after_class m.table c) (named true (class_found T c y)) rest A
      → Leads m.table y (cut_superclass owner strict d m c rest) A
  leads_super no_class owner strict d m T y rest A q h k = λ i x near.
      let y1 : Finding = record y { place = suc y.place; is_name = true } in
      step (superclass_place_at owner strict) d m (tag_token null_tag) x (named i y) rest A near (λ z. refl) (none_owned m.table y1 rest A k near.exact)
  leads_super (back_class n) owner strict d m T y rest A q h k = λ i x near.
      let y1 : Finding = record y { place = suc y.place; is_name = true } in
      let y2 = moved (bytes_of (handle_token n)) y1 in
      let pieces = at (superclass_handle_at owner strict) d (tick m) (handle_token n) ∷ rest in
      step (superclass_place_at owner strict) d m (tag_token reference_tag) x (named i y) pieces A near (λ z. refl)
      (step_exact (superclass_handle_at owner strict) d (tick m) (handle_token n) y1 rest A near.exact (none_owned m.table y2 rest A k near.exact))
  leads_super (new_class x) owner strict d m T y rest A q h k = λ i z near.
      desc_tag x (superclass_place_at owner strict) d m i z y (cut_desc (superclass owner strict) d (tick m) x rest) A near
      (goes_desc x (superclass owner strict) d (tick m) T y rest A q h k near.exact)

  leads_body : (b : BodyTree) (elements : Option PrimCode) (d : ℕ) (m : Moment) (T : Known) (y : Finding) (rest : List Piece) (A : Findings)
      → m.table ≡ entries T → WellFormedBody m.table b elements → Leads (after_body m.table b) (body_found T b y) rest A
      → Leads m.table y (cut_body d m elements b rest) A
  leads_body (raw_body ps) None d m T y rest A q h k = absurd h
  leads_body (raw_body ps) (Some c) d m T y rest A q h k =
      leads_raw ps c d m y rest A (no_owners m.table (moved (prims_spelling ps) y) rest A k)
  leads_body (value_body vs) None d m T y rest A q h k = leads_values vs d m T y rest A q h.1 k
  leads_body (value_body vs) (Some c) d m T y rest A q h k = absurd h

  leads_values : (vs : ValueTrees) (d : ℕ) (m : Moment) (T : Known) (y : Finding) (rest : List Piece) (A : Findings)
      → m.table ≡ entries T → WellFormedValues m.table vs → Leads (after_values m.table vs) (values_found T vs y) rest A
      → Leads m.table y (cut_values d m vs rest) A
  leads_values no_values d m T y rest A q h k = no_owners m.table y rest A k
  leads_values (value_and v vs) d m T y rest A q h k =
      let T1 = known_value T v in
      let y1 = value_found T v y in
      let y2 = values_found T1 vs y1 in
      let all = values_found T (value_and v vs) y in
      let those = owners_in_values T1 vs [] in
      leads_value v value_at (suc d) m T y (cut_values d (past_value m v) vs rest) A q h.0
      (leads_values vs d (past_value m v) T1 y1 rest A (then_value v T m.table q) h.1
      (leads_same (after_values m.table (value_and v vs)) y2 all.place y2.place all.owners y2.owners rest A
      (after_both y.place (value_spelling v) (values_spelling vs))
      (joined y.owners (owners_in_value T v []) those (owners_in_value T v those) (owners_before_value v T those))
      k))

  leads_external : (ss : SectionTrees) (d : ℕ) (m : Moment) (T : Known) (y : Finding) (rest : List Piece) (A : Findings)
      → m.table ≡ entries T → WellFormedExternal m.table ss → Leads (after_sections m.table ss) (sections_found T ss y) rest A
      → Leads m.table y (cut_external d m ss rest) A
  leads_external (section_and (section [] no_values (annotation notes)) no_sections) d m T y rest A q h k =
      let y1 = annotation_found T notes y in
      leads_annotation notes d m T y rest A q h
      (leads_same (after_contents m.table notes) y1 (place_after y.place (annotation_spelling notes ++ [])) y1.place y1.owners y1.owners rest A
      (after_both y.place (annotation_spelling notes) []) refl k)
  leads_external _ d m T y rest A q h k = absurd h

  leads_sections : (ss : SectionTrees) (chain : List Layer) (d : ℕ) (m : Moment) (T : Known) (y : Finding) (rest : List Piece) (A : Findings)
      → m.table ≡ entries T → WellFormedSections m.table ss chain → Leads (after_sections m.table ss) (sections_found T ss y) rest A
      → Leads m.table y (cut_sections d m chain ss rest) A
  leads_sections no_sections [] d m T y rest A q h k = no_owners m.table y rest A k
  leads_sections no_sections (l ∷ ls) d m T y rest A q h k = absurd h
  leads_sections (section_and x ss) [] d m T y rest A q h k = absurd h
  leads_sections (section_and (section ps vs n) ss) (l ∷ ls) d m T y rest A q h k =
      let T1 = known_values T vs in
      let T2 = known_notes T1 n in
      let past = past_values m vs in
      let q1 = then_values vs T m.table q in
      let q2 = then_notes n T1 past.table q1 in
      let y1 = moved (prims_spelling ps) y in
      let y2 = values_found T vs y1 in
      let y3 = notes_found T1 n y2 in
      let y4 = sections_found T2 ss y3 in
      let all = sections_found T (section_and (section ps vs n) ss) y in
      let others = cut_sections d (past_notes past n) ls ss rest in
      let noted = cut_notes d past n others in
      leads_prims (primitive_codes l.codes) ps d m y (cut_values d m vs noted) A h.0
      (leads_values vs d m T y1 noted A q h.2
      (leads_notes n (has_write_method l.flags) d past T1 y2 others A q1 h.3
      (leads_sections ss ls d (past_notes past n) T2 y3 rest A q2 h.4
      (leads_same (after_sections m.table (section_and (section ps vs n) ss)) y4 all.place y4.place all.owners y4.owners rest A
      (after_four y.place (prims_spelling ps) (values_spelling vs) (notes_spelling n) (sections_spelling ss))
      (section_joined vs n ss T y.owners)
      k))))

  leads_notes : (n : NotesTree) (expected : Bool) (d : ℕ) (m : Moment) (T : Known) (y : Finding) (rest : List Piece) (A : Findings)
      → m.table ≡ entries T → WellFormedNotesIf m.table n expected → Leads (after_notes m.table n) (notes_found T n y) rest A
      → Leads m.table y (cut_notes d m n rest) A
  leads_notes no_notes expected d m T y rest A q h k = no_owners m.table y rest A k
  leads_notes (annotation notes) expected d m T y rest A q h k = leads_annotation notes d m T y rest A q h.1 k

  leads_annotation : (cs : ContentTrees) (d : ℕ) (m : Moment) (T : Known) (y : Finding) (rest : List Piece) (A : Findings)
      → m.table ≡ entries T → WellFormedNotes m.table cs → Leads (after_contents m.table cs) (annotation_found T cs y) rest A
      → Leads m.table y (cut_annotation d m cs rest) A
  leads_annotation no_contents d m T y rest A q h k = λ i x near.
      let y1 = moved (bytes_of end_tag_token) y in
      step annotation_at (suc d) m end_tag_token x (named i y) rest A near (λ z. refl)
      (goes m.table i y1 rest A (no_owners m.table y1 rest A k) near.exact)
  leads_annotation (content_and (block long bytes) cs) d m T y rest A q h k =
      let y1 = moved (content_spelling (block long bytes)) y in
      let y2 = annotation_found T cs y1 in
      let all = annotation_found T (content_and (block long bytes) cs) y in
      leads_block bytes long annotation_at (suc d) d m y (cut_annotation d m cs rest) A
      (leads_annotation cs d m T y1 rest A q h.1
      (leads_same (after_contents m.table cs) y2 all.place y2.place y2.owners y2.owners rest A
      (after_both y.place (content_spelling (block long bytes)) (annotation_spelling cs)) refl k))
  leads_annotation (content_and reset cs) d m T y rest A q h k = absurd h
  leads_annotation (content_and (content v) cs) d m T y rest A q h k =
      let T1 = known_value T v in
      let y1 = value_found T v y in
      let y2 = annotation_found T1 cs y1 in
      let all = annotation_found T (content_and (content v) cs) y in
      let those = owners_in_annotation T1 cs [] in
      leads_value v annotation_at (suc d) m T y (cut_annotation d (past_value m v) cs rest) A q h.0
      (leads_annotation cs d (past_value m v) T1 y1 rest A (then_value v T m.table q) h.1
      (leads_same (after_contents m.table (content_and (content v) cs)) y2 all.place y2.place all.owners y2.owners rest A
      (after_both y.place (value_spelling v) (annotation_spelling cs))
      (joined y.owners (owners_in_value T v []) those (owners_in_value T v those) (owners_before_value v T those))
      k))

-- at the top: what is found of a list, behind these nodes, owners and names

abbrev list_found : ℕ → Nodes → List Nodes → List OwnerNode → List (List ℕ) → Known → ContentTrees → Findings
list_found p N D O S T cs = record { nodes = D ++ epochs_of_nodes N p cs; owners = O ++ owners_at_top T cs; names = from_contents S cs }

abbrev state : ℕ → Nodes → List Nodes → List OwnerNode → List (List ℕ) → Finding
state p N D O S = record { place = p; begun = []; nodes = N; ended = D; owners = O; names = S; is_name = false }

leads_top : (cs : ContentTrees) (m : Moment) (T : Known) (p : ℕ) (N : Nodes) (D : List Nodes) (O : List OwnerNode) (S : List (List ℕ))
    → m.table ≡ entries T → WellFormedContents m.table cs → Leads m.table (state p N D O S) (cut_top m cs []) (list_found p N D O S T cs)
leads_top no_contents m T p N D O S q h = λ i x near.
    near_end (length m.table) x (named i (state p N D O S)) near refl
    ∙ ap (λ owners. record { nodes = D ++ (N ∷ []); owners = owners; names = S }) (sym (append-nil O))
leads_top (content_and (block long bytes) cs) m T p N D O S q h =
    leads_block bytes long top_at 1 0 m (state p N D O S) (cut_top m cs []) (list_found p N D O S T (content_and (block long bytes) cs))
    (leads_top cs m T (place_after p (content_spelling (block long bytes))) N D O S q h.1)
leads_top (content_and reset cs) m T p N D O S q h = λ i x near.
    let y1 = state (suc p) [] (D ++ (N ∷ [])) O S in
    let A = list_found p N D O S T (content_and reset cs) in
    step top_at 1 m reset_tag_token x (named i (state p N D O S)) (cut_top (emptied m) cs []) A near (λ z. refl)
    (goes [] i y1 (cut_top (emptied m) cs []) (list_found (suc p) [] (D ++ (N ∷ [])) O S [] cs) (leads_top cs (emptied m) [] (suc p) [] (D ++ (N ∷ [])) O S refl h) refl
    ∙ ap (λ nodes. record A { nodes = nodes }) (append_assoc D (N ∷ []) (epochs_of_nodes [] (suc p) cs)))
leads_top (content_and (content v) cs) m T p N D O S q h =
    let T1 = known_value T v in
    let y1 = value_found T v (state p N D O S) in
    let A = list_found p N D O S T (content_and (content v) cs) in
    let those = owners_at_top T1 cs in
    leads_value v top_at 1 m T (state p N D O S) (cut_top (past_value m v) cs []) A q h.0
    (λ i x near. leads_top cs (past_value m v) T1 y1.place y1.nodes D y1.owners y1.names (then_value v T m.table q) h.1 i x near
    ∙ ap (λ owners. record A { owners = owners }) (joined O (owners_in_value T v []) those (owners_in_value T v those) (owners_before_value v T those)))

-- all is found
pub found_law : Found
found_law list h =
    let y = state 4 [] [] [] [] in
    let all = leads_top list beginning [] 4 [] [] [] [] refl h false y (near_self y 0 refl) in
    (ap (λ a. a.nodes) all, ap (λ a. a.owners) all, ap (λ a. a.names) all ∙ behind_contents list [])
