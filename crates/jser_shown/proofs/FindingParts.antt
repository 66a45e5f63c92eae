-- What is found along the parts of trees that hold no other trees: texts, fields, interfaces, blocks and raw values.
use Rattle.std.proofs.Common.{◌≡◌, ℕ, suc, ◌<◌, Bool, true, false, ◌||◌, List, [], ◌∷◌, ◌++◌, length, refl, sym, Option, Some, None}
use Rattle.jser_grammar.specs.Spelling.{utf, string_spelling, prims_spelling, text_place_spelling, type_spelling, fields_spelling, interfaces_spelling, content_spelling}
use Rattle.jser_reading.proofs.Vocabulary.{TextPlaceTree, new_text, back_text, FieldTree, PrimTree, block}
use Rattle.jser_reading.proofs.Vocabulary.{add, text_entry, PrimCode, is_object_code, after_text_place, after_type, after_fields}
use Rattle.jser_reading.proofs.Vocabulary.{ArePrims, Moment, assign, past_type}
use Rattle.jser_reading.proofs.Vocabulary.{tag_token, reference_tag, string_tag, long_string_tag, block_tag_token, handle_token, code_token, text_token, block_length_token, prims_token, bytes_token}
use Rattle.jser_reading.proofs.Vocabulary.{Position, text_place_at, text_handle_at, string_at, field_name_at, interface_name_at, type_code_at, block_length_at, raw_at, bytes_at, Piece, at}
use Rattle.jser_reading.proofs.Vocabulary.{tag_of_string, cut_text_place, cut_type, cut_fields, cut_interfaces, cut_bytes, cut_raw, cut_prims}
use Rattle.jser_reading.specs.TokenBytes.{bytes_of}
use Rattle.jser_shown.specs.Nodes.{text_node, with_text, place_after, nodes_text, nodes_type, nodes_fields}
use Rattle.jser_shown.specs.Finding.{Finding, moved, found}
use Rattle.jser_shown.proofs.PlaceLemmas.{after_both, after_three, prim_place}
use Rattle.jser_shown.proofs.NameLemmas.{from_interfaces}
use Rattle.jser_shown.proofs.FindingLemmas.{Findings, findings, named, Near, Goes, Leads, below_added, both_added, near_self, step, step_exact, step_late, leads_same, goes_same, goes}

-- y, behind a part

abbrev pub text_found : TextPlaceTree → Finding → Finding
text_found t y = record y { place = place_after y.place (text_place_spelling t); nodes = nodes_text y.nodes y.place t }

abbrev pub type_found : Option TextPlaceTree → Finding → Finding
type_found t y = record y { place = place_after y.place (type_spelling t); nodes = nodes_type y.nodes y.place t }

abbrev pub fields_found : List FieldTree → Finding → Finding
fields_found fs y = record y { place = place_after y.place (fields_spelling fs); nodes = nodes_fields y.nodes y.place fs }

abbrev pub interfaces_found : List (List ℕ) → Finding → Finding
interfaces_found names y = record y { place = place_after y.place (interfaces_spelling names); names = from_interfaces y.names names }

-- texts, fields and interfaces

pub leads_new_text : (long : Bool) (units : List ℕ) (position : Position) (d : ℕ) (m opened : Moment) (y : Finding) (rest : List Piece) (A : Findings)
    → opened.table ≡ add m.table text_entry
    → Leads (add m.table text_entry) (record y { place = place_after y.place (string_spelling long units); nodes = with_text y.nodes y.place units }) rest A
    → Leads m.table y (at position d m (tag_token (tag_of_string long)) ∷ at (string_at long) d opened (text_token long units) ∷ rest) A
leads_new_text long units position d m opened y rest A same k i x near = go long k
  where
    tagged : Finding
    tagged = record y { place = suc y.place; begun = record { kind = text_node; place = y.place; position = length y.owners } ∷ y.begun; is_name = true }

    below : length y.nodes < length opened.table
    below = rw same (below_added (length y.nodes) m.table text_entry near.exact)

    behind : List ℕ → Finding
    behind bytes = record y { place = place_after y.place bytes; nodes = with_text y.nodes y.place units; is_name = true }

    stands : (bytes : List ℕ) → Near (length (add m.table text_entry)) (behind bytes) (behind bytes)
    stands bytes =
        near_self (behind bytes) (length (add m.table text_entry))
        (both_added y.nodes (record { kind = text_node; place = y.place; units = Some units }) m.table text_entry near.exact)

    go : (form : Bool)
        → Leads (add m.table text_entry) (record y { place = place_after y.place (string_spelling form units); nodes = with_text y.nodes y.place units }) rest A
        → findings (found x (at position d m (tag_token (tag_of_string form)) ∷ at (string_at form) d opened (text_token form units) ∷ rest)) ≡ A
    go true k2 =
        step position d m (tag_token long_string_tag) x (named i y) (at (string_at true) d opened (text_token true units) ∷ rest) A near (λ z. refl)
        (step_late (string_at true) d opened (text_token true units) tagged rest A below
        (k2 true (behind (string_spelling true units)) (stands (string_spelling true units))))
    go false k2 =
        step position d m (tag_token string_tag) x (named i y) (at (string_at false) d opened (text_token false units) ∷ rest) A near (λ z. refl)
        (step_late (string_at false) d opened (text_token false units) tagged rest A below
        (k2 true (behind (string_spelling false units)) (stands (string_spelling false units))))

pub leads_text : (t : TextPlaceTree) (d : ℕ) (m : Moment) (y : Finding) (rest : List Piece) (A : Findings)
    → Leads (after_text_place m.table t) (text_found t y) rest A → Leads m.table y (cut_text_place d m t rest) A
leads_text (new_text t) d m y rest A k = leads_new_text t.long t.units text_place_at d m (assign m text_entry) y rest A refl k
leads_text (back_text n) d m y rest A k = λ i x near.
    let y1 : Finding = record y { place = suc y.place; is_name = true } in
    let y2 = moved (bytes_of (handle_token n)) y1 in
    step text_place_at d m (tag_token reference_tag) x (named i y) (at text_handle_at d m (handle_token n) ∷ rest) A near (λ z. refl)
    (step_exact text_handle_at d m (handle_token n) y1 rest A near.exact (k true y2 (near_self y2 (length m.table) near.exact)))

pub leads_type : (t : Option TextPlaceTree) (d : ℕ) (m : Moment) (y : Finding) (rest : List Piece) (A : Findings)
    → Leads (after_type m.table t) (type_found t y) rest A → Leads m.table y (cut_type d m t rest) A
leads_type None d m y rest A k = k
leads_type (Some t) d m y rest A k = leads_text t d m y rest A k

pub leads_fields : (fs : List FieldTree) (d : ℕ) (seen : Bool) (m : Moment) (y : Finding) (rest : List Piece) (A : Findings)
    → Leads (after_fields m.table fs) (fields_found fs y) rest A → Leads m.table y (cut_fields d seen m fs rest) A
leads_fields [] d seen m y rest A k = k
leads_fields (f ∷ fs) d seen m y rest A k = λ i x near.
    let later = seen || is_object_code f.code in
    let past = past_type m f.text in
    let others = cut_type d m f.text (cut_fields d later past fs rest) in
    let y1 : Finding = record y { place = suc y.place; is_name = false } in
    let y2 = moved (utf f.name) y1 in
    let y3 = type_found f.text y2 in
    step (type_code_at seen) d m (code_token f.code) x (named i y) (at field_name_at d m (text_token false f.name) ∷ others) A near (λ z. refl)
    (step_exact field_name_at d m (text_token false f.name) y1 others A near.exact
    (leads_type f.text d m y2 (cut_fields d later past fs rest) A
    (leads_fields fs d later past y3 rest A
    (leads_same (after_fields past.table fs) (fields_found fs y3) (place_after y.place (fields_spelling (f ∷ fs))) (place_after y3.place (fields_spelling fs)) y.owners y.owners rest A
    (after_three (suc y.place) (utf f.name) (type_spelling f.text) (fields_spelling fs)) refl k))
    false y2 (near_self y2 (length m.table) near.exact)))

pub goes_interfaces : (names : List (List ℕ)) (d : ℕ) (m : Moment) (y : Finding) (rest : List Piece) (A : Findings)
    → Goes m.table (named true (interfaces_found names y)) rest A → Goes m.table (named true y) (cut_interfaces d m names rest) A
goes_interfaces [] d m y rest A k = k
goes_interfaces (name ∷ names) d m y rest A k = λ e.
    let y1 : Finding = record y { place = place_after y.place (utf name); names = y.names ++ (name ∷ []) } in
    step_exact interface_name_at d m (text_token false name) (named true y) (cut_interfaces d m names rest) A e
    (goes_interfaces names d m y1 rest A
    (goes_same m.table (named true (interfaces_found names y1)) (place_after y.place (interfaces_spelling (name ∷ names))) (place_after y1.place (interfaces_spelling names)) y.owners y.owners rest A
    (after_both y.place (utf name) (interfaces_spelling names)) refl k)
    e)

-- blocks and raw values

abbrev sized : Bool → ℕ → Finding → Finding
sized long size y = moved (bytes_of (block_length_token long size)) (moved (bytes_of (block_tag_token long)) y)

behind_size : (bytes : List ℕ) (long i : Bool) (d : ℕ) (m : Moment) (y : Finding) (rest : List Piece) (A : Findings)
    → Leads m.table (record y { place = place_after y.place (content_spelling (block long bytes)) }) rest A
    → length y.nodes ≡ length m.table → findings (found (sized long (length bytes) (named i y)) (cut_bytes d m bytes rest)) ≡ A
behind_size [] true i d m y rest A k e = goes m.table i (sized true 0 y) rest A k e
behind_size [] false i d m y rest A k e = goes m.table i (sized false 0 y) rest A k e
behind_size (b ∷ bytes) true i d m y rest A k e =
    let y1 = sized true (suc (length bytes)) (named i y) in
    step_exact (bytes_at (suc (length bytes))) d m (bytes_token (b ∷ bytes)) y1 rest A e (goes m.table i (moved (b ∷ bytes) y1) rest A k e)
behind_size (b ∷ bytes) false i d m y rest A k e =
    let y1 = sized false (suc (length bytes)) (named i y) in
    step_exact (bytes_at (suc (length bytes))) d m (bytes_token (b ∷ bytes)) y1 rest A e (goes m.table i (moved (b ∷ bytes) y1) rest A k e)

pub leads_block : (bytes : List ℕ) (long : Bool) (position : Position) (depth d : ℕ) (m : Moment) (y : Finding) (rest : List Piece) (A : Findings)
    → Leads m.table (record y { place = place_after y.place (content_spelling (block long bytes)) }) rest A
    → Leads m.table y
    (at position depth m (block_tag_token long) ∷ at (block_length_at long) d m (block_length_token long (length bytes)) ∷ cut_bytes d m bytes rest) A
leads_block bytes long position depth d m y rest A k i x near =
    let pieces = cut_bytes d m bytes rest in
    step position depth m (block_tag_token long) x (named i y) (at (block_length_at long) d m (block_length_token long (length bytes)) ∷ pieces) A near (λ z. refl)
    (step_exact (block_length_at long) d m (block_length_token long (length bytes)) (moved (bytes_of (block_tag_token long)) (named i y)) pieces A near.exact
    (behind_size bytes long i d m y rest A k near.exact))

pub leads_prims : (cs : List PrimCode) (ps : List PrimTree) (d : ℕ) (m : Moment) (y : Finding) (rest : List Piece) (A : Findings) → ArePrims cs ps
    → Leads m.table (record y { place = place_after y.place (prims_spelling ps) }) rest A → Leads m.table y (cut_prims d m cs ps rest) A
leads_prims [] [] d m y rest A h k = k
leads_prims [] (p ∷ ps) d m y rest A h k = absurd h
leads_prims (c ∷ cs) [] d m y rest A h k = absurd h
leads_prims (c ∷ cs) (p ∷ ps) d m y rest A h k = λ i x near.
    let y1 = moved (prims_spelling (p ∷ [])) (named i y) in
    step (raw_at c 1) d m (prims_token (p ∷ [])) x (named i y) (cut_prims d m cs ps rest) A near (λ z. refl)
    (leads_prims cs ps d m y1 rest A h.1
    (leads_same m.table y (place_after y.place (prims_spelling (p ∷ ps))) (place_after y1.place (prims_spelling ps)) y.owners y.owners rest A
    (sym (prim_place y.place p ps)) refl k)
    i y1 (near_self y1 (length m.table) near.exact))

pub leads_raw : (ps : List PrimTree) (c : PrimCode) (d : ℕ) (m : Moment) (y : Finding) (rest : List Piece) (A : Findings)
    → Leads m.table (record y { place = place_after y.place (prims_spelling ps) }) rest A → Leads m.table y (cut_raw d m (Some c) ps rest) A
leads_raw [] c d m y rest A k = k
leads_raw (p ∷ ps) c d m y rest A k = λ i x near.
    let y1 = moved (prims_spelling (p ∷ ps)) (named i y) in
    step (raw_at c (suc (length ps))) d m (prims_token (p ∷ ps)) x (named i y) rest A near (λ z. refl) (k i y1 (near_self y1 (length m.table) near.exact))
