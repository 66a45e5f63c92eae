-- The counts along the tokens of a list are its counts. Each tree adds as many as it has within it: no content,
-- its places, and the handles by which its table grows.
use Rattle.std.proofs.Common.{◌≡◌, ℕ, suc, ◌+◌, Bool, true, false, ◌||◌, if◌then◌else◌, List, [], ◌∷◌, ◌++◌, length, refl, ◌∙◌, ap, arith, Option, Some, None, MatchBool}
use Rattle.jser_reading.proofs.Vocabulary.{has_write_method, text_entry, other_entry, pending_entry, Layer, PrimCode, is_object_code, primitive_codes, TextPlaceTree, new_text, back_text, FieldTree, PrimTree, ValueTree, null, back, string, descriptor, class_object, array, enum_constant, object, DescTree, plain, proxy, ClassPlaceTree, no_class, back_class, new_class, BodyTree, raw_body, value_body, ValueTrees, no_values, value_and, section, SectionTrees, no_sections, section_and, NotesTree, no_notes, annotation, block, reset, content, ContentTrees, no_contents, content_and, plain_layer, proxy_layer, after_value, after_desc, after_class, after_sections, chain_of_class, elements_of, is_external, WellFormedValue, WellFormedDesc, WellFormedClass, WellFormedSuperclass, WellFormedBody, WellFormedValues, WellFormedExternal, WellFormedSections, WellFormedNotesIf, WellFormedNotes, WellFormedContents, Owner, object_owner, array_owner, enum_owner, class_owner, ChainOwner, Role, own_class, superclass, owner_of, is_strict_above, Moment, beginning, tick, assign, emptied, places_value, places_desc, places_contents, past_text, past_type, past_fields, past_value, past_class, past_body, past_values, past_sections, past_notes, past_contents, Tag, null_tag, reference_tag, class_desc_tag, object_tag, string_tag, array_tag, class_tag, long_string_tag, proxy_desc_tag, enum_tag, tag_token, array_length_token, text_token, top_at, annotation_at, value_at, text_place_at, class_place_at, superclass_place_at, string_at, array_length_at, Piece, at, tag_of_string, tag_of_desc, tag_of, cut_text_place, cut_type, cut_fields, cut_interfaces, cut_bytes, cut_raw, cut_prims, cut_value, cut_desc, cut_class, cut_superclass, cut_body, cut_values, cut_external, cut_sections, cut_notes, cut_annotation, cut_top}
use Rattle.std.proofs.Common.{sum}
use Rattle.std.proofs.lemmas.List.Sums.{sum_by-cons}
use Rattle.jser_grammar.specs.Counts.{array_length, content_count, epochs_from}
use Rattle.jser_reading.specs.GateLimits.{begins_place, assigns_handle}
use Rattle.jser_reading.specs.Totals.{begins_content, one_more_if, count_of, Totalled}
use Rattle.jser_reading.proofs.PlacesObserved.{counted_contents, depth_observed}
use Rattle.jser_grammar.proofs.TableLemmas.{length-add, length-close}

abbrev contents_in : List Piece → ℕ
contents_in ps = count_of begins_content ps

abbrev places_in : List Piece → ℕ
places_in ps = count_of begins_place ps

abbrev handles_in : List Piece → ℕ
handles_in ps = count_of assigns_handle ps

-- the tokens from one moment to another, and then rest
abbrev Counts : Moment → Moment → List Piece → List Piece → Type 0
Counts m m' ps rest =
    (contents_in ps ≡ contents_in rest) × (m.places + places_in ps ≡ m'.places + places_in rest)
    × (length m.table + handles_in ps ≡ length m'.table + handles_in rest)

-- one handle more, for the owner of a chain
abbrev owned : ChainOwner → ℕ
owned None = 0
owned (Some owner) = 1

abbrev CountsOwned : ChainOwner → Moment → Moment → List Piece → List Piece → Type 0
CountsOwned owner m m' ps rest =
    (contents_in ps ≡ contents_in rest) × (m.places + places_in ps ≡ m'.places + places_in rest)
    × (length m.table + handles_in ps ≡ length m'.table + owned owner + handles_in rest)

-- the tag of a value or a descriptor assigns a handle, or none
abbrev by_tag : Tag → ℕ
by_tag tag = one_more_if (assigns_handle value_at (tag_token tag)) 0

counts_new_text : (long : Bool) (units : List ℕ) (d : ℕ) (m : Moment) (rest : List Piece)
    → Counts m (assign m text_entry) (at text_place_at d m (tag_token (tag_of_string long))
    ∷ at (string_at long) d (assign m text_entry) (text_token long units) ∷ rest) rest
counts_new_text true units d m rest = (refl, refl, omega (arith, length-add m.table text_entry))
counts_new_text false units d m rest = (refl, refl, omega (arith, length-add m.table text_entry))

counts_text : (t : TextPlaceTree) (d : ℕ) (m : Moment) (rest : List Piece)
    → Counts m (past_text m t) (cut_text_place d m t rest) rest
counts_text (new_text t) d m rest = counts_new_text t.long t.units d m rest
counts_text (back_text n) d m rest = (refl, refl, refl)

counts_type : (t : Option TextPlaceTree) (d : ℕ) (m : Moment) (rest : List Piece)
    → Counts m (past_type m t) (cut_type d m t rest) rest
counts_type None d m rest = (refl, refl, refl)
counts_type (Some t) d m rest = counts_text t d m rest

counts_fields : (fs : List FieldTree) (d : ℕ) (seen : Bool) (m : Moment) (rest : List Piece)
    → Counts m (past_fields m fs) (cut_fields d seen m fs rest) rest
counts_fields [] d seen m rest = (refl, refl, refl)
counts_fields (f ∷ fs) d seen m rest =
    let later = seen || is_object_code f.code in
    let q = counts_type f.text d m (cut_fields d later (past_type m f.text) fs rest) in
    let r = counts_fields fs d later (past_type m f.text) rest in
    (q.0 ∙ r.0, q.1 ∙ r.1, q.2 ∙ r.2)

counts_interfaces : (ns : List (List ℕ)) (d : ℕ) (m : Moment) (rest : List Piece) → Counts m m (cut_interfaces d m ns rest) rest
counts_interfaces [] d m rest = (refl, refl, refl)
counts_interfaces (n ∷ ns) d m rest = counts_interfaces ns d m rest

counts_bytes : (b : List ℕ) (d : ℕ) (m : Moment) (rest : List Piece) → Counts m m (cut_bytes d m b rest) rest
counts_bytes [] d m rest = (refl, refl, refl)
counts_bytes (x ∷ b) d m rest = (refl, refl, refl)

counts_raw : (elements : Option PrimCode) (ps : List PrimTree) (d : ℕ) (m : Moment) (rest : List Piece)
    → Counts m m (cut_raw d m elements ps rest) rest
counts_raw None ps d m rest = (refl, refl, refl)
counts_raw (Some c) [] d m rest = (refl, refl, refl)
counts_raw (Some c) (p ∷ ps) d m rest = (refl, refl, refl)

counts_prims : (cs : List PrimCode) (ps : List PrimTree) (d : ℕ) (m : Moment) (rest : List Piece)
    → Counts m m (cut_prims d m cs ps rest) rest
counts_prims [] ps d m rest = (refl, refl, refl)
counts_prims (c ∷ cs) [] d m rest = (refl, refl, refl)
counts_prims (c ∷ cs) (p ∷ ps) d m rest = counts_prims cs ps d m rest

counts_by_class : (external : Bool) (E S : Type 0) (m m' : Moment) (a b rest : List Piece) → MatchBool external E S
    → (E → Counts m m' a rest) → (S → Counts m m' b rest)
    → Counts m m' (if external then a else b) rest
counts_by_class true E S m m' a b rest h f g = f h
counts_by_class false E S m m' a b rest h f g = g h

-- tags of values and descriptors, by their position

count_tag : (tag : Tag) (n : ℕ) → (one_more_if (assigns_handle top_at (tag_token tag)) n ≡ by_tag tag + n)
    × (one_more_if (assigns_handle annotation_at (tag_token tag)) n ≡ by_tag tag + n)
    × (one_more_if (assigns_handle value_at (tag_token tag)) n ≡ by_tag tag + n)
count_tag null_tag n = (omega arith, omega arith, omega arith)
count_tag reference_tag n = (omega arith, omega arith, omega arith)
count_tag class_desc_tag n = (omega arith, omega arith, omega arith)
count_tag object_tag n = (omega arith, omega arith, omega arith)
count_tag string_tag n = (omega arith, omega arith, omega arith)
count_tag array_tag n = (omega arith, omega arith, omega arith)
count_tag class_tag n = (omega arith, omega arith, omega arith)
count_tag long_string_tag n = (omega arith, omega arith, omega arith)
count_tag proxy_desc_tag n = (omega arith, omega arith, omega arith)
count_tag enum_tag n = (omega arith, omega arith, omega arith)

count_string : (long : Bool) → by_tag (tag_of_string long) ≡ 1
count_string true = refl
count_string false = refl

count_class_tag : (x : DescTree) (owner : Owner) (n : ℕ)
    → one_more_if (assigns_handle (class_place_at owner) (tag_token (tag_of_desc x))) n ≡ by_tag (tag_of_desc x) + n
count_class_tag (plain name suid flags fields notes parent) owner n = omega arith
count_class_tag (proxy interfaces notes parent) owner n = omega arith

count_superclass_tag : (x : DescTree) (owner : ChainOwner) (strict : Bool) (n : ℕ)
    → one_more_if (assigns_handle (superclass_place_at owner strict) (tag_token (tag_of_desc x))) n ≡ by_tag (tag_of_desc x) + n
count_superclass_tag (plain name suid flags fields notes parent) None strict n = omega arith
count_superclass_tag (plain name suid flags fields notes parent) (Some owner) strict n = omega arith
count_superclass_tag (proxy interfaces notes parent) None strict n = omega arith
count_superclass_tag (proxy interfaces notes parent) (Some owner) strict n = omega arith

mutual
  -- a value behind its tag; the handle that the tag assigns is counted
  counts_value : (v : ValueTree) (d : ℕ) (m : Moment) (rest : List Piece) → WellFormedValue m.table v
      → (contents_in (cut_value d m v rest) ≡ contents_in rest)
      × (suc m.places + places_in (cut_value d m v rest) ≡ places_value m.places v + places_in rest)
      × (length m.table + by_tag (tag_of v) + handles_in (cut_value d m v rest) ≡ length
      (after_value m.table v) + handles_in rest)
  counts_value null d m rest h = (refl, refl, omega arith)
  counts_value (back n) d m rest h = (refl, refl, omega arith)
  counts_value (string t) d m rest h = (refl, refl, omega (arith, count_string t.long, length-add m.table text_entry))
  counts_value (descriptor x) d m rest h = let r = counts_desc x (own_class None) d (tick m) rest h in (r.0, r.1, omega arith)
  counts_value (class_object c) d m rest h =
      let r =
      counts_class c class_owner d (tick m) rest h in
      (r.0, r.1, omega (arith, length-add (after_class m.table c) other_entry))
  counts_value (array c b) d m rest h =
      let made = assign (past_class (tick m) c) other_entry in
      let elements = elements_of (chain_of_class m.table c) in
      let q =
      counts_class c array_owner d (tick m) (at array_length_at d made (array_length_token (array_length b))
      ∷ cut_body d made elements b rest) h.0 in
      let r = counts_body b elements d made rest h.2 in
      (q.0 ∙ r.0, q.1 ∙ r.1, omega (arith, length-add (after_class m.table c) other_entry))
  counts_value (enum_constant c t) d m rest h =
      let made = assign (past_class (tick m) c) other_entry in
      let q = counts_class c enum_owner d (tick m) (cut_text_place d made t rest) h.0 in
      let r = counts_text t d made rest in
      (q.0 ∙ r.0, q.1 ∙ r.1, omega (arith, length-add (after_class m.table c) other_entry))
  counts_value (object c ss) d m rest h =
      let made = assign (past_class (tick m) c) other_entry in
      let ch = chain_of_class m.table c in
      let behind = if is_external ch then cut_external d made ss rest else cut_sections d made ch ss rest in
      let q = counts_class c object_owner d (tick m) behind h.0 in
      let r =
      counts_by_class (is_external ch) (WellFormedExternal made.table ss) (WellFormedSections made.table ss ch) made
      (past_sections made ss)
      (cut_external d made ss rest) (cut_sections d made ch ss rest) rest h.2
      (λ w. counts_external ss d made rest w) (λ w. counts_sections ss ch d made rest w) in (
        q.0 ∙ r.0,
        q.1 ∙ r.1,
        joins (length m.table) (length (after_class m.table c)) (length made.table) (length (after_sections made.table ss))
            (handles_in (cut_class object_owner d (tick m) c behind))
            (handles_in behind) (handles_in rest) q.2 (length-add (after_class m.table c) other_entry) r.2,
      )
    where
      joins : (k a b n p q r : ℕ) → k + p ≡ a + 1 + q → b ≡ suc a → b + q ≡ n + r → k + 0 + p ≡ n + r
      joins k a b n p q r e f g = omega arith

  counts_desc : (x : DescTree) (role : Role) (d : ℕ) (m : Moment) (rest : List Piece) → WellFormedDesc m.table x
      → (contents_in (cut_desc role d m x rest) ≡ contents_in rest)
      × (m.places + places_in (cut_desc role d m x rest) ≡ places_desc m.places x + places_in rest)
      × (length m.table + by_tag (tag_of_desc x) + handles_in (cut_desc role d m x rest) ≡ length (after_desc m.table x) + owned
      (owner_of role) + handles_in rest)
  counts_desc (plain name suid flags fields notes parent) role d m rest h =
      let m1 = assign m pending_entry in
      let m2 = past_fields m1 fields in
      let m3 = past_contents m2 notes in
      let up = cut_superclass (owner_of role) (is_strict_above role flags) (suc d) m3 parent rest in
      let q = counts_fields fields d false m1 (cut_annotation d m2 notes up) in
      let w = counts_annotation notes d m2 up h.5 in
      let r = counts_superclass parent (owner_of role) (is_strict_above role flags) (suc d) m3 rest h.6 in (
        q.0 ∙ w.0 ∙ r.0,
        q.1 ∙ w.1 ∙ r.1,
        omega (
          arith,
          length-add m.table pending_entry,
          length-close (after_class m3.table parent) (length m.table) (chain_of_class m3.table parent
              ++ (plain_layer name flags fields ∷ [])),
        ),
      )
  counts_desc (proxy interfaces notes parent) role d m rest h =
      let m1 = assign m pending_entry in
      let m3 = past_contents m1 notes in
      let up = cut_superclass (owner_of role) (is_strict_above role 0) (suc d) m3 parent rest in
      let q = counts_interfaces interfaces d m1 (cut_annotation d m1 notes up) in
      let w = counts_annotation notes d m1 up h.2 in
      let r = counts_superclass parent (owner_of role) (is_strict_above role 0) (suc d) m3 rest h.3 in (
        q.0 ∙ w.0 ∙ r.0,
        q.1 ∙ w.1 ∙ r.1,
        omega (
          arith,
          length-add m.table pending_entry,
          length-close (after_class m3.table parent) (length m.table) (chain_of_class m3.table parent ++ (proxy_layer ∷ [])),
        ),
      )

  counts_class : (c : ClassPlaceTree) (owner : Owner) (d : ℕ) (m : Moment) (rest : List Piece) → WellFormedClass m.table c
      → CountsOwned (Some owner) m (past_class m c) (cut_class owner d m c rest) rest
  counts_class no_class owner d m rest h = absurd h
  counts_class (back_class n) owner d m rest h = (refl, refl, omega arith)
  counts_class (new_class x) owner d m rest h =
      let r = counts_desc x (own_class (Some owner)) d m rest h in
      (r.0, r.1, omega (arith, count_class_tag x owner (handles_in (cut_desc (own_class (Some owner)) d m x rest))))

  counts_superclass : (c : ClassPlaceTree) (owner : ChainOwner) (strict : Bool) (d : ℕ) (m : Moment) (rest : List Piece)
      → WellFormedSuperclass m.table c
      → CountsOwned owner m (past_class (tick m) c) (cut_superclass owner strict d m c rest) rest
  counts_superclass no_class None strict d m rest h = (refl, omega arith, omega arith)
  counts_superclass no_class (Some owner) strict d m rest h = (refl, omega arith, omega arith)
  counts_superclass (back_class n) None strict d m rest h = (refl, omega arith, omega arith)
  counts_superclass (back_class n) (Some owner) strict d m rest h = (refl, omega arith, omega arith)
  counts_superclass (new_class x) owner strict d m rest h =
      let r = counts_desc x (superclass owner strict) d (tick m) rest h in (
        r.0,
        omega arith,
        omega
            (arith, count_superclass_tag x owner strict (handles_in (cut_desc (superclass owner strict) d (tick m) x rest))),
      )

  counts_body : (b : BodyTree) (elements : Option PrimCode) (d : ℕ) (m : Moment) (rest : List Piece)
      → WellFormedBody m.table b elements
      → Counts m (past_body m b) (cut_body d m elements b rest) rest
  counts_body (raw_body ps) elements d m rest h = counts_raw elements ps d m rest
  counts_body (value_body vs) None d m rest h = counts_values vs d m rest h.1
  counts_body (value_body vs) (Some c) d m rest h = absurd h

  counts_values : (vs : ValueTrees) (d : ℕ) (m : Moment) (rest : List Piece) → WellFormedValues m.table vs
      → Counts m (past_values m vs) (cut_values d m vs rest) rest
  counts_values no_values d m rest h = (refl, refl, refl)
  counts_values (value_and v vs) d m rest h =
      let q = counts_value v (suc d) m (cut_values d (past_value m v) vs rest) h.0 in
      let r = counts_values vs d (past_value m v) rest h.1 in
      let t = (count_tag (tag_of v) (handles_in (cut_value (suc d) m v (cut_values d (past_value m v) vs rest)))).2 in
      (q.0 ∙ r.0, omega arith, omega arith)

  counts_external : (ss : SectionTrees) (d : ℕ) (m : Moment) (rest : List Piece) → WellFormedExternal m.table ss
      → Counts m (past_sections m ss) (cut_external d m ss rest) rest
  counts_external (section_and (section [] no_values (annotation notes)) no_sections) d m rest h =
      counts_annotation notes d m rest h
  counts_external _ d m rest h = absurd h

  counts_sections : (ss : SectionTrees) (chain : List Layer) (d : ℕ) (m : Moment) (rest : List Piece)
      → WellFormedSections m.table ss chain
      → Counts m (past_sections m ss) (cut_sections d m chain ss rest) rest
  counts_sections no_sections [] d m rest h = (refl, refl, refl)
  counts_sections no_sections (l ∷ ls) d m rest h = absurd h
  counts_sections (section_and s ss) [] d m rest h = absurd h
  counts_sections (section_and (section ps vs n) ss) (l ∷ ls) d m rest h =
      let m1 = past_values m vs in
      let m2 = past_notes m1 n in
      let after = cut_sections d m2 ls ss rest in
      let p = counts_prims (primitive_codes l.codes) ps d m (cut_values d m vs (cut_notes d m1 n after)) in
      let q = counts_values vs d m (cut_notes d m1 n after) h.2 in
      let w = counts_notes n (has_write_method l.flags) d m1 after h.3 in
      let r = counts_sections ss ls d m2 rest h.4 in
      (p.0 ∙ q.0 ∙ w.0 ∙ r.0, p.1 ∙ q.1 ∙ w.1 ∙ r.1, p.2 ∙ q.2 ∙ w.2 ∙ r.2)

  counts_notes : (n : NotesTree) (expected : Bool) (d : ℕ) (m : Moment) (rest : List Piece)
      → WellFormedNotesIf m.table n expected → Counts m (past_notes m n) (cut_notes d m n rest) rest
  counts_notes no_notes expected d m rest h = (refl, refl, refl)
  counts_notes (annotation cs) expected d m rest h = counts_annotation cs d m rest h.1

  counts_annotation : (cs : ContentTrees) (d : ℕ) (m : Moment) (rest : List Piece) → WellFormedNotes m.table cs
      → Counts m (past_contents m cs) (cut_annotation d m cs rest) rest
  counts_annotation no_contents d m rest h = (refl, refl, refl)
  counts_annotation (content_and (block long b) cs) d m rest h =
      let q = counts_bytes b d m (cut_annotation d m cs rest) in
      let r = counts_annotation cs d m rest h.1 in
      (q.0 ∙ r.0, q.1 ∙ r.1, q.2 ∙ r.2)
  counts_annotation (content_and reset cs) d m rest h = absurd h
  counts_annotation (content_and (content v) cs) d m rest h =
      let q = counts_value v (suc d) m (cut_annotation d (past_value m v) cs rest) h.0 in
      let r = counts_annotation cs d (past_value m v) rest h.1 in
      let t = (count_tag (tag_of v) (handles_in (cut_value (suc d) m v (cut_annotation d (past_value m v) cs rest)))).1 in
      (q.0 ∙ r.0, omega arith, omega arith)

counts_top : (cs : ContentTrees) (m : Moment) → WellFormedContents m.table cs
    → (contents_in (cut_top m cs []) ≡ content_count cs) × (m.places + places_in (cut_top m cs []) ≡ places_contents m.places cs)
    × (length m.table + handles_in (cut_top m cs []) ≡ sum (epochs_from m.table cs))
counts_top no_contents m h = (refl, omega arith, omega arith)
counts_top (content_and (block long b) cs) m h =
    let q = counts_bytes b 0 m (cut_top m cs []) in
    let r = counts_top cs m h.1 in
    (ap (λ n. suc n) (q.0 ∙ r.0), q.1 ∙ r.1, q.2 ∙ r.2)
counts_top (content_and reset cs) m h =
    let r = counts_top cs (emptied m) h in
    (ap (λ n. suc n) r.0, r.1, omega (arith, sum_by-cons (λ n. n) (length m.table) (epochs_from [] cs)))
counts_top (content_and (content v) cs) m h =
    let q = counts_value v 1 m (cut_top (past_value m v) cs []) h.0 in
    let r = counts_top cs (past_value m v) h.1 in
    let t = (count_tag (tag_of v) (handles_in (cut_value 1 m v (cut_top (past_value m v) cs [])))).0 in
    (ap (λ n. suc n) (q.0 ∙ r.0), omega arith, omega arith)

pub totalled_law : Totalled
totalled_law list w =
    let r = counts_top list beginning w in
    (r.0, omega (arith, counted_contents list 0), depth_observed list w, omega arith)
