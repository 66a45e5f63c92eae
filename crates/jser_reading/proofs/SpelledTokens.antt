-- The bytes of the tokens of a well-formed tree, joined, are its spelling. What follows a tree is kept apart, and
-- the parts are put together by associativity.
use Rattle.std.proofs.Common.{◌≡◌, ℕ, suc, Bool, true, false, ◌||◌, if◌then◌else◌, List, [], ◌∷◌, ◌++◌, length, refl, sym, ◌∙◌, ap, Option, Some, None, append_assoc, append-nil, MatchBool}
use Rattle.jser_reading.proofs.Vocabulary.{has_write_method, other_entry, pending_entry, Layer, big_bytes, PrimCode, is_object_code, primitive_codes, TextPlaceTree, new_text, back_text, FieldTree, PrimTree, ValueTree, null, back, string, descriptor, class_object, array, enum_constant, object, DescTree, plain, proxy, ClassPlaceTree, no_class, back_class, new_class, BodyTree, raw_body, value_body, ValueTrees, no_values, value_and, section, SectionTrees, no_sections, section_and, NotesTree, no_notes, annotation, block, reset, content, ContentTrees, no_contents, content_and, value_count, chain_of_class, ArePrims, elements_of, is_external, WellFormedValue, WellFormedDesc, WellFormedClass, WellFormedSuperclass, WellFormedBody, WellFormedValues, WellFormedExternal, WellFormedSections, WellFormedNotesIf, WellFormedNotes, WellFormedContents, Owner, object_owner, array_owner, enum_owner, class_owner, ChainOwner, Role, own_class, superclass, owner_of, is_strict_above, Moment, beginning, tick, assign, emptied, past_type, past_fields, past_value, past_class, past_values, past_notes, past_contents, block_tag_token, array_length_token, text_token, block_length_token, Position, top_at, annotation_at, array_length_at, block_length_at, Piece, at, tag_of_string, tag_of_desc, tag_of, cut_text_place, cut_type, cut_fields, cut_interfaces, cut_bytes, cut_raw, cut_prims, cut_value, cut_desc, cut_class, cut_superclass, cut_body, cut_values, cut_external, cut_sections, cut_notes, cut_annotation, cut_top}
use Rattle.jser_grammar.specs.Counts.{array_length}
use Rattle.jser_grammar.specs.Spelling.{utf, string_spelling, text_place_spelling, type_spelling, fields_spelling, interfaces_spelling, prim_spelling, prims_spelling, block_head, value_spelling, desc_spelling, class_spelling, body_spelling, values_spelling, sections_spelling, notes_spelling, annotation_spelling, contents_spelling}
use Rattle.jser_reading.specs.TokenBytes.{tag_byte, bytes_of, joined}
use Rattle.jser_reading.specs.ByteLaws.{Spelled}

two : (a b r : List ℕ) → a ++ (b ++ r) ≡ (a ++ b) ++ r
two a b r = simp append_assoc

three : (a b c r : List ℕ) → a ++ (b ++ (c ++ r)) ≡ (a ++ (b ++ c)) ++ r
three a b c r = simp append_assoc

four : (a b c d r : List ℕ) → a ++ (b ++ (c ++ (d ++ r))) ≡ (a ++ (b ++ (c ++ d))) ++ r
four a b c d r = simp append_assoc

plain_parts : (a b c d e g : List ℕ) (x : ℕ) (r : List ℕ) → a
    ++ (b ++ (x ∷ (c ++ (d ++ (e ++ (g ++ r)))))) ≡ (a ++ (b ++ (x ∷ (c ++ (d ++ (e ++ g)))))) ++ r
plain_parts a b c d e g x r = simp append_assoc

spelled_string : (long : Bool) (u rest : List ℕ)
    → tag_byte (tag_of_string long) ∷ (bytes_of (text_token long u) ++ rest) ≡ string_spelling long u ++ rest
spelled_string true u rest = refl
spelled_string false u rest = refl

spelled_text_place : (t : TextPlaceTree) (d : ℕ) (m : Moment) (rest : List Piece)
    → joined (cut_text_place d m t rest) ≡ text_place_spelling t ++ joined rest
spelled_text_place (new_text t) d m rest = spelled_string t.long t.units (joined rest)
spelled_text_place (back_text n) d m rest = refl

spelled_type : (t : Option TextPlaceTree) (d : ℕ) (m : Moment) (rest : List Piece)
    → joined (cut_type d m t rest) ≡ type_spelling t ++ joined rest
spelled_type None d m rest = refl
spelled_type (Some t) d m rest = spelled_text_place t d m rest

spelled_fields : (fs : List FieldTree) (d : ℕ) (seen : Bool) (m : Moment) (rest : List Piece)
    → joined (cut_fields d seen m fs rest) ≡ fields_spelling fs ++ joined rest
spelled_fields [] d seen m rest = refl
spelled_fields (f ∷ fs) d seen m rest =
    let later = seen || is_object_code f.code in
    ap (λ z. f.code ∷ (utf f.name ++ z))
    (spelled_type f.text d m (cut_fields d later (past_type m f.text) fs rest) ∙ ap (λ z. type_spelling f.text
    ++ z) (spelled_fields fs d later (past_type m f.text) rest))
    ∙ ap (λ z. f.code ∷ z) (three (utf f.name) (type_spelling f.text) (fields_spelling fs) (joined rest))

spelled_interfaces : (names : List (List ℕ)) (d : ℕ) (m : Moment) (rest : List Piece)
    → joined (cut_interfaces d m names rest) ≡ interfaces_spelling names ++ joined rest
spelled_interfaces [] d m rest = refl
spelled_interfaces (name ∷ names) d m rest =
    ap (λ z. utf name ++ z) (spelled_interfaces names d m rest) ∙ two (utf name) (interfaces_spelling names) (joined rest)

spelled_bytes : (bytes : List ℕ) (d : ℕ) (m : Moment) (rest : List Piece) → joined (cut_bytes d m bytes rest) ≡ bytes
    ++ joined rest
spelled_bytes [] d m rest = refl
spelled_bytes (b ∷ bytes) d m rest = refl

spelled_block : (long : Bool) (bytes : List ℕ) (d e : ℕ) (position : Position) (m : Moment) (rest : List Piece)
    → joined (at position e m (block_tag_token long) ∷ at (block_length_at long) d m (block_length_token long (length bytes))
    ∷ cut_bytes d m bytes rest)
    ≡ (block_head long (length bytes) ++ bytes) ++ joined rest
spelled_block true bytes d e position m rest =
    ap (λ z. 0x7A ∷ (big_bytes 4 (length bytes)
    ++ z)) (spelled_bytes bytes d m rest) ∙ ap (λ z. 0x7A ∷ z) (two (big_bytes 4 (length bytes)) bytes (joined rest))
spelled_block false bytes d e position m rest =
    ap (λ z. 0x77 ∷ (big_bytes 1 (length bytes)
    ++ z)) (spelled_bytes bytes d m rest) ∙ ap (λ z. 0x77 ∷ z) (two (big_bytes 1 (length bytes)) bytes (joined rest))

spelled_raw : (c : PrimCode) (ps : List PrimTree) (d : ℕ) (m : Moment) (rest : List Piece)
    → joined (cut_raw d m (Some c) ps rest) ≡ prims_spelling ps ++ joined rest
spelled_raw c [] d m rest = refl
spelled_raw c (p ∷ ps) d m rest = refl

spelled_prims : (cs : List PrimCode) (ps : List PrimTree) (d : ℕ) (m : Moment) (rest : List Piece) → ArePrims cs ps
    → joined (cut_prims d m cs ps rest) ≡ prims_spelling ps ++ joined rest
spelled_prims [] [] d m rest h = refl
spelled_prims [] (p ∷ ps) d m rest h = absurd h
spelled_prims (c ∷ cs) [] d m rest h = absurd h
spelled_prims (c ∷ cs) (p ∷ ps) d m rest h =
    ap (λ z. (prim_spelling p ++ []) ++ z) (spelled_prims cs ps d m rest h.1) ∙ ap (λ z. z
    ++ (prims_spelling ps ++ joined rest)) (append-nil (prim_spelling p))
    ∙ two (prim_spelling p) (prims_spelling ps) (joined rest)

spelled_by_class : (external : Bool) (E S : Type 0) (a b : List Piece) (w : List ℕ) → MatchBool external E S
    → (E → joined a ≡ w) → (S → joined b ≡ w)
    → joined (if external then a else b) ≡ w
spelled_by_class true E S a b w h f g = f h
spelled_by_class false E S a b w h f g = g h

mutual
  pub spelled_value : (v : ValueTree) (d : ℕ) (m : Moment) (rest : List Piece) → WellFormedValue m.table v
      → tag_byte (tag_of v) ∷ joined (cut_value d m v rest) ≡ value_spelling v ++ joined rest
  spelled_value null d m rest h = refl
  spelled_value (back n) d m rest h = refl
  spelled_value (string t) d m rest h = spelled_string t.long t.units (joined rest)
  spelled_value (descriptor x) d m rest h = spelled_desc x (own_class None) d (tick m) rest h
  spelled_value (class_object c) d m rest h = ap (λ z. 0x76 ∷ z) (spelled_class c class_owner d (tick m) rest h)
  spelled_value (array c b) d m rest h =
      let made = assign (past_class (tick m) c) other_entry in
      let elements = elements_of (chain_of_class m.table c) in
      ap (λ z. 0x75 ∷ z) (spelled_class c array_owner d (tick m)
      (at array_length_at d made (array_length_token (array_length b)) ∷ cut_body d made elements b rest) h.0
      ∙ ap (λ z. class_spelling c
      ++ z) (spelled_body b elements d made rest h.2) ∙ two (class_spelling c) (body_spelling b) (joined rest))
  spelled_value (enum_constant c t) d m rest h =
      let made = assign (past_class (tick m) c) other_entry in
      ap (λ z. 0x7E ∷ z) (spelled_class c enum_owner d (tick m) (cut_text_place d made t rest) h.0
      ∙ ap (λ z. class_spelling c
      ++ z) (spelled_text_place t d made rest) ∙ two (class_spelling c) (text_place_spelling t) (joined rest))
  spelled_value (object c ss) d m rest h =
      let made = assign (past_class (tick m) c) other_entry in
      let chain = chain_of_class m.table c in
      ap (λ z. 0x73 ∷ z) (spelled_class c object_owner d (tick m)
      (if is_external chain then cut_external d made ss rest else cut_sections d made chain ss rest) h.0
      ∙ ap (λ z. class_spelling c ++ z)
      (spelled_by_class (is_external chain) (WellFormedExternal made.table ss) (WellFormedSections made.table ss chain)
      (cut_external d made ss rest) (cut_sections d made chain ss rest)
      (sections_spelling ss
      ++ joined rest) h.2 (λ w. spelled_external ss d made rest w) (λ w. spelled_sections ss chain d made rest w))
      ∙ two (class_spelling c) (sections_spelling ss) (joined rest))

  spelled_desc : (x : DescTree) (role : Role) (d : ℕ) (m : Moment) (rest : List Piece) → WellFormedDesc m.table x
      → tag_byte (tag_of_desc x) ∷ joined (cut_desc role d m x rest) ≡ desc_spelling x ++ joined rest
  spelled_desc (plain name suid flags fields notes parent) role d m rest h =
      let m1 = assign m pending_entry in
      let m2 = past_fields m1 fields in
      let m3 = past_contents m2 notes in
      let strict = is_strict_above role flags in
      let e3 = spelled_superclass parent (owner_of role) strict (suc d) m3 rest h.6 in
      let e2 =
      spelled_annotation notes d m2 (cut_superclass (owner_of role) strict (suc d) m3 parent rest) h.5 ∙ ap
      (λ z. annotation_spelling notes ++ z) e3 in
      let e1 =
      spelled_fields fields d false m1
      (cut_annotation d m2 notes (cut_superclass (owner_of role) strict (suc d) m3 parent rest)) ∙ ap
      (λ z. fields_spelling fields ++ z) e2 in
      ap (λ z. 0x72 ∷ (utf name ++ (big_bytes 8 suid ++ (flags ∷ (big_bytes 2 (length fields) ++ z))))) e1
      ∙ ap (λ z. 0x72 ∷ z) (plain_parts (utf name) (big_bytes 8 suid) (big_bytes 2 (length fields)) (fields_spelling fields)
      (annotation_spelling notes) (class_spelling parent) flags (joined rest))
  spelled_desc (proxy interfaces notes parent) role d m rest h =
      let m1 = assign m pending_entry in
      let m3 = past_contents m1 notes in
      let strict = is_strict_above role 0 in
      let e3 = spelled_superclass parent (owner_of role) strict (suc d) m3 rest h.3 in
      let e2 =
      spelled_annotation notes d m1 (cut_superclass (owner_of role) strict (suc d) m3 parent rest) h.2 ∙ ap
      (λ z. annotation_spelling notes ++ z) e3 in
      let e1 =
      spelled_interfaces interfaces d m1
      (cut_annotation d m1 notes (cut_superclass (owner_of role) strict (suc d) m3 parent rest)) ∙ ap
      (λ z. interfaces_spelling interfaces ++ z) e2 in
      ap (λ z. 0x7D ∷ (big_bytes 4 (length interfaces) ++ z)) e1
      ∙ ap (λ z. 0x7D ∷ z) (four (big_bytes 4 (length interfaces)) (interfaces_spelling interfaces) (annotation_spelling notes)
      (class_spelling parent) (joined rest))

  spelled_class : (c : ClassPlaceTree) (owner : Owner) (d : ℕ) (m : Moment) (rest : List Piece) → WellFormedClass m.table c
      → joined (cut_class owner d m c rest) ≡ class_spelling c ++ joined rest
  spelled_class no_class owner d m rest h = absurd h
  spelled_class (back_class n) owner d m rest h = refl
  spelled_class (new_class x) owner d m rest h = spelled_desc x (own_class (Some owner)) d m rest h

  spelled_superclass : (c : ClassPlaceTree) (owner : ChainOwner) (strict : Bool) (d : ℕ) (m : Moment) (rest : List Piece)
      → WellFormedSuperclass m.table c
      → joined (cut_superclass owner strict d m c rest) ≡ class_spelling c ++ joined rest
  spelled_superclass no_class owner strict d m rest h = refl
  spelled_superclass (back_class n) owner strict d m rest h = refl
  spelled_superclass (new_class x) owner strict d m rest h = spelled_desc x (superclass owner strict) d (tick m) rest h

  spelled_body : (b : BodyTree) (elements : Option PrimCode) (d : ℕ) (m : Moment) (rest : List Piece)
      → WellFormedBody m.table b elements
      → joined (at array_length_at d m (array_length_token (array_length b)) ∷ cut_body d m elements b rest) ≡ body_spelling b
      ++ joined rest
  spelled_body (raw_body ps) None d m rest h = absurd h
  spelled_body (raw_body ps) (Some c) d m rest h =
      ap (λ z. big_bytes 4 (length ps)
      ++ z) (spelled_raw c ps d m rest) ∙ two (big_bytes 4 (length ps)) (prims_spelling ps) (joined rest)
  spelled_body (value_body vs) None d m rest h =
      ap (λ z. big_bytes 4 (value_count vs)
      ++ z) (spelled_values vs d m rest h.1) ∙ two (big_bytes 4 (value_count vs)) (values_spelling vs) (joined rest)
  spelled_body (value_body vs) (Some c) d m rest h = absurd h

  spelled_values : (vs : ValueTrees) (d : ℕ) (m : Moment) (rest : List Piece) → WellFormedValues m.table vs
      → joined (cut_values d m vs rest) ≡ values_spelling vs ++ joined rest
  spelled_values no_values d m rest h = refl
  spelled_values (value_and v vs) d m rest h =
      spelled_value v (suc d) m (cut_values d (past_value m v) vs rest) h.0 ∙ ap (λ z. value_spelling v
      ++ z) (spelled_values vs d (past_value m v) rest h.1)
      ∙ two (value_spelling v) (values_spelling vs) (joined rest)

  spelled_external : (ss : SectionTrees) (d : ℕ) (m : Moment) (rest : List Piece) → WellFormedExternal m.table ss
      → joined (cut_external d m ss rest) ≡ sections_spelling ss ++ joined rest
  spelled_external (section_and (section [] no_values (annotation notes)) no_sections) d m rest h =
      spelled_annotation notes d m rest h ∙ ap (λ z. z ++ joined rest) (sym (append-nil (annotation_spelling notes)))
  spelled_external _ d m rest h = absurd h

  spelled_sections : (ss : SectionTrees) (chain : List Layer) (d : ℕ) (m : Moment) (rest : List Piece)
      → WellFormedSections m.table ss chain
      → joined (cut_sections d m chain ss rest) ≡ sections_spelling ss ++ joined rest
  spelled_sections no_sections [] d m rest h = refl
  spelled_sections no_sections (l ∷ ls) d m rest h = absurd h
  spelled_sections (section_and s ss) [] d m rest h = absurd h
  spelled_sections (section_and (section ps vs n) ss) (l ∷ ls) d m rest h =
      let behind = past_notes (past_values m vs) n in
      let after = cut_sections d behind ls ss rest in
      spelled_prims (primitive_codes l.codes) ps d m (cut_values d m vs (cut_notes d (past_values m vs) n after)) h.0
      ∙ ap (λ z. prims_spelling ps ++ z) (spelled_values vs d m (cut_notes d (past_values m vs) n after) h.2
      ∙ ap (λ z. values_spelling vs ++ z) (spelled_notes n (has_write_method l.flags) d (past_values m vs) after h.3
      ∙ ap (λ z. notes_spelling n ++ z) (spelled_sections ss ls d behind rest h.4)))
      ∙ four (prims_spelling ps) (values_spelling vs) (notes_spelling n) (sections_spelling ss) (joined rest)

  spelled_notes : (n : NotesTree) (expected : Bool) (d : ℕ) (m : Moment) (rest : List Piece)
      → WellFormedNotesIf m.table n expected
      → joined (cut_notes d m n rest) ≡ notes_spelling n ++ joined rest
  spelled_notes no_notes expected d m rest h = refl
  spelled_notes (annotation cs) expected d m rest h = spelled_annotation cs d m rest h.1

  spelled_annotation : (cs : ContentTrees) (d : ℕ) (m : Moment) (rest : List Piece) → WellFormedNotes m.table cs
      → joined (cut_annotation d m cs rest) ≡ annotation_spelling cs ++ joined rest
  spelled_annotation no_contents d m rest h = refl
  spelled_annotation (content_and (block long bytes) cs) d m rest h =
      spelled_block long bytes d (suc d) annotation_at m (cut_annotation d m cs rest) ∙ ap (λ z. (block_head long (length bytes)
      ++ bytes) ++ z) (spelled_annotation cs d m rest h.1)
      ∙ two (block_head long (length bytes) ++ bytes) (annotation_spelling cs) (joined rest)
  spelled_annotation (content_and reset cs) d m rest h = absurd h
  spelled_annotation (content_and (content v) cs) d m rest h =
      spelled_value v (suc d) m (cut_annotation d (past_value m v) cs rest) h.0 ∙ ap (λ z. value_spelling v
      ++ z) (spelled_annotation cs d (past_value m v) rest h.1)
      ∙ two (value_spelling v) (annotation_spelling cs) (joined rest)

spelled_top : (cs : ContentTrees) (m : Moment) → WellFormedContents m.table cs → joined (cut_top m cs []) ≡ contents_spelling cs
spelled_top no_contents m h = refl
spelled_top (content_and (block long bytes) cs) m h =
    spelled_block long bytes 0 1 top_at m (cut_top m cs []) ∙ ap (λ z. (block_head long (length bytes) ++ bytes)
    ++ z) (spelled_top cs m h.1)
spelled_top (content_and reset cs) m h = ap (λ z. 0x79 ∷ z) (spelled_top cs (emptied m) h)
spelled_top (content_and (content v) cs) m h =
    spelled_value v 1 m (cut_top (past_value m v) cs []) h.0 ∙ ap (λ z. value_spelling v
    ++ z) (spelled_top cs (past_value m v) h.1)

pub spelled_law : Spelled
spelled_law list h = ap (λ z. 0xAC ∷ 0xED ∷ 0x00 ∷ 0x05 ∷ z) (spelled_top list beginning h)
