-- What comes behind the tokens of a tree may be put there in two parts: cut .. (r ++ s) ≡ cut .. r ++ s.
use Rattle.std.proofs.Common.{◌≡◌, ℕ, suc, Bool, true, false, ◌||◌, if◌then◌else◌, List, [], ◌∷◌, ◌++◌, length, refl, ◌∙◌, ap, Option, Some, None}
use Rattle.jser_reading.proofs.Vocabulary.{other_entry, pending_entry, Layer, PrimCode, is_object_code, primitive_codes, TextPlaceTree, new_text, back_text, FieldTree, PrimTree, ValueTree, null, back, string, descriptor, class_object, array, enum_constant, object, DescTree, plain, proxy, ClassPlaceTree, no_class, back_class, new_class, BodyTree, raw_body, value_body, ValueTrees, no_values, value_and, section, SectionTrees, no_sections, section_and, NotesTree, no_notes, annotation, block, reset, content, ContentTrees, no_contents, content_and, chain_of_class, elements_of, is_external, Owner, object_owner, array_owner, enum_owner, class_owner, ChainOwner, Role, own_class, superclass, owner_of, is_strict_above, Moment, tick, assign, past_type, past_fields, past_value, past_class, past_values, past_notes, past_contents, tag_token, block_tag_token, suid_token, flags_token, field_count_token, interface_count_token, array_length_token, code_token, text_token, block_length_token, prims_token, annotation_at, value_at, class_place_at, superclass_place_at, class_name_at, field_name_at, interface_name_at, suid_at, field_count_at, interface_count_at, array_length_at, flags_at, type_code_at, block_length_at, raw_at, Piece, at, tag_of_desc, tag_of, cut_text_place, cut_type, cut_fields, cut_interfaces, cut_bytes, cut_raw, cut_prims, cut_value, cut_desc, cut_class, cut_superclass, cut_body, cut_values, cut_external, cut_sections, cut_notes, cut_annotation}
use Rattle.jser_grammar.specs.Counts.{array_length}

cut_text_place-append : (t : TextPlaceTree) (d : ℕ) (m : Moment) (r s : List Piece)
    → cut_text_place d m t (r ++ s) ≡ cut_text_place d m t r ++ s
cut_text_place-append (new_text t) d m r s = refl
cut_text_place-append (back_text n) d m r s = refl

cut_type-append : (t : Option TextPlaceTree) (d : ℕ) (m : Moment) (r s : List Piece)
    → cut_type d m t (r ++ s) ≡ cut_type d m t r ++ s
cut_type-append None d m r s = refl
cut_type-append (Some t) d m r s = cut_text_place-append t d m r s

cut_fields-append : (fs : List FieldTree) (d : ℕ) (seen : Bool) (m : Moment) (r s : List Piece)
    → cut_fields d seen m fs (r ++ s) ≡ cut_fields d seen m fs r ++ s
cut_fields-append [] d seen m r s = refl
cut_fields-append (f ∷ fs) d seen m r s =
    let later = seen || is_object_code f.code in
    ap (λ z. at (type_code_at seen) d m (code_token f.code) ∷ at field_name_at d m (text_token false f.name) ∷ z)
    (ap (λ z. cut_type d m f.text z) (cut_fields-append fs d later (past_type m f.text) r s) ∙ cut_type-append f.text d m
    (cut_fields d later (past_type m f.text) fs r) s)

cut_interfaces-append : (names : List (List ℕ)) (d : ℕ) (m : Moment) (r s : List Piece)
    → cut_interfaces d m names (r ++ s) ≡ cut_interfaces d m names r ++ s
cut_interfaces-append [] d m r s = refl
cut_interfaces-append (name ∷ names) d m r s =
    ap (λ z. at interface_name_at d m (text_token false name) ∷ z) (cut_interfaces-append names d m r s)

cut_bytes-append : (b : List ℕ) (d : ℕ) (m : Moment) (r s : List Piece) → cut_bytes d m b (r ++ s) ≡ cut_bytes d m b r ++ s
cut_bytes-append [] d m r s = refl
cut_bytes-append (x ∷ b) d m r s = refl

cut_raw-append : (elements : Option PrimCode) (ps : List PrimTree) (d : ℕ) (m : Moment) (r s : List Piece)
    → cut_raw d m elements ps (r ++ s) ≡ cut_raw d m elements ps r ++ s
cut_raw-append None ps d m r s = refl
cut_raw-append (Some c) [] d m r s = refl
cut_raw-append (Some c) (p ∷ ps) d m r s = refl

cut_prims-append : (cs : List PrimCode) (ps : List PrimTree) (d : ℕ) (m : Moment) (r s : List Piece)
    → cut_prims d m cs ps (r ++ s) ≡ cut_prims d m cs ps r ++ s
cut_prims-append [] ps d m r s = refl
cut_prims-append (c ∷ cs) [] d m r s = refl
cut_prims-append (c ∷ cs) (p ∷ ps) d m r s =
    ap (λ z. at (raw_at c 1) d m (prims_token (p ∷ [])) ∷ z) (cut_prims-append cs ps d m r s)

if-append : (b : Bool) (x y x' y' s : List Piece) → x ≡ x' ++ s → y ≡ y' ++ s → (if b then x else y) ≡ (if b then x' else y') ++ s
if-append true x y x' y' s e f = e
if-append false x y x' y' s e f = f

mutual
  pub cut_value-append : (v : ValueTree) (d : ℕ) (m : Moment) (r s : List Piece) → cut_value d m v (r ++ s) ≡ cut_value d m v r
      ++ s
  cut_value-append null d m r s = refl
  cut_value-append (back n) d m r s = refl
  cut_value-append (string t) d m r s = refl
  cut_value-append (descriptor x) d m r s = cut_desc-append x (own_class None) d (tick m) r s
  cut_value-append (class_object c) d m r s = cut_class-append c class_owner d (tick m) r s
  cut_value-append (array c b) d m r s =
      let made = assign (past_class (tick m) c) other_entry in
      let elements = elements_of (chain_of_class m.table c) in
      ap (λ z. cut_class array_owner d (tick m) c (at array_length_at d made (array_length_token (array_length b)) ∷ z))
      (cut_body-append b elements d made r s)
      ∙ cut_class-append c array_owner d (tick m) (at array_length_at d made (array_length_token (array_length b))
      ∷ cut_body d made elements b r) s
  cut_value-append (enum_constant c t) d m r s =
      let made = assign (past_class (tick m) c) other_entry in
      ap (λ z. cut_class enum_owner d (tick m) c z) (cut_text_place-append t d made r s) ∙ cut_class-append c enum_owner d
      (tick m) (cut_text_place d made t r) s
  cut_value-append (object c ss) d m r s =
      let made = assign (past_class (tick m) c) other_entry in
      let ch = chain_of_class m.table c in
      ap (λ z. cut_class object_owner d (tick m) c z)
      (if-append (is_external ch) (cut_external d made ss (r ++ s)) (cut_sections d made ch ss (r
      ++ s)) (cut_external d made ss r) (cut_sections d made ch ss r) s
      (cut_external-append ss d made r s) (cut_sections-append ss ch d made r s))
      ∙ cut_class-append c object_owner d (tick m)
      (if is_external ch then cut_external d made ss r else cut_sections d made ch ss r) s

  cut_desc-append : (x : DescTree) (role : Role) (d : ℕ) (m : Moment) (r s : List Piece)
      → cut_desc role d m x (r ++ s) ≡ cut_desc role d m x r ++ s
  cut_desc-append (plain name suid flags fields notes parent) role d m r s =
      let m1 = assign m pending_entry in
      let m2 = past_fields m1 fields in
      let m3 = past_contents m2 notes in
      let strict = is_strict_above role flags in
      let up = cut_superclass (owner_of role) strict (suc d) m3 parent r in
      let e3 = cut_superclass-append parent (owner_of role) strict (suc d) m3 r s in
      let e2 = ap (λ z. cut_annotation d m2 notes z) e3 ∙ cut_annotation-append notes d m2 up s in
      let e1 =
      ap (λ z. cut_fields d false m1 fields z) e2 ∙ cut_fields-append fields d false m1 (cut_annotation d m2 notes up) s in
      ap (λ z. at (class_name_at role) d m (text_token false name) ∷ at suid_at d m (suid_token suid)
      ∷ at (flags_at role) d m1 (flags_token flags)
      ∷ at field_count_at d m1 (field_count_token (length fields)) ∷ z) e1
  cut_desc-append (proxy interfaces notes parent) role d m r s =
      let m1 = assign m pending_entry in
      let m3 = past_contents m1 notes in
      let strict = is_strict_above role 0 in
      let up = cut_superclass (owner_of role) strict (suc d) m3 parent r in
      let e3 = cut_superclass-append parent (owner_of role) strict (suc d) m3 r s in
      let e2 = ap (λ z. cut_annotation d m1 notes z) e3 ∙ cut_annotation-append notes d m1 up s in
      let e1 =
      ap (λ z. cut_interfaces d m1 interfaces z) e2 ∙ cut_interfaces-append interfaces d m1
      (cut_annotation d m1 notes up) s in
      ap (λ z. at interface_count_at d m1 (interface_count_token (length interfaces)) ∷ z) e1

  cut_class-append : (c : ClassPlaceTree) (owner : Owner) (d : ℕ) (m : Moment) (r s : List Piece)
      → cut_class owner d m c (r ++ s) ≡ cut_class owner d m c r ++ s
  cut_class-append no_class owner d m r s = refl
  cut_class-append (back_class n) owner d m r s = refl
  cut_class-append (new_class x) owner d m r s =
      ap (λ z. at (class_place_at owner) d m (tag_token (tag_of_desc x)) ∷ z) (cut_desc-append x (own_class (Some owner)) d m r s)

  cut_superclass-append : (c : ClassPlaceTree) (owner : ChainOwner) (strict : Bool) (d : ℕ) (m : Moment) (r s : List Piece)
      → cut_superclass owner strict d m c (r ++ s) ≡ cut_superclass owner strict d m c r ++ s
  cut_superclass-append no_class owner strict d m r s = refl
  cut_superclass-append (back_class n) owner strict d m r s = refl
  cut_superclass-append (new_class x) owner strict d m r s =
      ap (λ z. at (superclass_place_at owner strict) d m (tag_token (tag_of_desc x)) ∷ z)
      (cut_desc-append x (superclass owner strict) d (tick m) r s)

  cut_body-append : (b : BodyTree) (elements : Option PrimCode) (d : ℕ) (m : Moment) (r s : List Piece)
      → cut_body d m elements b (r ++ s) ≡ cut_body d m elements b r ++ s
  cut_body-append (raw_body ps) elements d m r s = cut_raw-append elements ps d m r s
  cut_body-append (value_body vs) elements d m r s = cut_values-append vs d m r s

  cut_values-append : (vs : ValueTrees) (d : ℕ) (m : Moment) (r s : List Piece)
      → cut_values d m vs (r ++ s) ≡ cut_values d m vs r ++ s
  cut_values-append no_values d m r s = refl
  cut_values-append (value_and v vs) d m r s =
      ap (λ z. at value_at (suc d) m (tag_token (tag_of v)) ∷ z)
      (ap (λ z. cut_value (suc d) m v z) (cut_values-append vs d (past_value m v) r s) ∙ cut_value-append v (suc d) m
      (cut_values d (past_value m v) vs r) s)

  cut_external-append : (ss : SectionTrees) (d : ℕ) (m : Moment) (r s : List Piece)
      → cut_external d m ss (r ++ s) ≡ cut_external d m ss r ++ s
  cut_external-append no_sections d m r s = refl
  cut_external-append (section_and (section ps vs n) ss) d m r s = cut_notes-append n d m r s

  cut_sections-append : (ss : SectionTrees) (chain : List Layer) (d : ℕ) (m : Moment) (r s : List Piece)
      → cut_sections d m chain ss (r ++ s) ≡ cut_sections d m chain ss r ++ s
  cut_sections-append no_sections chain d m r s = refl
  cut_sections-append (section_and x ss) [] d m r s = refl
  cut_sections-append (section_and (section ps vs n) ss) (l ∷ ls) d m r s =
      let m1 = past_values m vs in
      let m2 = past_notes m1 n in
      let rest = cut_sections d m2 ls ss r in
      ap (λ z. cut_prims d m (primitive_codes l.codes) ps z)
      (ap (λ z. cut_values d m vs z)
      (ap (λ z. cut_notes d m1 n z) (cut_sections-append ss ls d m2 r s) ∙ cut_notes-append n d m1 rest s)
      ∙ cut_values-append vs d m (cut_notes d m1 n rest) s)
      ∙ cut_prims-append (primitive_codes l.codes) ps d m (cut_values d m vs (cut_notes d m1 n rest)) s

  cut_notes-append : (n : NotesTree) (d : ℕ) (m : Moment) (r s : List Piece) → cut_notes d m n (r ++ s) ≡ cut_notes d m n r ++ s
  cut_notes-append no_notes d m r s = refl
  cut_notes-append (annotation cs) d m r s = cut_annotation-append cs d m r s

  cut_annotation-append : (cs : ContentTrees) (d : ℕ) (m : Moment) (r s : List Piece)
      → cut_annotation d m cs (r ++ s) ≡ cut_annotation d m cs r ++ s
  cut_annotation-append no_contents d m r s = refl
  cut_annotation-append (content_and (block long b) cs) d m r s =
      ap (λ z. at annotation_at (suc d) m (block_tag_token long)
      ∷ at (block_length_at long) d m (block_length_token long (length b)) ∷ z)
      (ap (λ z. cut_bytes d m b z) (cut_annotation-append cs d m r s) ∙ cut_bytes-append b d m (cut_annotation d m cs r) s)
  cut_annotation-append (content_and reset cs) d m r s = cut_annotation-append cs d m r s
  cut_annotation-append (content_and (content v) cs) d m r s =
      ap (λ z. at annotation_at (suc d) m (tag_token (tag_of v)) ∷ z)
      (ap (λ z. cut_value (suc d) m v z) (cut_annotation-append cs d (past_value m v) r s) ∙ cut_value-append v (suc d) m
      (cut_annotation d (past_value m v) cs r) s)
