-- Two well-formed trees from one moment, whose tokens begin alike, are equal, and so is what comes behind them.
-- Equal parts are found by congruence; a later part is first brought to the same moment.
use Rattle.std.proofs.Common.{◌≡◌, ℕ, suc, Bool, false, if◌then◌else◌, List, [], ◌∷◌, length, refl, sym, ◌∙◌, ap, ap₂, arith, Option, Some, None, MatchBool}
use Rattle.jser_reading.proofs.Vocabulary.{has_write_method, other_entry, pending_entry, Layer, PrimCode, primitive_codes, ValueTree, null, back, string, descriptor, class_object, array, enum_constant, object, DescTree, plain, proxy, ClassPlaceTree, no_class, back_class, new_class, BodyTree, raw_body, value_body, ValueTrees, no_values, value_and, section, SectionTrees, no_sections, section_and, NotesTree, no_notes, annotation, block, reset, content, ContentTrees, no_contents, content_and, value_count, after_value, after_values, after_notes, chain_of_class, elements_of, is_external, WellFormedValue, WellFormedDesc, WellFormedClass, WellFormedSuperclass, WellFormedBody, WellFormedValues, WellFormedExternal, WellFormedSections, WellFormedNotesIf, WellFormedNotes, WellFormedContents, WellFormed, Owner, object_owner, array_owner, enum_owner, class_owner, ChainOwner, Role, own_class, superclass, owner_of, is_strict_above, Moment, beginning, tick, assign, emptied, past_fields, past_value, past_class, past_values, past_notes, past_contents, null_tag, reference_tag, array_length_token, array_length_at, Piece, at, tag_of_desc, tag_of, cut_text_place, cut_fields, cut_interfaces, cut_bytes, cut_value, cut_desc, cut_class, cut_superclass, cut_body, cut_values, cut_external, cut_sections, cut_notes, cut_annotation, cut_top, tokens_of}
use Rattle.jser_grammar.specs.Counts.{array_length}
use Rattle.jser_grammar.proofs.Bools.{both_ways}
use Rattle.jser_reading.proofs.SameParts.{shape_of, shape, same_text, same_text_place, same_fields, same_interfaces, same_bytes, same_raw, same_prims, shape_tag, no_reference_desc, no_null_desc, same_by_class}

mutual
  pub same_value : (v u : ValueTree) (d : ℕ) (m : Moment) (x y : List Piece) → WellFormedValue m.table v
      → WellFormedValue m.table u → tag_of v ≡ tag_of u
      → cut_value d m v x ≡ cut_value d m u y → (v ≡ u) × (x ≡ y)
  same_value null null d m x y h k t e = (refl, e)
  same_value (back n) (back n') d m x y h k t e = (cc, cc)
  same_value (string s) (string s') d m x y h k t e =
      let el : s.long ≡ s'.long = cc in
      let eu : s.units ≡ s'.units = cc in
      (ap string (same_text s s' el eu), cc)
  same_value (descriptor a) (descriptor b) d m x y h k t e =
      let r = same_desc a b (own_class None) d (tick m) x y t h k e in (ap descriptor r.0, r.1)
  same_value (class_object c) (class_object c') d m x y h k t e =
      let q = same_class c c' class_owner d (tick m) x y h k e in (ap class_object q.0, q.1)
  same_value (array c b) (array c' b') d m x y h k t e =
      let made = assign (past_class (tick m) c) other_entry in
      let made' = assign (past_class (tick m) c') other_entry in
      let elements = elements_of (chain_of_class m.table c) in
      let elements' = elements_of (chain_of_class m.table c') in
      let q =
      same_class c c' array_owner d (tick m) (at array_length_at d made (array_length_token (array_length b))
      ∷ cut_body d made elements b x)
      (at array_length_at d made' (array_length_token (array_length b')) ∷ cut_body d made' elements' b' y) h.0 k.0 e in
      let qq = q.1 in
      let n : array_length b ≡ array_length b' = cc in
      let e1 : cut_body d made elements b x ≡ cut_body d made' elements' b' y = cc in
      let k' : WellFormedBody made.table b' elements = rw q.0 k.2 in
      let e' : cut_body d made elements b x ≡ cut_body d made elements b' y = e1 ∙ rw q.0 refl in
      let r = same_body b b' elements d made x y n h.2 k' e' in
      (ap₂ array q.0 r.0, r.1)
  same_value (enum_constant c t) (enum_constant c' u) d m x y h k tg e =
      let made = assign (past_class (tick m) c) other_entry in
      let made' = assign (past_class (tick m) c') other_entry in
      let q = same_class c c' enum_owner d (tick m) (cut_text_place d made t x) (cut_text_place d made' u y) h.0 k.0 e in
      let e' : cut_text_place d made t x ≡ cut_text_place d made u y = q.1 ∙ rw q.0 refl in
      let r = same_text_place t u d made x y e' in
      (ap₂ enum_constant q.0 r.0, r.1)
  same_value (object c ss) (object c' zs) d m x y h k t e =
      let made = assign (past_class (tick m) c) other_entry in
      let made' = assign (past_class (tick m) c') other_entry in
      let ch = chain_of_class m.table c in
      let ch' = chain_of_class m.table c' in
      let q =
      same_class c c' object_owner d (tick m)
      (if is_external ch then cut_external d made ss x else cut_sections d made ch ss x)
      (if is_external ch' then cut_external d made' zs y else cut_sections d made' ch' zs y) h.0 k.0 e in
      let k' : MatchBool (is_external ch) (WellFormedExternal made.table zs) (WellFormedSections made.table zs ch) = rw q.0 k.2 in
      let e' : (if is_external ch then cut_external d made ss x else cut_sections d made ch ss x) ≡ (if is_external ch then cut_external d made zs y else cut_sections d made ch zs y) =
      q.1 ∙ rw q.0 refl in
      let r =
      same_by_class (is_external ch) (WellFormedExternal made.table ss) (WellFormedSections made.table ss ch)
      (WellFormedExternal made.table zs) (WellFormedSections made.table zs ch) ss zs
      (cut_external d made ss x) (cut_sections d made ch ss x) (cut_external d made zs y)
      (cut_sections d made ch zs y) x y h.2 k' e'
      (λ a b f. same_external ss zs d made x y a b f) (λ a b f. same_sections ss zs ch d made x y a b f) in
      (ap₂ object q.0 r.0, r.1)
  same_value v u d m x y h k t e = let z : shape v ≡ shape u = sym (shape_tag v) ∙ ap shape_of t ∙ shape_tag u in absurd (cc)

  pub same_desc : (a b : DescTree) (role : Role) (d : ℕ) (m : Moment) (x y : List Piece) → tag_of_desc a ≡ tag_of_desc b
      → WellFormedDesc m.table a → WellFormedDesc m.table b
      → cut_desc role d m a x ≡ cut_desc role d m b y → (a ≡ b) × (x ≡ y)
  same_desc (plain n s f fs nt pa) (plain n' s' f' gs nt' pa') role d m x y t h k e =
      let m1 = assign m pending_entry in
      let m2 = past_fields m1 fs in
      let m2' = past_fields m1 gs in
      let m3 = past_contents m2 nt in
      let m3' = past_contents m2' nt' in
      let en : n ≡ n' = cc in
      let es : s ≡ s' = cc in
      let ef : f ≡ f' = cc in
      let el : length fs ≡ length gs = cc in
      let owner = owner_of role in
      let X = cut_annotation d m2 nt (cut_superclass owner (is_strict_above role f) (suc d) m3 pa x) in
      let Y = cut_annotation d m2' nt' (cut_superclass owner (is_strict_above role f') (suc d) m3' pa' y) in
      let e1 : cut_fields d false m1 fs X ≡ cut_fields d false m1 gs Y = cc in
      let q = same_fields fs gs d false m1 X Y el h.4 k.4 e1 in
      let k1 : WellFormedNotes m2.table nt' = rw q.0 k.5 in
      let m3'' = past_contents m2 nt' in
      let e2 : X ≡ cut_annotation d m2 nt' (cut_superclass owner (is_strict_above role f) (suc d) m3'' pa' y) =
      q.1 ∙ rw (q.0, ef) refl in
      let r =
      same_annotation nt nt' d m2 (cut_superclass owner (is_strict_above role f) (suc d) m3 pa x)
      (cut_superclass owner (is_strict_above role f) (suc d) m3'' pa' y) h.5 k1 e2 in
      let k2 : WellFormedSuperclass m3.table pa' = rw (q.0, r.0) k.6 in
      let e3 : cut_superclass owner (is_strict_above role f) (suc d) m3 pa x ≡ cut_superclass owner (is_strict_above role f) (suc d) m3 pa' y =
      r.1 ∙ rw r.0 refl in
      let z = same_superclass pa pa' owner (is_strict_above role f) (suc d) m3 x y h.6 k2 e3 in
      let e4 = q.0 in
      let e5 = r.0 in
      let e6 = z.0 in
      (cc, z.1)
  same_desc (proxy ns nt pa) (proxy ks nt' pa') role d m x y t h k e =
      let m1 = assign m pending_entry in
      let m3 = past_contents m1 nt in
      let m3' = past_contents m1 nt' in
      let el : length ns ≡ length ks = cc in
      let owner = owner_of role in
      let strict = is_strict_above role 0 in
      let X = cut_annotation d m1 nt (cut_superclass owner strict (suc d) m3 pa x) in
      let Y = cut_annotation d m1 nt' (cut_superclass owner strict (suc d) m3' pa' y) in
      let e1 : cut_interfaces d m1 ns X ≡ cut_interfaces d m1 ks Y = cc in
      let q = same_interfaces ns ks d m1 X Y el e1 in
      let r =
      same_annotation nt nt' d m1 (cut_superclass owner strict (suc d) m3 pa x)
      (cut_superclass owner strict (suc d) m3' pa' y) h.2 k.2 q.1 in
      let k2 : WellFormedSuperclass m3.table pa' = rw r.0 k.3 in
      let e3 : cut_superclass owner strict (suc d) m3 pa x ≡ cut_superclass owner strict (suc d) m3 pa' y = r.1 ∙ rw r.0 refl in
      let z = same_superclass pa pa' owner strict (suc d) m3 x y h.3 k2 e3 in
      let e4 = q.0 in
      let e5 = r.0 in
      let e6 = z.0 in
      (cc, z.1)
  same_desc (plain n s f fs nt pa) (proxy ks nt' pa') role d m x y t h k e = absurd (cc)
  same_desc (proxy ks nt pa) (plain n s f fs nt' pa') role d m x y t h k e = absurd (cc)

  pub same_class : (c c' : ClassPlaceTree) (owner : Owner) (d : ℕ) (m : Moment) (x y : List Piece) → WellFormedClass m.table c
      → WellFormedClass m.table c'
      → cut_class owner d m c x ≡ cut_class owner d m c' y → (c ≡ c') × (x ≡ y)
  same_class no_class c' owner d m x y h k e = absurd h
  same_class (back_class n) no_class owner d m x y h k e = absurd k
  same_class (new_class a) no_class owner d m x y h k e = absurd k
  same_class (back_class n) (back_class n') owner d m x y h k e = (cc, cc)
  same_class (new_class a) (new_class b) owner d m x y h k e =
      let t : tag_of_desc a ≡ tag_of_desc b = cc in
      let e' : cut_desc (own_class (Some owner)) d m a x ≡ cut_desc (own_class (Some owner)) d m b y = cc in
      let r = same_desc a b (own_class (Some owner)) d m x y t h k e' in (ap new_class r.0, r.1)
  same_class (back_class n) (new_class b) owner d m x y h k e =
      let t : reference_tag ≡ tag_of_desc b = cc in absurd (no_reference_desc b t)
  same_class (new_class a) (back_class n) owner d m x y h k e =
      let t : tag_of_desc a ≡ reference_tag = cc in absurd (no_reference_desc a (sym t))

  pub same_superclass : (c c' : ClassPlaceTree) (owner : ChainOwner) (strict : Bool) (d : ℕ) (m : Moment) (x y : List Piece)
      → WellFormedSuperclass m.table c → WellFormedSuperclass m.table c'
      → cut_superclass owner strict d m c x ≡ cut_superclass owner strict d m c' y → (c ≡ c') × (x ≡ y)
  same_superclass no_class no_class owner strict d m x y h k e = (refl, cc)
  same_superclass (back_class n) (back_class n') owner strict d m x y h k e = (cc, cc)
  same_superclass (new_class a) (new_class b) owner strict d m x y h k e =
      let t : tag_of_desc a ≡ tag_of_desc b = cc in
      let e' : cut_desc (superclass owner strict) d (tick m) a x ≡ cut_desc (superclass owner strict) d (tick m) b y = cc in
      let r = same_desc a b (superclass owner strict) d (tick m) x y t h k e' in (ap new_class r.0, r.1)
  same_superclass (back_class n) (new_class b) owner strict d m x y h k e =
      let t : reference_tag ≡ tag_of_desc b = cc in absurd (no_reference_desc b t)
  same_superclass (new_class a) (back_class n) owner strict d m x y h k e =
      let t : tag_of_desc a ≡ reference_tag = cc in absurd (no_reference_desc a (sym t))
  same_superclass no_class (new_class b) owner strict d m x y h k e =
      let t : null_tag ≡ tag_of_desc b = cc in absurd (no_null_desc b t)
  same_superclass (new_class a) no_class owner strict d m x y h k e =
      let t : tag_of_desc a ≡ null_tag = cc in absurd (no_null_desc a (sym t))
  same_superclass no_class (back_class n) owner strict d m x y h k e = absurd (cc)
  same_superclass (back_class n) no_class owner strict d m x y h k e = absurd (cc)

  pub same_body : (b b' : BodyTree) (elements : Option PrimCode) (d : ℕ) (m : Moment) (x y : List Piece)
      → array_length b ≡ array_length b'
      → WellFormedBody m.table b elements → WellFormedBody m.table b' elements
      → cut_body d m elements b x ≡ cut_body d m elements b' y → (b ≡ b') × (x ≡ y)
  same_body (raw_body ps) (raw_body qs) (Some c) d m x y l h k e = let r = same_raw c ps qs d m x y l e in (ap raw_body r.0, r.1)
  same_body (value_body vs) (value_body ws) None d m x y l h k e =
      let r = same_values vs ws d m x y l h.1 k.1 e in (ap value_body r.0, r.1)
  same_body (raw_body ps) b' None d m x y l h k e = absurd h
  same_body (value_body vs) b' (Some c) d m x y l h k e = absurd h
  same_body (raw_body ps) (value_body ws) (Some c) d m x y l h k e = absurd k
  same_body (value_body vs) (raw_body qs) None d m x y l h k e = absurd k

  pub same_values : (vs ws : ValueTrees) (d : ℕ) (m : Moment) (x y : List Piece) → value_count vs ≡ value_count ws
      → WellFormedValues m.table vs → WellFormedValues m.table ws
      → cut_values d m vs x ≡ cut_values d m ws y → (vs ≡ ws) × (x ≡ y)
  same_values no_values no_values d m x y l h k e = (refl, e)
  same_values (value_and v vs) (value_and u ws) d m x y l h k e =
      let t : tag_of v ≡ tag_of u = cc in
      let X = cut_values d (past_value m v) vs x in
      let Y = cut_values d (past_value m u) ws y in
      let e' : cut_value (suc d) m v X ≡ cut_value (suc d) m u Y = cc in
      let q = same_value v u (suc d) m X Y h.0 k.0 t e' in
      let k' : WellFormedValues (after_value m.table v) ws = rw q.0 k.1 in
      let e2 : X ≡ cut_values d (past_value m v) ws y = q.1 ∙ rw q.0 refl in
      let r = same_values vs ws d (past_value m v) x y (omega arith) h.1 k' e2 in (ap₂ value_and q.0 r.0, r.1)
  same_values no_values (value_and u ws) d m x y l h k e = absurd (omega arith)
  same_values (value_and v vs) no_values d m x y l h k e = absurd (omega arith)

  pub same_external : (ss zs : SectionTrees) (d : ℕ) (m : Moment) (x y : List Piece) → WellFormedExternal m.table ss
      → WellFormedExternal m.table zs
      → cut_external d m ss x ≡ cut_external d m zs y → (ss ≡ zs) × (x ≡ y)
  same_external (section_and (section [] no_values (annotation c)) no_sections)
      (section_and (section [] no_values (annotation c')) no_sections) d m x y h k e =
      let r =
      same_annotation c c' d m x y h k e in
      (ap (λ z. section_and (section [] no_values (annotation z)) no_sections) r.0, r.1)
  same_external (section_and (section [] no_values (annotation c)) no_sections) _ d m x y h k e = absurd k
  same_external _ zs d m x y h k e = absurd h

  pub same_sections : (ss zs : SectionTrees) (chain : List Layer) (d : ℕ) (m : Moment) (x y : List Piece)
      → WellFormedSections m.table ss chain → WellFormedSections m.table zs chain
      → cut_sections d m chain ss x ≡ cut_sections d m chain zs y → (ss ≡ zs) × (x ≡ y)
  same_sections no_sections no_sections [] d m x y h k e = (refl, e)
  same_sections (section_and (section ps vs n) ss) (section_and (section qs ws n') zs) (l ∷ ls) d m x y h k e =
      let X3 = cut_sections d (past_notes (past_values m vs) n) ls ss x in
      let Y3 = cut_sections d (past_notes (past_values m ws) n') ls zs y in
      let X2 = cut_notes d (past_values m vs) n X3 in
      let Y2 = cut_notes d (past_values m ws) n' Y3 in
      let X = cut_values d m vs X2 in
      let Y = cut_values d m ws Y2 in
      let q = same_prims (primitive_codes l.codes) ps qs d m X Y h.0 k.0 e in
      let r = same_values vs ws d m X2 Y2 (h.1 ∙ sym k.1) h.2 k.2 q.1 in
      let k1 : WellFormedNotesIf (after_values m.table vs) n' (has_write_method l.flags) = rw r.0 k.3 in
      let e2 : X2 ≡ cut_notes d (past_values m vs) n' (cut_sections d (past_notes (past_values m vs) n') ls zs y) =
      r.1 ∙ rw r.0 refl in
      let w =
      same_notes n n' (has_write_method l.flags) d (past_values m vs) X3
      (cut_sections d (past_notes (past_values m vs) n') ls zs y) h.3 k1 e2 in
      let k' : WellFormedSections (after_notes (after_values m.table vs) n) zs ls = rw (r.0, w.0) k.4 in
      let e3' : X3 ≡ cut_sections d (past_notes (past_values m vs) n) ls zs y = w.1 ∙ rw w.0 refl in
      let z = same_sections ss zs ls d (past_notes (past_values m vs) n) x y h.4 k' e3' in
      let e3 = q.0 in
      let e4 = r.0 in
      let e5 = z.0 in
      let e6 = w.0 in
      (cc, z.1)
  same_sections no_sections zs (l ∷ ls) d m x y h k e = absurd h
  same_sections no_sections (section_and s zs) [] d m x y h k e = absurd k
  same_sections (section_and s ss) zs [] d m x y h k e = absurd h
  same_sections (section_and s ss) no_sections (l ∷ ls) d m x y h k e = absurd k

  pub same_notes : (n n' : NotesTree) (expected : Bool) (d : ℕ) (m : Moment) (x y : List Piece)
      → WellFormedNotesIf m.table n expected → WellFormedNotesIf m.table n' expected
      → cut_notes d m n x ≡ cut_notes d m n' y → (n ≡ n') × (x ≡ y)
  same_notes no_notes no_notes expected d m x y h k e = (refl, e)
  same_notes (annotation c) (annotation c') expected d m x y h k e =
      let r = same_annotation c c' d m x y h.1 k.1 e in (ap annotation r.0, r.1)
  same_notes no_notes (annotation c') expected d m x y h k e = both_ways expected k.0 h
  same_notes (annotation c) no_notes expected d m x y h k e = both_ways expected h.0 k

  pub same_annotation : (c c' : ContentTrees) (d : ℕ) (m : Moment) (x y : List Piece) → WellFormedNotes m.table c
      → WellFormedNotes m.table c'
      → cut_annotation d m c x ≡ cut_annotation d m c' y → (c ≡ c') × (x ≡ y)
  same_annotation no_contents no_contents d m x y h k e = (refl, cc)
  same_annotation (content_and reset c) c' d m x y h k e = absurd h
  same_annotation no_contents (content_and reset c') d m x y h k e = absurd k
  same_annotation (content_and (block long b) c) (content_and reset c') d m x y h k e = absurd k
  same_annotation (content_and (content v) c) (content_and reset c') d m x y h k e = absurd k
  same_annotation (content_and (block long b) c) (content_and (block long' b') c') d m x y h k e =
      let el : length b ≡ length b' = cc in
      let eg : long ≡ long' = cc in
      let X = cut_annotation d m c x in
      let Y = cut_annotation d m c' y in
      let e1 : cut_bytes d m b X ≡ cut_bytes d m b' Y = cc in
      let q = same_bytes b b' d m X Y el e1 in
      let r = same_annotation c c' d m x y h.1 k.1 q.1 in
      let e3 = q.0 in
      let e4 = r.0 in
      (cc, r.1)
  same_annotation (content_and (content v) c) (content_and (content u) c') d m x y h k e =
      let t : tag_of v ≡ tag_of u = cc in
      let X = cut_annotation d (past_value m v) c x in
      let Y = cut_annotation d (past_value m u) c' y in
      let e' : cut_value (suc d) m v X ≡ cut_value (suc d) m u Y = cc in
      let q = same_value v u (suc d) m X Y h.0 k.0 t e' in
      let k' : WellFormedNotes (after_value m.table v) c' = rw q.0 k.1 in
      let e2 : X ≡ cut_annotation d (past_value m v) c' y = q.1 ∙ rw q.0 refl in
      let r = same_annotation c c' d (past_value m v) x y h.1 k' e2 in (ap₂ (λ a b. content_and (content a) b) q.0 r.0, r.1)
  same_annotation _ _ d m x y h k e = absurd (cc)

same_top : (c c' : ContentTrees) (m : Moment) → WellFormedContents m.table c → WellFormedContents m.table c'
    → cut_top m c [] ≡ cut_top m c' [] → c ≡ c'
same_top no_contents no_contents m h k e = refl
same_top (content_and reset c) (content_and reset c') m h k e = ap (λ z. content_and reset z) (same_top c c' (emptied m) h k (cc))
same_top (content_and (block long b) c) (content_and (block long' b') c') m h k e =
    let el : length b ≡ length b' = cc in
    let eg : long ≡ long' = cc in
    let X = cut_top m c [] in
    let Y = cut_top m c' [] in
    let e1 : cut_bytes 0 m b X ≡ cut_bytes 0 m b' Y = cc in
    let q = same_bytes b b' 0 m X Y el e1 in
    let r = same_top c c' m h.1 k.1 q.1 in
    let e3 = q.0 in
    cc
same_top (content_and (content v) c) (content_and (content u) c') m h k e =
    let t : tag_of v ≡ tag_of u = cc in
    let X = cut_top (past_value m v) c [] in
    let Y = cut_top (past_value m u) c' [] in
    let e' : cut_value 1 m v X ≡ cut_value 1 m u Y = cc in
    let q = same_value v u 1 m X Y h.0 k.0 t e' in
    let k' : WellFormedContents (after_value m.table v) c' = rw q.0 k.1 in
    let e2 : X ≡ cut_top (past_value m v) c' [] = q.1 ∙ rw q.0 refl in
    ap₂ (λ a b. content_and (content a) b) q.0 (same_top c c' (past_value m v) h.1 k' e2)
same_top no_contents (content_and reset c') m h k e = absurd (cc)
same_top no_contents (content_and (block long b) c') m h k e = absurd (cc)
same_top no_contents (content_and (content u) c') m h k e = absurd (cc)
same_top _ _ m h k e = absurd (cc)

-- lists with the same tokens are equal
pub same_list : (c c' : ContentTrees) → WellFormed c → WellFormed c' → tokens_of c ≡ tokens_of c' → c ≡ c'
same_list c c' h k e = let e' : cut_top beginning c [] ≡ cut_top beginning c' [] = cc in same_top c c' beginning h k e'
