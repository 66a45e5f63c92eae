-- The handles that the tokens of a tree assign: the greatest number in a table is that of the entries at its end.
use Rattle.std.proofs.Common.{◌≡◌, ℕ, suc, ◌+◌, ◌≤◌, max, Bool, true, false, ◌||◌, if◌then◌else◌, List, [], ◌∷◌, ◌++◌, length, refl, arith, Option, Some, None, MatchBool}
use Rattle.jser_reading.proofs.Vocabulary.{has_write_method, text_entry, other_entry, pending_entry, Layer, PrimCode, is_object_code, primitive_codes, TextPlaceTree, new_text, back_text, FieldTree, PrimTree, ValueTree, null, back, string, descriptor, class_object, array, enum_constant, object, DescTree, plain, proxy, ClassPlaceTree, no_class, back_class, new_class, BodyTree, raw_body, value_body, ValueTrees, no_values, value_and, section, SectionTrees, no_sections, section_and, NotesTree, no_notes, annotation, block, reset, content, ContentTrees, no_contents, content_and, Entries, plain_layer, proxy_layer, after_text_place, after_type, after_fields, after_value, after_desc, after_class, after_body, after_values, after_sections, after_notes, after_contents, chain_of_class, elements_of, is_external, WellFormedValue, WellFormedDesc, WellFormedClass, WellFormedSuperclass, WellFormedBody, WellFormedValues, WellFormedExternal, WellFormedSections, WellFormedNotesIf, WellFormedNotes, WellFormedContents, WellFormed, Owner, object_owner, array_owner, enum_owner, class_owner, ChainOwner, Role, own_class, superclass, owner_of, is_strict_above, Moment, beginning, tick, assign, emptied, past_type, past_fields, past_value, past_class, past_values, past_notes, past_contents, Tag, null_tag, reference_tag, class_desc_tag, object_tag, string_tag, array_tag, class_tag, long_string_tag, proxy_desc_tag, enum_tag, tag_token, array_length_token, text_token, top_at, annotation_at, value_at, text_place_at, class_place_at, superclass_place_at, string_at, array_length_at, Piece, at, tag_of_string, tag_of_desc, tag_of, cut_text_place, cut_type, cut_fields, cut_interfaces, cut_bytes, cut_raw, cut_prims, cut_value, cut_desc, cut_class, cut_superclass, cut_body, cut_values, cut_external, cut_sections, cut_notes, cut_annotation, cut_top, tokens_of}
use Rattle.jser_grammar.specs.Counts.{array_length, epochs_from, epoch_handles}
use Rattle.jser_reading.specs.GateLimits.{assigns_handle}
use Rattle.jser_reading.proofs.Observed.{most_handles}
use Rattle.jser_reading.specs.Totals.{number_if}
use Rattle.jser_grammar.proofs.TableLemmas.{length-add, length-close, grows_value, grows_class, grows_values, grows_notes, grows_contents, grows_fields}

-- the tag of a string or a proxy descriptor assigns a handle, whatever it is read for
abbrev by_tag : Tag → Entries → ℕ
by_tag tag T = number_if (assigns_handle value_at (tag_token tag)) (suc (length T))

-- the owner of a chain has its handle at the chain's end
abbrev owned : ChainOwner → ℕ
owned None = 0
owned (Some owner) = 1

-- where the table had k entries before and has k' after
abbrev Assigns : ℕ → ℕ → List Piece → List Piece → Type 0
Assigns k k' ps rest = max k (most_handles ps) ≡ max k' (most_handles rest)

assigns_string : (long : Bool) (T : Entries) → by_tag (tag_of_string long) T ≡ suc (length T)
assigns_string true T = refl
assigns_string false T = refl

assigns_new_text : (long : Bool) (units : List ℕ) (d : ℕ) (m : Moment) (rest : List Piece)
    → most_handles (at text_place_at d m (tag_token (tag_of_string long))
    ∷ at (string_at long) d (assign m text_entry) (text_token long units) ∷ rest) ≡ max (suc (length m.table))
    (most_handles rest)
assigns_new_text true units d m rest = omega arith
assigns_new_text false units d m rest = omega arith

assigns_text : (t : TextPlaceTree) (d : ℕ) (m : Moment) (rest : List Piece)
    → Assigns (length m.table) (length (after_text_place m.table t)) (cut_text_place d m t rest) rest
assigns_text (new_text t) d m rest = omega (arith, length-add m.table text_entry, assigns_new_text t.long t.units d m rest)
assigns_text (back_text n) d m rest = omega arith

assigns_type : (t : Option TextPlaceTree) (d : ℕ) (m : Moment) (rest : List Piece)
    → Assigns (length m.table) (length (after_type m.table t)) (cut_type d m t rest) rest
assigns_type None d m rest = refl
assigns_type (Some t) d m rest = assigns_text t d m rest

grows_text : (t : TextPlaceTree) (T : Entries) → length T ≤ length (after_text_place T t)
grows_text (new_text t) T = omega (arith, length-add T text_entry)
grows_text (back_text n) T = omega arith

grows_type : (t : Option TextPlaceTree) (T : Entries) → length T ≤ length (after_type T t)
grows_type None T = omega arith
grows_type (Some t) T = grows_text t T

assigns_fields : (fs : List FieldTree) (d : ℕ) (seen : Bool) (m : Moment) (rest : List Piece)
    → Assigns (length m.table) (length (after_fields m.table fs)) (cut_fields d seen m fs rest) rest
assigns_fields [] d seen m rest = refl
assigns_fields (f ∷ fs) d seen m rest =
    let later = seen || is_object_code f.code in
    let q = assigns_type f.text d m (cut_fields d later (past_type m f.text) fs rest) in
    let r = assigns_fields fs d later (past_type m f.text) rest in
    omega (arith, grows_type f.text m.table)

assigns_interfaces : (ns : List (List ℕ)) (d : ℕ) (m : Moment) (rest : List Piece)
    → most_handles (cut_interfaces d m ns rest) ≡ most_handles rest
assigns_interfaces [] d m rest = refl
assigns_interfaces (n ∷ ns) d m rest = omega (arith, assigns_interfaces ns d m rest)

assigns_bytes : (b : List ℕ) (d : ℕ) (m : Moment) (rest : List Piece) → most_handles (cut_bytes d m b rest) ≡ most_handles rest
assigns_bytes [] d m rest = refl
assigns_bytes (x ∷ b) d m rest = omega arith

assigns_raw : (elements : Option PrimCode) (ps : List PrimTree) (d : ℕ) (m : Moment) (rest : List Piece)
    → most_handles (cut_raw d m elements ps rest) ≡ most_handles rest
assigns_raw None ps d m rest = refl
assigns_raw (Some c) [] d m rest = refl
assigns_raw (Some c) (p ∷ ps) d m rest = omega arith

assigns_prims : (cs : List PrimCode) (ps : List PrimTree) (d : ℕ) (m : Moment) (rest : List Piece)
    → most_handles (cut_prims d m cs ps rest) ≡ most_handles rest
assigns_prims [] ps d m rest = refl
assigns_prims (c ∷ cs) [] d m rest = refl
assigns_prims (c ∷ cs) (p ∷ ps) d m rest = omega (arith, assigns_prims cs ps d m rest)

assigns_by_class : (external : Bool) (E S : Type 0) (k k' : ℕ) (a b rest : List Piece) → MatchBool external E S
    → (E → Assigns k k' a rest) → (S → Assigns k k' b rest)
    → Assigns k k' (if external then a else b) rest
assigns_by_class true E S k k' a b rest h f g = f h
assigns_by_class false E S k k' a b rest h f g = g h

-- the tag of a value or a descriptor, by its position

by_tag_at_top : (tag : Tag) (T : Entries) → number_if (assigns_handle top_at (tag_token tag)) (suc (length T)) ≡ by_tag tag T
by_tag_at_top null_tag T = refl
by_tag_at_top reference_tag T = refl
by_tag_at_top class_desc_tag T = refl
by_tag_at_top object_tag T = refl
by_tag_at_top string_tag T = refl
by_tag_at_top array_tag T = refl
by_tag_at_top class_tag T = refl
by_tag_at_top long_string_tag T = refl
by_tag_at_top proxy_desc_tag T = refl
by_tag_at_top enum_tag T = refl

by_tag_at_annotation : (tag : Tag) (T : Entries)
    → number_if (assigns_handle annotation_at (tag_token tag)) (suc (length T)) ≡ by_tag tag T
by_tag_at_annotation null_tag T = refl
by_tag_at_annotation reference_tag T = refl
by_tag_at_annotation class_desc_tag T = refl
by_tag_at_annotation object_tag T = refl
by_tag_at_annotation string_tag T = refl
by_tag_at_annotation array_tag T = refl
by_tag_at_annotation class_tag T = refl
by_tag_at_annotation long_string_tag T = refl
by_tag_at_annotation proxy_desc_tag T = refl
by_tag_at_annotation enum_tag T = refl

by_tag_at_class : (x : DescTree) (owner : Owner) (T : Entries)
    → number_if (assigns_handle (class_place_at owner) (tag_token (tag_of_desc x))) (suc (length T)) ≡ by_tag (tag_of_desc x) T
by_tag_at_class (plain name suid flags fields notes parent) owner T = refl
by_tag_at_class (proxy interfaces notes parent) owner T = refl

by_tag_at_superclass : (x : DescTree) (owner : ChainOwner) (strict : Bool) (T : Entries)
    → number_if (assigns_handle (superclass_place_at owner strict) (tag_token (tag_of_desc x))) (suc (length T)) ≡ by_tag
    (tag_of_desc x) T
by_tag_at_superclass (plain name suid flags fields notes parent) None strict T = refl
by_tag_at_superclass (plain name suid flags fields notes parent) (Some owner) strict T = refl
by_tag_at_superclass (proxy interfaces notes parent) None strict T = refl
by_tag_at_superclass (proxy interfaces notes parent) (Some owner) strict T = refl

mutual
  -- a value with its tag
  assigns_value : (v : ValueTree) (d : ℕ) (m : Moment) (rest : List Piece) → WellFormedValue m.table v
      → max (length m.table) (max (by_tag (tag_of v) m.table) (most_handles (cut_value d m v rest))) ≡ max
      (length (after_value m.table v)) (most_handles rest)
  assigns_value null d m rest h = omega arith
  assigns_value (back n) d m rest h = omega arith
  assigns_value (string t) d m rest h = omega (arith, assigns_string t.long m.table, length-add m.table text_entry)
  assigns_value (descriptor x) d m rest h = omega (arith, assigns_desc x (own_class None) d (tick m) rest h)
  assigns_value (class_object c) d m rest h =
      omega (arith, assigns_class c class_owner d (tick m) rest h, length-add (after_class m.table c) other_entry)
  assigns_value (array c b) d m rest h =
      let made = assign (past_class (tick m) c) other_entry in
      let elements = elements_of (chain_of_class m.table c) in
      omega (
        arith,
        assigns_class c array_owner d (tick m) (at array_length_at d made (array_length_token (array_length b))
            ∷ cut_body d made elements b rest) h.0,
        assigns_body b elements d made rest h.2,
        length-add (after_class m.table c) other_entry,
        grows_class c m.table,
      )
  assigns_value (enum_constant c t) d m rest h =
      let made = assign (past_class (tick m) c) other_entry in
      omega (
        arith,
        assigns_class c enum_owner d (tick m)
            (cut_text_place d made t rest) h.0,
        assigns_text t d made rest,
        length-add
            (after_class m.table c) other_entry,
        grows_class c m.table,
      )
  assigns_value (object c ss) d m rest h =
      let made = assign (past_class (tick m) c) other_entry in
      let ch = chain_of_class m.table c in
      let behind = if is_external ch then cut_external d made ss rest else cut_sections d made ch ss rest in
      let q = assigns_class c object_owner d (tick m) behind h.0 in
      let r =
      assigns_by_class (is_external ch) (WellFormedExternal made.table ss) (WellFormedSections made.table ss ch)
      (length made.table) (length (after_sections made.table ss))
      (cut_external d made ss rest) (cut_sections d made ch ss rest) rest h.2
      (λ w. assigns_external ss d made rest w) (λ w. assigns_sections ss ch d made rest w) in
      joins (length m.table) (length (after_class m.table c)) (length made.table) (length (after_sections made.table ss))
      (most_handles (cut_class object_owner d (tick m) c behind))
      (most_handles behind) (most_handles rest) q (length-add (after_class m.table c) other_entry) r
    where
      joins : (k a b n p q r : ℕ) → max k p ≡ max (suc a) q → b ≡ suc a → max b q ≡ max n r → max k (max 0 p) ≡ max n r
      joins k a b n p q r e f g = omega arith

  -- a descriptor with its tag, and the handle of its owner at the end
  assigns_desc : (x : DescTree) (role : Role) (d : ℕ) (m : Moment) (rest : List Piece) → WellFormedDesc m.table x
      → max (length m.table) (max (by_tag (tag_of_desc x) m.table) (most_handles (cut_desc role d m x rest)))
      ≡ max (length (after_desc m.table x) + owned (owner_of role)) (most_handles rest)
  assigns_desc (plain name suid flags fields notes parent) role d m rest h =
      let m1 = assign m pending_entry in
      let m2 = past_fields m1 fields in
      let m3 = past_contents m2 notes in
      let up = cut_superclass (owner_of role) (is_strict_above role flags) (suc d) m3 parent rest in
      omega (
        arith,
        length-add m.table pending_entry,
        assigns_fields fields d false m1 (cut_annotation d m2 notes up),
        grows_fields fields m1.table,
        assigns_annotation notes d m2 up h.5,
        grows_contents notes m2.table,
        assigns_superclass parent (owner_of role) (is_strict_above role flags) (suc d) m3 rest h.6,
        grows_class parent m3.table,
        length-close (after_class m3.table parent) (length m.table) (chain_of_class m3.table parent
            ++ (plain_layer name flags fields ∷ [])),
      )
  assigns_desc (proxy interfaces notes parent) role d m rest h =
      let m1 = assign m pending_entry in
      let m3 = past_contents m1 notes in
      let up = cut_superclass (owner_of role) (is_strict_above role 0) (suc d) m3 parent rest in
      omega (
        arith,
        length-add m.table pending_entry,
        assigns_interfaces interfaces d m1 (cut_annotation d m1 notes up),
        assigns_annotation notes d m1 up h.2,
        grows_contents notes m1.table,
        assigns_superclass parent (owner_of role) (is_strict_above role 0) (suc d) m3 rest h.3,
        grows_class parent m3.table,
        length-close (after_class m3.table parent) (length m.table) (chain_of_class m3.table parent ++ (proxy_layer ∷ [])),
      )

  assigns_class : (c : ClassPlaceTree) (owner : Owner) (d : ℕ) (m : Moment) (rest : List Piece) → WellFormedClass m.table c
      → Assigns (length m.table) (suc (length (after_class m.table c))) (cut_class owner d m c rest) rest
  assigns_class no_class owner d m rest h = absurd h
  assigns_class (back_class n) owner d m rest h = omega arith
  assigns_class (new_class x) owner d m rest h =
      omega (arith, by_tag_at_class x owner m.table, assigns_desc x (own_class (Some owner)) d m rest h)

  assigns_superclass : (c : ClassPlaceTree) (owner : ChainOwner) (strict : Bool) (d : ℕ) (m : Moment) (rest : List Piece)
      → WellFormedSuperclass m.table c
      → Assigns (length m.table) (length (after_class m.table c) + owned owner) (cut_superclass owner strict d m c rest) rest
  assigns_superclass no_class None strict d m rest h = omega arith
  assigns_superclass no_class (Some owner) strict d m rest h = omega arith
  assigns_superclass (back_class n) None strict d m rest h = omega arith
  assigns_superclass (back_class n) (Some owner) strict d m rest h = omega arith
  assigns_superclass (new_class x) owner strict d m rest h =
      omega (arith, by_tag_at_superclass x owner strict m.table, assigns_desc x (superclass owner strict) d (tick m) rest h)

  assigns_body : (b : BodyTree) (elements : Option PrimCode) (d : ℕ) (m : Moment) (rest : List Piece)
      → WellFormedBody m.table b elements
      → Assigns (length m.table) (length (after_body m.table b)) (cut_body d m elements b rest) rest
  assigns_body (raw_body ps) elements d m rest h = omega (arith, assigns_raw elements ps d m rest)
  assigns_body (value_body vs) None d m rest h = assigns_values vs d m rest h.1
  assigns_body (value_body vs) (Some c) d m rest h = absurd h

  assigns_values : (vs : ValueTrees) (d : ℕ) (m : Moment) (rest : List Piece) → WellFormedValues m.table vs
      → Assigns (length m.table) (length (after_values m.table vs)) (cut_values d m vs rest) rest
  assigns_values no_values d m rest h = refl
  assigns_values (value_and v vs) d m rest h =
      omega (
        arith,
        assigns_value v (suc d) m (cut_values d (past_value m v) vs rest) h.0,
        assigns_values vs d
            (past_value m v) rest h.1,
        grows_value v m.table,
      )

  assigns_external : (ss : SectionTrees) (d : ℕ) (m : Moment) (rest : List Piece) → WellFormedExternal m.table ss
      → Assigns (length m.table) (length (after_sections m.table ss)) (cut_external d m ss rest) rest
  assigns_external (section_and (section [] no_values (annotation notes)) no_sections) d m rest h =
      assigns_annotation notes d m rest h
  assigns_external _ d m rest h = absurd h

  assigns_sections : (ss : SectionTrees) (chain : List Layer) (d : ℕ) (m : Moment) (rest : List Piece)
      → WellFormedSections m.table ss chain
      → Assigns (length m.table) (length (after_sections m.table ss)) (cut_sections d m chain ss rest) rest
  assigns_sections no_sections [] d m rest h = refl
  assigns_sections no_sections (l ∷ ls) d m rest h = absurd h
  assigns_sections (section_and s ss) [] d m rest h = absurd h
  assigns_sections (section_and (section ps vs n) ss) (l ∷ ls) d m rest h =
      let m1 = past_values m vs in
      let m2 = past_notes m1 n in
      let after = cut_sections d m2 ls ss rest in
      omega (
        arith,
        assigns_prims (primitive_codes l.codes) ps d m (cut_values d m vs (cut_notes d m1 n after)),
        assigns_values vs d m (cut_notes d m1 n after) h.2,
        assigns_notes n (has_write_method l.flags) d m1 after h.3,
        assigns_sections ss ls d m2 rest h.4,
        grows_values vs m.table,
        grows_notes n m1.table,
      )

  assigns_notes : (n : NotesTree) (expected : Bool) (d : ℕ) (m : Moment) (rest : List Piece)
      → WellFormedNotesIf m.table n expected
      → Assigns (length m.table) (length (after_notes m.table n)) (cut_notes d m n rest) rest
  assigns_notes no_notes expected d m rest h = refl
  assigns_notes (annotation cs) expected d m rest h = assigns_annotation cs d m rest h.1

  assigns_annotation : (cs : ContentTrees) (d : ℕ) (m : Moment) (rest : List Piece) → WellFormedNotes m.table cs
      → Assigns (length m.table) (length (after_contents m.table cs)) (cut_annotation d m cs rest) rest
  assigns_annotation no_contents d m rest h = omega arith
  assigns_annotation (content_and (block long b) cs) d m rest h =
      omega (arith, assigns_bytes b d m (cut_annotation d m cs rest), assigns_annotation cs d m rest h.1)
  assigns_annotation (content_and reset cs) d m rest h = absurd h
  assigns_annotation (content_and (content v) cs) d m rest h =
      omega (
        arith,
        by_tag_at_annotation (tag_of v) m.table,
        assigns_value v (suc d) m (cut_annotation d (past_value m v) cs rest) h.0,
        assigns_annotation cs d (past_value m v) rest h.1,
        grows_value v m.table,
      )

-- the greatest of some numbers
abbrev pub greatest : List ℕ → ℕ
greatest [] = 0
greatest (n ∷ ns) = max n (greatest ns)

assigns_top : (cs : ContentTrees) (m : Moment) → WellFormedContents m.table cs
    → max (length m.table) (most_handles (cut_top m cs [])) ≡ greatest (epochs_from m.table cs)
assigns_top no_contents m h = omega arith
assigns_top (content_and (block long b) cs) m h = omega (arith, assigns_bytes b 0 m (cut_top m cs []), assigns_top cs m h.1)
assigns_top (content_and reset cs) m h = omega (arith, assigns_top cs (emptied m) h)
assigns_top (content_and (content v) cs) m h =
    omega (
      arith,
      by_tag_at_top (tag_of v) m.table,
      assigns_value v 1 m (cut_top (past_value m v) cs []) h.0,
      assigns_top cs
          (past_value m v) h.1,
      grows_value v m.table,
    )

pub handles_observed : (list : ContentTrees) → WellFormed list → most_handles (tokens_of list) ≡ greatest (epoch_handles list)
handles_observed list h = omega (arith, assigns_top list beginning h)
