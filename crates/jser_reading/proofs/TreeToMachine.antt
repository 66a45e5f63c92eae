-- From trees to the machine: the tokens of a well-formed tree take the machine from the state before the tree to
-- the one behind it, whatever comes after. One lemma for each kind of tree; each case follows the tokens in order.
use Rattle.std.proofs.Common.{◌≡◌, ℕ, suc, Bool, true, false, ◌||◌, if◌then◌else◌, List, [], ◌∷◌, ◌++◌, length, refl, Option, Some, None, IsTrue, nat_eq, true≢false, is_some, MatchBool}
use Rattle.jser_reading.proofs.Vocabulary.{has_write_method, text_entry, other_entry, pending_entry, chain_at, NameKind, name_kind, layer_kind, Layer, PrimCode, prim_code_of, is_object_code, primitive_codes, object_count, TextPlaceTree, new_text, back_text, FieldTree, PrimTree, ValueTree, null, back, string, descriptor, class_object, array, enum_constant, object, DescTree, plain, proxy, ClassPlaceTree, no_class, back_class, new_class, BodyTree, raw_body, value_body, ValueTrees, no_values, value_and, section, SectionTrees, no_sections, section_and, NotesTree, no_notes, annotation, block, reset, content, ContentTrees, no_contents, content_and, value_count, Entries, add, codes_of, plain_layer, proxy_layer, after_desc, after_contents, chain_of_class, chain_of_desc, IsText, AreClassNames, WellFormedText, WellFormedType, WellFormedFields, ArePrimsOf, ArePrims, IsBytes, IsBlock, elements_of, is_external, WellFormedValue, WellFormedDesc, WellFormedClass, WellFormedSuperclass, WellFormedBody, WellFormedValues, WellFormedExternal, WellFormedSections, WellFormedNotesIf, WellFormedNotes, WellFormedContents, Owner, object_owner, array_owner, enum_owner, class_owner, ChainOwner, Role, own_class, superclass, owner_of, is_strict_above, FitsOwner, FitsRole, Moment, tick, assign, closing, emptied, next_number, past_text, past_type, past_fields, past_value, past_desc, past_class, past_body, past_values, past_sections, past_notes, past_contents, tag_token, array_length_token, text_token, block_length_token, text_place_at, class_place_at, superclass_place_at, string_at, array_length_at, block_length_at, Piece, piece, at, tag_of_string, tag_of_desc, tag_of, cut_text_place, cut_type, cut_fields, cut_interfaces, cut_bytes, cut_raw, cut_prims, cut_value, cut_desc, cut_class, cut_superclass, cut_body, cut_values, cut_external, cut_sections, cut_notes, cut_annotation, cut_top, Part, raw_part, annotation_part, Goal, top_goal, annotation_goal, text_place_goal, block_length_goal, block_goal, array_length_goal, parts_goal, class_goal, made_goal, superclass_goal, close_goal, class_name_goal, fields_goal, interfaces_goal, State, prim_parts, value_parts, annotation_if, section_parts, object_parts, in_order, read_layer, ending, settled, may_follow, open_proxy, begin, type_goals, Reads}
use Rattle.std.proofs.Common.{eqb-true}
use Rattle.jser_grammar.specs.Counts.{array_length}
use Rattle.jser_grammar.proofs.Bools.{both_ways, untrue}
use Rattle.jser_reading.proofs.RoleLemmas.{name_fits_of, flags_fit_of, above_fits_of, proxy_fits_of, above_proxy_fits_of}
use Rattle.jser_grammar.proofs.TableLemmas.{chain_at-after_desc}

-- the goals behind a class place, once the handle of its owner is assigned
abbrev pub owner_goals : Owner → ℕ → List Layer → List Goal → List Goal
owner_goals object_owner d chain goals = parts_goal d (object_parts (is_external chain) chain) ∷ goals
owner_goals array_owner d chain goals = array_length_goal (elements_of chain) d ∷ goals
owner_goals enum_owner d chain goals = text_place_goal d ∷ goals
owner_goals class_owner d chain goals = goals

-- the state behind the tag of a descriptor
abbrev pub desc_state : Role → ℕ → Moment → DescTree → List Goal → State
desc_state role d m (plain name suid flags fields notes parent) goals = (m, class_name_goal role d ∷ goals)
desc_state role d m (proxy interfaces notes parent) goals = open_proxy role d m goals

-- only what a state settles to counts
pub resettle : (rest : List Piece) (s t : State) → settled s ≡ settled t → Reads s rest → Reads t rest
resettle [] s t e h = rw (← e) h
resettle (piece label token ∷ rest) s t e h = rw (← e) h

pub reads_made : (owner : Owner) (d number : ℕ) (m : Moment) (gs : List Goal) (rest : List Piece)
    → Reads (assign m other_entry, owner_goals owner d (chain_at m.table number) gs) rest
    → Reads (m, made_goal owner d number ∷ gs) rest
reads_made object_owner d number m gs rest k =
    resettle rest (assign m other_entry, owner_goals object_owner d (chain_at m.table number) gs)
    (m, made_goal object_owner d number ∷ gs) refl k
reads_made array_owner d number m gs rest k =
    resettle rest (assign m other_entry, owner_goals array_owner d (chain_at m.table number) gs)
    (m, made_goal array_owner d number ∷ gs) refl k
reads_made enum_owner d number m gs rest k =
    resettle rest (assign m other_entry, owner_goals enum_owner d (chain_at m.table number) gs)
    (m, made_goal enum_owner d number ∷ gs) refl k
reads_made class_owner d number m gs rest k =
    resettle rest (assign m other_entry, gs) (m, made_goal class_owner d number ∷ gs) refl k

-- texts, fields and interfaces

reads_new_text : (long : Bool) (units : List ℕ) (d : ℕ) (m : Moment) (gs : List Goal) (rest : List Piece) → IsText long units
    → Reads (assign m text_entry, gs) rest
    → Reads (m, text_place_goal d ∷ gs) (at text_place_at d m (tag_token (tag_of_string long))
    ∷ at (string_at long) d (assign m text_entry) (text_token long units) ∷ rest)
reads_new_text true units d m gs rest h k = (refl, tt, (refl, h, k))
reads_new_text false units d m gs rest h k = (refl, tt, (refl, h, k))

pub reads_text_place : (t : TextPlaceTree) (d : ℕ) (m : Moment) (gs : List Goal) (rest : List Piece) → WellFormedText m.table t
    → Reads (past_text m t, gs) rest
    → Reads (m, text_place_goal d ∷ gs) (cut_text_place d m t rest)
reads_text_place (new_text t) d m gs rest h k = reads_new_text t.long t.units d m gs rest h k
reads_text_place (back_text n) d m gs rest h k = (refl, tt, (refl, h, k))

-- a primitive code is no object code
pub not_object : (code : ℕ) → IsTrue (is_some (prim_code_of code)) → is_object_code code ≡ false
not_object code h = go (nat_eq code 0x5B) (nat_eq code 0x4C) refl refl
  where
    go : (x y : Bool) → nat_eq code 0x5B ≡ x → nat_eq code 0x4C ≡ y → is_object_code code ≡ false
    go true y ex ey = let e : code ≡ 0x5B = eqb-true code 0x5B ex in untrue (rw e at h)
    go false true ex ey = let e : code ≡ 0x4C = eqb-true code 0x4C ey in untrue (rw e at h)
    go false false ex ey = rw (ex, ey) refl

-- the code, and the type text that it asks for
reads_type : (t : Option TextPlaceTree) (object : Bool) (seen : Bool) (code : ℕ) (d : ℕ) (m : Moment) (gs : List Goal)
    (rest : List Piece)
    → is_object_code code ≡ object → WellFormedType m.table seen code t → Reads (past_type m t, gs) rest
    → Reads (m, type_goals object d gs) (cut_type d m t rest)
reads_type None false seen code d m gs rest e h k = k
reads_type None true seen code d m gs rest e h k = both_ways (is_object_code code) e (not_object code h.0)
reads_type (Some t) true seen code d m gs rest e h k = reads_text_place t d m gs rest h.1 k
reads_type (Some t) false seen code d m gs rest e h k = both_ways (is_object_code code) h.0 e

pub follows : (t : Option TextPlaceTree) (T : Entries) (seen : Bool) (code : ℕ) → WellFormedType T seen code t
    → IsTrue (may_follow seen code)
follows None T seen code h = rw (not_object code h.0, h.0, h.1) refl
follows (Some t) T seen code h = rw h.0 refl

reads_fields : (fs : List FieldTree) (role : Role) (d number : ℕ) (kind : NameKind) (flags : ℕ) (seen : Bool) (codes : List ℕ)
    (m : Moment) (gs : List Goal) (rest : List Piece)
    → WellFormedFields m.table seen fs
    → Reads (
      past_fields m fs,
      ending role d number flags
          (record { kind = layer_kind kind; flags = flags; codes = in_order codes (codes_of fs) }) gs,
    ) rest
    → Reads (m, fields_goal role d number kind flags seen codes (length fs) ∷ gs) (cut_fields d seen m fs rest)
reads_fields [] role d number kind flags seen codes m gs rest h k =
    resettle rest (m, ending role d number flags (read_layer kind flags codes) gs)
    (m, fields_goal role d number kind flags seen codes 0 ∷ gs) refl k
reads_fields (f ∷ fs) role d number kind flags seen codes m gs rest h k =
    let later = seen || is_object_code f.code in (
      refl,
      follows f.text m.table seen f.code h.1,
      (
        refl,
        h.0,
        reads_type f.text (is_object_code f.code) seen f.code d m
            (fields_goal role d number kind flags later (f.code ∷ codes) (length fs) ∷ gs)
            (cut_fields d later (past_type m f.text) fs rest) refl h.1
            (reads_fields fs role d number kind flags later (f.code ∷ codes) (past_type m f.text) gs rest h.2 k),
      ),
    )

reads_interfaces : (names : List (List ℕ)) (role : Role) (d number : ℕ) (m : Moment) (gs : List Goal) (rest : List Piece)
    → AreClassNames names → Reads (m, ending role d number 0 proxy_layer gs) rest
    → Reads (m, interfaces_goal role d number (length names) ∷ gs) (cut_interfaces d m names rest)
reads_interfaces [] role d number m gs rest h k =
    resettle rest (m, ending role d number 0 proxy_layer gs) (m, interfaces_goal role d number 0 ∷ gs) refl k
reads_interfaces (name ∷ names) role d number m gs rest h k = (refl, h.0, reads_interfaces names role d number m gs rest h.1 k)

-- raw bytes and raw values

reads_bytes : (bytes : List ℕ) (d : ℕ) (m : Moment) (gs : List Goal) (rest : List Piece) → IsBytes bytes → Reads (m, gs) rest
    → Reads (m, block_goal d (length bytes) ∷ gs) (cut_bytes d m bytes rest)
reads_bytes [] d m gs rest h k = resettle rest (m, gs) (m, block_goal d 0 ∷ gs) refl k
reads_bytes (b ∷ bs) d m gs rest h k = (refl, (h, refl), k)

pub reads_block : (long : Bool) (bytes : List ℕ) (d : ℕ) (m : Moment) (gs : List Goal) (rest : List Piece) → IsBlock long bytes
    → Reads (m, gs) rest
    → Reads (m, block_length_goal long d ∷ gs) (at (block_length_at long) d m (block_length_token long (length bytes))
    ∷ cut_bytes d m bytes rest)
reads_block true bytes d m gs rest h k = (refl, h.1, reads_bytes bytes d m gs rest h.0 k)
reads_block false bytes d m gs rest h k = (refl, h.1, reads_bytes bytes d m gs rest h.0 k)

reads_raw : (c : PrimCode) (ps : List PrimTree) (d : ℕ) (m : Moment) (gs : List Goal) (rest : List Piece) → ArePrimsOf c ps
    → Reads (m, gs) rest
    → Reads (m, parts_goal d (raw_part c (length ps) ∷ []) ∷ gs) (cut_raw d m (Some c) ps rest)
reads_raw c [] d m gs rest h k = resettle rest (m, gs) (m, parts_goal d (raw_part c 0 ∷ []) ∷ gs) refl k
reads_raw c (p ∷ ps) d m gs rest h k = (refl, (refl, h), resettle rest (m, gs) (m, parts_goal d [] ∷ gs) refl k)

reads_prims : (cs : List PrimCode) (ps : List PrimTree) (parts : List Part) (d : ℕ) (m : Moment) (gs : List Goal)
    (rest : List Piece) → ArePrims cs ps
    → Reads (m, parts_goal d parts ∷ gs) rest → Reads (m, parts_goal d (prim_parts cs parts) ∷ gs) (cut_prims d m cs ps rest)
reads_prims [] [] parts d m gs rest h k = k
reads_prims [] (p ∷ ps) parts d m gs rest h k = absurd h
reads_prims (c ∷ cs) [] parts d m gs rest h k = absurd h
reads_prims (c ∷ cs) (p ∷ ps) parts d m gs rest h k = (refl, (refl, (h.0, tt)), reads_prims cs ps parts d m gs rest h.1 k)

-- the tag of a descriptor

enter_value : (x : DescTree) (d : ℕ) (m : Moment) (gs : List Goal) (rest : List Piece)
    → Reads (desc_state (own_class None) d (tick m) x gs) rest
    → Reads (begin d m (tag_of_desc x) gs) rest
enter_value (plain name suid flags fields notes parent) d m gs rest k = k
enter_value (proxy interfaces notes parent) d m gs rest k = k

enter_class : (x : DescTree) (owner : Owner) (d : ℕ) (m : Moment) (gs : List Goal) (rest : List Piece)
    → FitsOwner owner (chain_of_desc m.table x)
    → Reads (desc_state (own_class (Some owner)) d m x (made_goal owner d (next_number m) ∷ gs)) rest
    → Reads (m, class_goal owner d ∷ gs) (at (class_place_at owner) d m (tag_token (tag_of_desc x)) ∷ rest)
enter_class (plain name suid flags fields notes parent) owner d m gs rest f k = (refl, tt, k)
enter_class (proxy interfaces notes parent) owner d m gs rest f k =
    (refl, proxy_fits_of (own_class (Some owner)) (chain_of_class (after_contents (add m.table pending_entry) notes) parent) f, k)

enter_superclass : (x : DescTree) (owner : ChainOwner) (strict : Bool) (d number : ℕ) (l : Layer) (m : Moment) (gs : List Goal)
    (rest : List Piece)
    → Reads (desc_state (superclass owner strict) d (tick m) x (close_goal number (next_number m) l ∷ gs)) rest
    → Reads (m, superclass_goal owner strict d number l ∷ gs)
    (at (superclass_place_at owner strict) d m (tag_token (tag_of_desc x)) ∷ rest)
enter_superclass (plain name suid flags fields notes parent) owner strict d number l m gs rest k = (refl, tt, k)
enter_superclass (proxy interfaces notes parent) owner strict d number l m gs rest k = (refl, tt, k)

-- an externalizable class has one section, of notes alone; any other one for each layer
reads_object : (external : Bool) (E S : Type 0) (chain : List Layer) (d : ℕ) (m : Moment) (gs : List Goal) (x y : List Piece)
    → MatchBool external E S
    → (E → Reads (m, parts_goal d (annotation_part ∷ []) ∷ gs) x) → (S → Reads (m, parts_goal d (section_parts chain) ∷ gs) y)
    → Reads (m, parts_goal d (object_parts external chain) ∷ gs) (if external then x else y)
reads_object true E S chain d m gs x y h f g = f h
reads_object false E S chain d m gs x y h f g = g h

mutual
  pub reads_value : (v : ValueTree) (d : ℕ) (m : Moment) (gs : List Goal) (rest : List Piece)
      → WellFormedValue m.table v → Reads (past_value m v, gs) rest → Reads (begin d m (tag_of v) gs) (cut_value d m v rest)
  reads_value null d m gs rest h k = k
  reads_value (back n) d m gs rest h k = (refl, h, k)
  reads_value (string t) d m gs rest h k = begin_string t.long t.units h k
    where
      begin_string : (long : Bool) (units : List ℕ) → IsText long units → Reads (assign (tick m) text_entry, gs) rest
          → Reads (begin d m (tag_of_string long) gs)
          (at (string_at long) d (assign (tick m) text_entry) (text_token long units) ∷ rest)
      begin_string true units a b = (refl, a, b)
      begin_string false units a b = (refl, a, b)
  reads_value (descriptor x) d m gs rest h k =
      enter_value x d m gs (cut_desc (own_class None) d (tick m) x rest) (reads_desc x (own_class None) d (tick m) gs rest h tt k)
  reads_value (class_object c) d m gs rest h k = reads_class c class_owner d (tick m) gs rest h tt k
  reads_value (array c b) d m gs rest h k =
      let made = assign (past_class (tick m) c) other_entry in
      let chain = chain_of_class m.table c in
      reads_class c array_owner d (tick m) gs (at array_length_at d made (array_length_token (array_length b))
      ∷ cut_body d made (elements_of chain) b rest) h.0 h.1
      (reads_body b (elements_of chain) d made gs rest h.2 k)
  reads_value (enum_constant c t) d m gs rest h k =
      let made = assign (past_class (tick m) c) other_entry in
      reads_class c enum_owner d (tick m) gs (cut_text_place d made t rest) h.0 h.1 (reads_text_place t d made gs rest h.2 k)
  reads_value (object c ss) d m gs rest h k =
      let made = assign (past_class (tick m) c) other_entry in
      let chain = chain_of_class m.table c in
      reads_class c object_owner d (tick m) gs
      (if is_external chain then cut_external d made ss rest else cut_sections d made chain ss rest) h.0 h.1
      (reads_object (is_external chain) (WellFormedExternal made.table ss)
      (WellFormedSections made.table ss chain) chain d made gs (cut_external d made ss rest)
      (cut_sections d made chain ss rest) h.2
      (λ w. reads_external ss d made gs rest w k) (λ w. reads_sections ss chain d made gs rest w k))

  pub reads_desc : (x : DescTree) (role : Role) (d : ℕ) (m : Moment) (gs : List Goal) (rest : List Piece)
      → WellFormedDesc m.table x → FitsRole role (chain_of_desc m.table x) → Reads (past_desc m x, gs) rest
      → Reads (desc_state role d m x gs) (cut_desc role d m x rest)
  reads_desc (plain name suid flags fields notes parent) role d m gs rest h f k =
      let opened = assign m pending_entry in
      let behind = past_fields opened fields in
      let inside = past_contents behind notes in
      let kind = name_kind name in
      let l = plain_layer name flags fields in
      let chain = chain_of_class inside.table parent in
      let strict = is_strict_above role flags in
      let up : List Goal = superclass_goal (owner_of role) strict (suc d) (next_number m) l ∷ gs in
      let ends = cut_superclass (owner_of role) strict (suc d) inside parent rest in (
        refl,
        (h.0, name_fits_of role chain kind flags (codes_of fields) h.0.1 f),
        (
          refl,
          h.1,
          (
            refl,
            (h.2, flags_fit_of role chain kind flags (codes_of fields) f),
            (
              refl,
              h.3,
              reads_fields fields role d (next_number m) kind flags false [] opened gs (cut_annotation d behind notes ends) h.4
                  (reads_annotation notes d behind up ends h.5
                  (reads_superclass parent (owner_of role) strict (suc d) (next_number m) l inside gs rest h.6
                  (above_fits_of role chain kind flags (codes_of fields) f) k)),
            ),
          ),
        ),
      )
  reads_desc (proxy interfaces notes parent) role d m gs rest h f k =
      let opened = assign m pending_entry in
      let inside = past_contents opened notes in
      let strict = is_strict_above role 0 in
      let up : List Goal = superclass_goal (owner_of role) strict (suc d) (next_number m) proxy_layer ∷ gs in
      let ends = cut_superclass (owner_of role) strict (suc d) inside parent rest in (
        refl,
        h.0,
        reads_interfaces interfaces role d (next_number m) opened gs (cut_annotation d opened notes ends) h.1
            (reads_annotation notes d opened up ends h.2
            (reads_superclass parent (owner_of role) strict (suc d) (next_number m) proxy_layer inside gs rest h.3
            (above_proxy_fits_of role (chain_of_class inside.table parent) f) k)),
      )

  pub reads_class : (c : ClassPlaceTree) (owner : Owner) (d : ℕ) (m : Moment) (gs : List Goal) (rest : List Piece)
      → WellFormedClass m.table c → FitsOwner owner (chain_of_class m.table c)
      → Reads (assign (past_class m c) other_entry, owner_goals owner d (chain_of_class m.table c) gs) rest
      → Reads (m, class_goal owner d ∷ gs) (cut_class owner d m c rest)
  reads_class no_class owner d m gs rest h f k = absurd h
  reads_class (back_class n) owner d m gs rest h f k = (refl, tt, (refl, (h, f), reads_made owner d n m gs rest k))
  reads_class (new_class x) owner d m gs rest h f k =
      enter_class x owner d m gs (cut_desc (own_class (Some owner)) d m x rest) f
      (reads_desc x (own_class (Some owner)) d m (made_goal owner d (next_number m) ∷ gs) rest h f
      (reads_made owner d (next_number m) (past_desc m x) gs rest (rw chain_at-after_desc k)))

  pub reads_superclass : (c : ClassPlaceTree) (owner : ChainOwner) (strict : Bool) (d number : ℕ) (l : Layer) (m : Moment)
      (gs : List Goal) (rest : List Piece)
      → WellFormedSuperclass m.table c → FitsRole (superclass owner strict) (chain_of_class m.table c)
      → Reads (closing (past_class (tick m) c) number (chain_of_class m.table c ++ (l ∷ [])), gs) rest
      → Reads (m, superclass_goal owner strict d number l ∷ gs) (cut_superclass owner strict d m c rest)
  reads_superclass no_class owner strict d number l m gs rest h f k = (refl, tt, k)
  reads_superclass (back_class n) owner strict d number l m gs rest h f k = (
    refl,
    tt,
    (
      refl,
      (h, f),
      resettle rest (closing (tick m) number (chain_at m.table n ++ (l ∷ [])), gs) (tick m, close_goal number n l ∷ gs) refl k,
    ),
  )
  reads_superclass (new_class x) owner strict d number l m gs rest h f k =
      enter_superclass x owner strict d number l m gs (cut_desc (superclass owner strict) d (tick m) x rest)
      (reads_desc x (superclass owner strict) d (tick m) (close_goal number (next_number m) l ∷ gs) rest h f
      (resettle rest (closing (past_desc (tick m) x) number (chain_at (after_desc m.table x) (next_number m) ++ (l ∷ [])), gs)
      (past_desc (tick m) x, close_goal number (next_number m) l ∷ gs) refl (rw (chain_at-after_desc x m.table) k)))

  pub reads_body : (b : BodyTree) (elements : Option PrimCode) (d : ℕ) (m : Moment) (gs : List Goal) (rest : List Piece)
      → WellFormedBody m.table b elements → Reads (past_body m b, gs) rest
      → Reads (m, array_length_goal elements d ∷ gs) (at array_length_at d m (array_length_token (array_length b))
      ∷ cut_body d m elements b rest)
  reads_body (raw_body ps) None d m gs rest h k = absurd h
  reads_body (raw_body ps) (Some c) d m gs rest h k = (refl, h.0, reads_raw c ps d m gs rest h.1 k)
  reads_body (value_body vs) None d m gs rest h k = (
    refl,
    h.0,
    reads_values vs [] d m gs rest h.1
        (resettle rest (past_values m vs, gs) (past_values m vs, parts_goal d [] ∷ gs) refl k),
  )
  reads_body (value_body vs) (Some c) d m gs rest h k = absurd h

  pub reads_values : (vs : ValueTrees) (parts : List Part) (d : ℕ) (m : Moment) (gs : List Goal) (rest : List Piece)
      → WellFormedValues m.table vs → Reads (past_values m vs, parts_goal d parts ∷ gs) rest
      → Reads (m, parts_goal d (value_parts (value_count vs) parts) ∷ gs) (cut_values d m vs rest)
  reads_values no_values parts d m gs rest h k = k
  reads_values (value_and v vs) parts d m gs rest h k = (
    refl,
    tt,
    reads_value v (suc d) m (parts_goal d (value_parts (value_count vs) parts) ∷ gs) (cut_values d (past_value m v) vs rest) h.0
        (reads_values vs parts d (past_value m v) gs rest h.1 k),
  )

  pub reads_external : (ss : SectionTrees) (d : ℕ) (m : Moment) (gs : List Goal) (rest : List Piece)
      → WellFormedExternal m.table ss → Reads (past_sections m ss, gs) rest
      → Reads (m, parts_goal d (annotation_part ∷ []) ∷ gs) (cut_external d m ss rest)
  reads_external (section_and (section [] no_values (annotation notes)) no_sections) d m gs rest h k =
      resettle (cut_annotation d m notes rest) (m, annotation_goal d ∷ parts_goal d [] ∷ gs)
      (m, parts_goal d (annotation_part ∷ []) ∷ gs) refl
      (reads_annotation notes d m (parts_goal d [] ∷ gs) rest h
      (resettle rest (past_contents m notes, gs) (past_contents m notes, parts_goal d [] ∷ gs) refl k))
  reads_external _ d m gs rest h k = absurd h

  pub reads_sections : (ss : SectionTrees) (chain : List Layer) (d : ℕ) (m : Moment) (gs : List Goal) (rest : List Piece)
      → WellFormedSections m.table ss chain → Reads (past_sections m ss, gs) rest
      → Reads (m, parts_goal d (section_parts chain) ∷ gs) (cut_sections d m chain ss rest)
  reads_sections no_sections [] d m gs rest h k = resettle rest (m, gs) (m, parts_goal d [] ∷ gs) refl k
  reads_sections no_sections (l ∷ ls) d m gs rest h k = absurd h
  reads_sections (section_and s ss) [] d m gs rest h k = absurd h
  reads_sections (section_and (section ps vs n) ss) (l ∷ ls) d m gs rest h k =
      let behind = past_notes (past_values m vs) n in
      let noted = annotation_if (has_write_method l.flags) (section_parts ls) in
      let after = cut_sections d behind ls ss rest in
      let notes_read : Reads (past_values m vs, parts_goal d noted ∷ gs) (cut_notes d (past_values m vs) n after) =
      reads_notes n (has_write_method l.flags) (section_parts ls) d (past_values m vs) gs after h.3
      (reads_sections ss ls d behind gs rest h.4 k) in
      reads_prims (primitive_codes l.codes) ps (value_parts (object_count l.codes) noted) d m gs
      (cut_values d m vs (cut_notes d (past_values m vs) n after)) h.0
      (rw (← h.1) (reads_values vs noted d m gs (cut_notes d (past_values m vs) n after) h.2 notes_read))

  pub reads_notes : (n : NotesTree) (expected : Bool) (parts : List Part) (d : ℕ) (m : Moment) (gs : List Goal)
      (rest : List Piece)
      → WellFormedNotesIf m.table n expected → Reads (past_notes m n, parts_goal d parts ∷ gs) rest
      → Reads (m, parts_goal d (annotation_if expected parts) ∷ gs) (cut_notes d m n rest)
  reads_notes no_notes false parts d m gs rest h k = k
  reads_notes no_notes true parts d m gs rest h k = absurd (true≢false h)
  reads_notes (annotation notes) true parts d m gs rest h k =
      resettle (cut_annotation d m notes rest) (m, annotation_goal d ∷ parts_goal d parts ∷ gs)
      (m, parts_goal d (annotation_part ∷ parts) ∷ gs) refl
      (reads_annotation notes d m (parts_goal d parts ∷ gs) rest h.1 k)
  reads_notes (annotation notes) false parts d m gs rest h k = untrue h.0

  pub reads_annotation : (cs : ContentTrees) (d : ℕ) (m : Moment) (gs : List Goal) (rest : List Piece)
      → WellFormedNotes m.table cs → Reads (past_contents m cs, gs) rest
      → Reads (m, annotation_goal d ∷ gs) (cut_annotation d m cs rest)
  reads_annotation no_contents d m gs rest h k = (refl, tt, k)
  reads_annotation (content_and (block long bytes) cs) d m gs rest h k = (
    refl,
    tt,
    reads_block long bytes d m (annotation_goal d ∷ gs) (cut_annotation d m cs rest) h.0
        (reads_annotation cs d m gs rest h.1 k),
  )
  reads_annotation (content_and reset cs) d m gs rest h k = absurd h
  reads_annotation (content_and (content v) cs) d m gs rest h k = (
    refl,
    tt,
    reads_value v (suc d) m (annotation_goal d ∷ gs) (cut_annotation d (past_value m v) cs rest) h.0
        (reads_annotation cs d (past_value m v) gs rest h.1 k),
  )

-- the moment behind a content list
abbrev pub past_top : Moment → ContentTrees → Moment
past_top m no_contents = m
past_top m (content_and (block long bytes) cs) = past_top m cs
past_top m (content_and reset cs) = past_top (emptied m) cs
past_top m (content_and (content v) cs) = past_top (past_value m v) cs

pub reads_top : (cs : ContentTrees) (m : Moment) (rest : List Piece)
    → WellFormedContents m.table cs → Reads (past_top m cs, top_goal ∷ []) rest → Reads (m, top_goal ∷ []) (cut_top m cs rest)
reads_top no_contents m rest h k = k
reads_top (content_and (block long bytes) cs) m rest h k =
    (refl, tt, reads_block long bytes 0 m (top_goal ∷ []) (cut_top m cs rest) h.0 (reads_top cs m rest h.1 k))
reads_top (content_and reset cs) m rest h k = (refl, tt, reads_top cs (emptied m) rest h k)
reads_top (content_and (content v) cs) m rest h k = (
  refl,
  tt,
  reads_value v 1 m (top_goal ∷ []) (cut_top (past_value m v) cs rest) h.0
      (reads_top cs (past_value m v) rest h.1 k),
)
