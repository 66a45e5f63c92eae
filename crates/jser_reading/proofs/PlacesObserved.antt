-- The depth and the number of the places along the tokens of a tree: the greatest ones are the counts of the tree.
use Rattle.std.proofs.Common.{◌≡◌, ℕ, suc, ◌+◌, ◌≤◌, max, Bool, true, false, ◌||◌, if◌then◌else◌, List, [], ◌∷◌, refl, ◌∙◌, arith, Option, Some, None, MatchBool}
use Rattle.jser_reading.proofs.Vocabulary.{has_write_method, other_entry, pending_entry, Layer, PrimCode, is_object_code, primitive_codes, TextPlaceTree, new_text, back_text, FieldTree, PrimTree, ValueTree, null, back, string, descriptor, class_object, array, enum_constant, object, DescTree, plain, proxy, ClassPlaceTree, no_class, back_class, new_class, BodyTree, raw_body, value_body, ValueTrees, no_values, value_and, section, SectionTrees, no_sections, section_and, NotesTree, no_notes, annotation, block, reset, content, ContentTrees, no_contents, content_and, chain_of_class, elements_of, is_external, WellFormedValue, WellFormedDesc, WellFormedClass, WellFormedSuperclass, WellFormedBody, WellFormedValues, WellFormedExternal, WellFormedSections, WellFormedNotesIf, WellFormedNotes, WellFormedContents, WellFormed, Owner, object_owner, array_owner, enum_owner, class_owner, ChainOwner, Role, own_class, superclass, owner_of, is_strict_above, Moment, beginning, tick, assign, emptied, places_value, places_desc, places_class, places_body, places_values, places_sections, places_notes, places_contents, past_type, past_fields, past_value, past_class, past_values, past_notes, past_contents, array_length_token, array_length_at, Piece, at, cut_text_place, cut_type, cut_fields, cut_interfaces, cut_bytes, cut_raw, cut_prims, cut_value, cut_desc, cut_class, cut_superclass, cut_body, cut_values, cut_external, cut_sections, cut_notes, cut_annotation, cut_top, tokens_of}
use Rattle.jser_grammar.specs.Counts.{array_length, refs_in_value, refs_in_desc, refs_in_class, refs_in_body, refs_in_values, refs_in_sections, refs_in_notes, refs_in_contents, depth_of_value, depth_in_desc, depth_in_class, depth_in_body, depth_in_values, depth_in_sections, depth_in_notes, depth_in_contents, refs_of, depth_of}
use Rattle.jser_reading.proofs.Observed.{most_places}
use Rattle.jser_reading.specs.Totals.{deepest}

-- the number of places after a tree is that before it and those in it

mutual
  pub counted_value : (v : ValueTree) (k : ℕ) → places_value k v ≡ k + refs_in_value v
  counted_value null k = omega arith
  counted_value (back n) k = omega arith
  counted_value (string t) k = omega arith
  counted_value (descriptor x) k = omega (arith, counted_desc x (suc k))
  counted_value (class_object c) k = omega (arith, counted_class c (suc k))
  counted_value (array c b) k = omega (arith, counted_class c (suc k), counted_body b (places_class (suc k) c))
  counted_value (enum_constant c t) k = omega (arith, counted_class c (suc k))
  counted_value (object c ss) k = omega (arith, counted_class c (suc k), counted_sections ss (places_class (suc k) c))

  counted_desc : (x : DescTree) (k : ℕ) → places_desc k x ≡ k + refs_in_desc x
  counted_desc (plain name suid flags fields notes parent) k =
      omega (arith, counted_contents notes k, counted_class parent (suc (places_contents k notes)))
  counted_desc (proxy interfaces notes parent) k =
      omega (arith, counted_contents notes k, counted_class parent (suc (places_contents k notes)))

  counted_class : (c : ClassPlaceTree) (k : ℕ) → places_class k c ≡ k + refs_in_class c
  counted_class no_class k = omega arith
  counted_class (back_class n) k = omega arith
  counted_class (new_class x) k = counted_desc x k

  counted_body : (b : BodyTree) (k : ℕ) → places_body k b ≡ k + refs_in_body b
  counted_body (raw_body ps) k = omega arith
  counted_body (value_body vs) k = counted_values vs k

  counted_values : (vs : ValueTrees) (k : ℕ) → places_values k vs ≡ k + refs_in_values vs
  counted_values no_values k = omega arith
  counted_values (value_and v vs) k = omega (arith, counted_value v k, counted_values vs (places_value k v))

  counted_sections : (ss : SectionTrees) (k : ℕ) → places_sections k ss ≡ k + refs_in_sections ss
  counted_sections no_sections k = omega arith
  counted_sections (section_and (section ps vs n) ss) k =
      omega (
        arith,
        counted_values vs k,
        counted_notes n (places_values k vs),
        counted_sections ss
            (places_notes (places_values k vs) n),
      )

  counted_notes : (n : NotesTree) (k : ℕ) → places_notes k n ≡ k + refs_in_notes n
  counted_notes no_notes k = omega arith
  counted_notes (annotation cs) k = counted_contents cs k

  pub counted_contents : (cs : ContentTrees) (k : ℕ) → places_contents k cs ≡ k + refs_in_contents cs
  counted_contents no_contents k = omega arith
  counted_contents (content_and (block long b) cs) k = counted_contents cs k
  counted_contents (content_and reset cs) k = counted_contents cs k
  counted_contents (content_and (content v) cs) k = omega (arith, counted_value v k, counted_contents cs (places_value k v))

-- tokens that begin no place show nothing

abbrev Shows : List Piece → List Piece → Type 0
Shows ps rest = (deepest ps ≡ deepest rest) × (most_places ps ≡ most_places rest)

shows_text : (t : TextPlaceTree) (d : ℕ) (m : Moment) (rest : List Piece) → Shows (cut_text_place d m t rest) rest
shows_text (new_text t) d m rest = (omega arith, omega arith)
shows_text (back_text n) d m rest = (omega arith, omega arith)

shows_type : (t : Option TextPlaceTree) (d : ℕ) (m : Moment) (rest : List Piece) → Shows (cut_type d m t rest) rest
shows_type None d m rest = (refl, refl)
shows_type (Some t) d m rest = shows_text t d m rest

shows_fields : (fs : List FieldTree) (d : ℕ) (seen : Bool) (m : Moment) (rest : List Piece)
    → Shows (cut_fields d seen m fs rest) rest
shows_fields [] d seen m rest = (refl, refl)
shows_fields (f ∷ fs) d seen m rest =
    let later = seen || is_object_code f.code in
    let q = shows_type f.text d m (cut_fields d later (past_type m f.text) fs rest) in
    let r = shows_fields fs d later (past_type m f.text) rest in
    (omega arith, omega arith)

shows_interfaces : (ns : List (List ℕ)) (d : ℕ) (m : Moment) (rest : List Piece) → Shows (cut_interfaces d m ns rest) rest
shows_interfaces [] d m rest = (refl, refl)
shows_interfaces (n ∷ ns) d m rest = let r = shows_interfaces ns d m rest in (omega arith, omega arith)

shows_bytes : (b : List ℕ) (d : ℕ) (m : Moment) (rest : List Piece) → Shows (cut_bytes d m b rest) rest
shows_bytes [] d m rest = (refl, refl)
shows_bytes (x ∷ b) d m rest = (omega arith, omega arith)

shows_raw : (elements : Option PrimCode) (ps : List PrimTree) (d : ℕ) (m : Moment) (rest : List Piece)
    → Shows (cut_raw d m elements ps rest) rest
shows_raw None ps d m rest = (refl, refl)
shows_raw (Some c) [] d m rest = (refl, refl)
shows_raw (Some c) (p ∷ ps) d m rest = (omega arith, omega arith)

shows_prims : (cs : List PrimCode) (ps : List PrimTree) (d : ℕ) (m : Moment) (rest : List Piece)
    → Shows (cut_prims d m cs ps rest) rest
shows_prims [] ps d m rest = (refl, refl)
shows_prims (c ∷ cs) [] d m rest = (refl, refl)
shows_prims (c ∷ cs) (p ∷ ps) d m rest = let r = shows_prims cs ps d m rest in (omega arith, omega arith)

-- The places of a tree within a place of depth d, where k went before and k' went by after it, of which the deepest
-- is e below d.
abbrev Adds : ℕ → ℕ → ℕ → ℕ → List Piece → List Piece → Type 0
Adds d e k k' ps rest = (max d (deepest ps) ≡ max (d + e) (deepest rest)) × (max k (most_places ps) ≡ max k' (most_places rest))

adds_by_class : (external : Bool) (E S : Type 0) (d e k k' : ℕ) (a b rest : List Piece) → MatchBool external E S
    → (E → Adds d e k k' a rest) → (S → Adds d e k k' b rest) → Adds d e k k' (if external then a else b) rest
adds_by_class true E S d e k k' a b rest h f g = f h
adds_by_class false E S d e k k' a b rest h f g = g h

mutual
  -- a value behind its tag, at depth d + 1
  adds_value : (v : ValueTree) (d : ℕ) (m : Moment) (rest : List Piece) → WellFormedValue m.table v
      → (max (suc d) (deepest (cut_value (suc d) m v rest)) ≡ max (d + depth_of_value v) (deepest rest))
      × (max (suc m.places) (most_places (cut_value (suc d) m v rest)) ≡ max (places_value m.places v) (most_places rest))
  adds_value null d m rest h = (omega arith, omega arith)
  adds_value (back n) d m rest h = (omega arith, omega arith)
  adds_value (string t) d m rest h = (omega arith, omega arith)
  adds_value (descriptor x) d m rest h = let r = adds_desc x (own_class None) (suc d) (tick m) rest h in (omega arith, r.1)
  adds_value (class_object c) d m rest h = let r = adds_class c class_owner (suc d) (tick m) rest h in (omega arith, r.1)
  adds_value (array c b) d m rest h =
      let made = assign (past_class (tick m) c) other_entry in
      let elements = elements_of (chain_of_class m.table c) in
      let q =
      adds_class c array_owner (suc d) (tick m) (at array_length_at (suc d) made (array_length_token (array_length b))
      ∷ cut_body (suc d) made elements b rest) h.0 in
      let r = adds_body b elements (suc d) made rest h.2 in
      (omega arith, omega (arith, counted_class c (suc m.places)))
  adds_value (enum_constant c t) d m rest h =
      let made = assign (past_class (tick m) c) other_entry in
      let q = adds_class c enum_owner (suc d) (tick m) (cut_text_place (suc d) made t rest) h.0 in
      let r = shows_text t (suc d) made rest in
      (omega arith, omega arith)
  adds_value (object c ss) d m rest h =
      let made = assign (past_class (tick m) c) other_entry in
      let ch = chain_of_class m.table c in
      let behind = if is_external ch then cut_external (suc d) made ss rest else cut_sections (suc d) made ch ss rest in
      let q = adds_class c object_owner (suc d) (tick m) behind h.0 in
      let r =
      adds_by_class (is_external ch) (WellFormedExternal made.table ss) (WellFormedSections made.table ss ch) (suc d)
      (depth_in_sections ss) made.places (places_sections made.places ss)
      (cut_external (suc d) made ss rest) (cut_sections (suc d) made ch ss rest) rest h.2
      (λ w. adds_external ss (suc d) made rest w) (λ w. adds_sections ss ch (suc d) made rest w) in (
        max_two (suc d) d (depth_in_class c) (depth_in_sections ss) (deepest (cut_class object_owner (suc d) (tick m) c behind))
            (deepest behind) (deepest rest) q.0 r.0,
        max_more (suc m.places) (places_class (suc m.places) c) (places_sections (places_class (suc m.places) c) ss)
            (most_places (cut_class object_owner (suc d) (tick m) c behind))
            (most_places behind) (most_places rest) (omega (arith, counted_class c (suc m.places))) q.1 r.1,
      )
    where
      max_two : (D d x y p q r : ℕ) → max (suc d) p ≡ max (suc d + x) q → max (suc d) q ≡ max (suc d + y) r
          → max (suc d) p ≡ max (d + suc (max x y)) r
      max_two D d x y p q r e f = omega arith

      max_more : (k l n p q r : ℕ) → k ≤ l → max k p ≡ max l q → max l q ≡ max n r → max k p ≡ max n r
      max_more k l n p q r h e f = e ∙ f

  adds_desc : (x : DescTree) (role : Role) (d : ℕ) (m : Moment) (rest : List Piece) → WellFormedDesc m.table x
      → Adds d (depth_in_desc x) m.places (places_desc m.places x) (cut_desc role d m x rest) rest
  adds_desc (plain name suid flags fields notes parent) role d m rest h =
      let m1 = assign m pending_entry in
      let m2 = past_fields m1 fields in
      let m3 = past_contents m2 notes in
      let up = cut_superclass (owner_of role) (is_strict_above role flags) (suc d) m3 parent rest in
      let f = shows_fields fields d false m1 (cut_annotation d m2 notes up) in
      let q = adds_annotation notes d m2 up h.5 in
      let r = adds_superclass parent (owner_of role) (is_strict_above role flags) d m3 rest h.6 in
      (omega arith, omega (arith, counted_contents notes m.places))
  adds_desc (proxy interfaces notes parent) role d m rest h =
      let m1 = assign m pending_entry in
      let m3 = past_contents m1 notes in
      let up = cut_superclass (owner_of role) (is_strict_above role 0) (suc d) m3 parent rest in
      let f = shows_interfaces interfaces d m1 (cut_annotation d m1 notes up) in
      let q = adds_annotation notes d m1 up h.2 in
      let r = adds_superclass parent (owner_of role) (is_strict_above role 0) d m3 rest h.3 in
      (omega arith, omega (arith, counted_contents notes m.places))

  adds_class : (c : ClassPlaceTree) (owner : Owner) (d : ℕ) (m : Moment) (rest : List Piece) → WellFormedClass m.table c
      → Adds d (depth_in_class c) m.places (places_class m.places c) (cut_class owner d m c rest) rest
  adds_class no_class owner d m rest h = absurd h
  adds_class (back_class n) owner d m rest h = (omega arith, omega arith)
  adds_class (new_class x) owner d m rest h =
      let r = adds_desc x (own_class (Some owner)) d m rest h in (omega arith, omega arith)

  -- a superclass place within a place of depth d
  adds_superclass : (c : ClassPlaceTree) (owner : ChainOwner) (strict : Bool) (d : ℕ) (m : Moment) (rest : List Piece)
      → WellFormedSuperclass m.table c
      → Adds d (suc (depth_in_class c)) m.places (places_class (suc m.places) c)
      (cut_superclass owner strict (suc d) m c rest) rest
  adds_superclass no_class owner strict d m rest h = (omega arith, omega arith)
  adds_superclass (back_class n) owner strict d m rest h = (omega arith, omega arith)
  adds_superclass (new_class x) owner strict d m rest h =
      let r = adds_desc x (superclass owner strict) (suc d) (tick m) rest h in (omega arith, omega arith)

  adds_body : (b : BodyTree) (elements : Option PrimCode) (d : ℕ) (m : Moment) (rest : List Piece)
      → WellFormedBody m.table b elements
      → Adds d (depth_in_body b) m.places (places_body m.places b) (cut_body d m elements b rest) rest
  adds_body (raw_body ps) elements d m rest h = let r = shows_raw elements ps d m rest in (omega arith, omega arith)
  adds_body (value_body vs) None d m rest h = adds_values vs d m rest h.1
  adds_body (value_body vs) (Some c) d m rest h = absurd h

  adds_values : (vs : ValueTrees) (d : ℕ) (m : Moment) (rest : List Piece) → WellFormedValues m.table vs
      → Adds d (depth_in_values vs) m.places (places_values m.places vs) (cut_values d m vs rest) rest
  adds_values no_values d m rest h = (omega arith, omega arith)
  adds_values (value_and v vs) d m rest h =
      let q = adds_value v d m (cut_values d (past_value m v) vs rest) h.0 in
      let r = adds_values vs d (past_value m v) rest h.1 in
      (omega arith, omega (arith, counted_value v m.places))

  adds_external : (ss : SectionTrees) (d : ℕ) (m : Moment) (rest : List Piece) → WellFormedExternal m.table ss
      → Adds d (depth_in_sections ss) m.places (places_sections m.places ss) (cut_external d m ss rest) rest
  adds_external (section_and (section [] no_values (annotation notes)) no_sections) d m rest h =
      let r = adds_annotation notes d m rest h in (omega arith, r.1)
  adds_external _ d m rest h = absurd h

  adds_sections : (ss : SectionTrees) (chain : List Layer) (d : ℕ) (m : Moment) (rest : List Piece)
      → WellFormedSections m.table ss chain
      → Adds d (depth_in_sections ss) m.places (places_sections m.places ss) (cut_sections d m chain ss rest) rest
  adds_sections no_sections [] d m rest h = (omega arith, omega arith)
  adds_sections no_sections (l ∷ ls) d m rest h = absurd h
  adds_sections (section_and s ss) [] d m rest h = absurd h
  adds_sections (section_and (section ps vs n) ss) (l ∷ ls) d m rest h =
      let m1 = past_values m vs in
      let m2 = past_notes m1 n in
      let after = cut_sections d m2 ls ss rest in
      let p = shows_prims (primitive_codes l.codes) ps d m (cut_values d m vs (cut_notes d m1 n after)) in
      let q = adds_values vs d m (cut_notes d m1 n after) h.2 in
      let w = adds_notes n (has_write_method l.flags) d m1 after h.3 in
      let r = adds_sections ss ls d m2 rest h.4 in
      (omega arith, omega (arith, counted_values vs m.places, counted_notes n m1.places))

  adds_notes : (n : NotesTree) (expected : Bool) (d : ℕ) (m : Moment) (rest : List Piece) → WellFormedNotesIf m.table n expected
      → Adds d (depth_in_notes n) m.places (places_notes m.places n) (cut_notes d m n rest) rest
  adds_notes no_notes expected d m rest h = (omega arith, omega arith)
  adds_notes (annotation cs) expected d m rest h = adds_annotation cs d m rest h.1

  adds_annotation : (cs : ContentTrees) (d : ℕ) (m : Moment) (rest : List Piece) → WellFormedNotes m.table cs
      → Adds d (depth_in_contents cs) m.places (places_contents m.places cs) (cut_annotation d m cs rest) rest
  adds_annotation no_contents d m rest h = (omega arith, omega arith)
  adds_annotation (content_and (block long b) cs) d m rest h =
      let q = shows_bytes b d m (cut_annotation d m cs rest) in
      let r = adds_annotation cs d m rest h.1 in (omega arith, omega arith)
  adds_annotation (content_and reset cs) d m rest h = absurd h
  adds_annotation (content_and (content v) cs) d m rest h =
      let q = adds_value v d m (cut_annotation d (past_value m v) cs rest) h.0 in
      let r = adds_annotation cs d (past_value m v) rest h.1 in
      (omega arith, omega (arith, counted_value v m.places))

adds_top : (cs : ContentTrees) (m : Moment) → WellFormedContents m.table cs
    → (deepest (cut_top m cs []) ≡ depth_in_contents cs)
    × (max m.places (most_places (cut_top m cs [])) ≡ places_contents m.places cs)
adds_top no_contents m h = (refl, omega arith)
adds_top (content_and (block long b) cs) m h =
    let q = shows_bytes b 0 m (cut_top m cs []) in
    let r = adds_top cs m h.1 in (omega arith, omega arith)
adds_top (content_and reset cs) m h = let r = adds_top cs (emptied m) h in (omega arith, omega arith)
adds_top (content_and (content v) cs) m h =
    let q = adds_value v 0 m (cut_top (past_value m v) cs []) h.0 in
    let r = adds_top cs (past_value m v) h.1 in
    (omega arith, omega (arith, counted_value v m.places, counted_contents cs (places_value m.places v)))

pub depth_observed : (list : ContentTrees) → WellFormed list → deepest (tokens_of list) ≡ depth_of list
depth_observed list h = let r = adds_top list beginning h in omega arith

pub places_observed : (list : ContentTrees) → WellFormed list → most_places (tokens_of list) ≡ refs_of list
places_observed list h = let r = adds_top list beginning h in omega (arith, counted_contents list 0)
