-- The state teller_after a tree: along the tokens of a well-formed tree the teller comes to where it knows what the tree leaves,
-- and has used what was given of its owners. The lemmas are those of `TreeToText` without the texts.
use Rattle.std.proofs.Common.{◌≡◌, ℕ, suc, Bool, true, false, ◌||◌, if◌then◌else◌, List, [], ◌∷◌, ◌++◌, length, refl, sym, ap, subst, ◌∙◌, Option, Some, None, true≢false, is_some, MatchBool, slice_set, arith}
use Rattle.jser_grammar.specs.Counts.{array_length}
use Rattle.jser_grammar.proofs.Bools.{both_ways, untrue}
use Rattle.jser_reading.proofs.TreeToMachine.{not_object}
use Rattle.jser_reading.proofs.Vocabulary.{TextPlaceTree, new_text, back_text, FieldTree, PrimTree, ValueTree, null, back, string, descriptor, class_object, array, enum_constant, object, DescTree, plain, proxy, ClassPlaceTree, no_class, back_class, new_class, BodyTree, raw_body, value_body, ValueTrees, no_values, value_and, section, SectionTrees, no_sections, section_and, NotesTree, no_notes, annotation, block, reset, content, ContentTrees, no_contents, content_and, value_count}
use Rattle.jser_reading.proofs.Vocabulary.{has_write_method, text_entry, other_entry, pending_entry, PrimCode, prim_code_of, is_object_code, with_code, primitive_codes, chain_of_class, WellFormedType, WellFormedFields, ArePrims, elements_of, is_external, WellFormedValue, WellFormedDesc, WellFormedClass, WellFormedSuperclass, WellFormedBody, WellFormedValues, WellFormedExternal, WellFormedSections, WellFormedNotesIf, WellFormedNotes, WellFormedContents, Owner, object_owner, array_owner, enum_owner, class_owner, ChainOwner, Role, own_class, superclass, owner_of, is_strict_above, Moment, beginning, tick, assign, emptied, past_type, past_fields, past_value, past_class, past_values, past_notes, past_contents, tag_token, text_token, array_length_token, block_length_token, class_place_at, superclass_place_at, text_place_at, string_at, array_length_at, block_length_at, Piece, piece, at, tag_of_string, tag_of_desc, tag_of, cut_text_place, cut_type, cut_fields, cut_interfaces, cut_bytes, cut_raw, cut_prims, cut_value, cut_desc, cut_class, cut_superclass, cut_body, cut_values, cut_external, cut_sections, cut_notes, cut_annotation, cut_top}
use Rattle.jser_shown.specs.Known.{NamedField, NamedLayer, class_layer, proxy_layer, known_text, known_other, known_pending, known_class, Known, classes_at, with_entry, named_fields, known_text_place, known_type, known_fields, known_value, known_desc, known_class_place, known_body, known_values, known_sections, known_notes, known_contents, classes_of, last_epoch, last_known, prim_fields, object_names, own_class_of, is_external_chain, elements_of_chain}
use Rattle.jser_shown.specs.Words.{Epoch, first_epoch, next_epoch}
use Rattle.jser_shown.specs.Owners.{OwnerNode, owners_in_value, owners_in_desc, owners_in_class, owners_in_body, owners_in_values, owners_in_sections, owners_in_notes, owners_in_annotation, owners_at_top}
use Rattle.jser_shown.specs.Cues.{SectionPart, data_part, external_part, note_part, Cue, top_cue, text_place_cue, block_length_cue, note_cue, name_cue, length_cue, elements_cue, parts_cue, class_cue, made_cue, super_cue, close_cue, fields_cue, type_cue, interfaces_cue, Teller, teller, raw_parts, value_parts, note_if, section_parts, object_parts, fields_done, rest_of_desc}
use Rattle.jser_shown.specs.Telling.{begin, teller_after}
use Rattle.jser_shown.specs.Laws.{EndsThere}
use Rattle.jser_shown.proofs.CueLemmas.{owner_cues, desc_begin, object_names_count}
use Rattle.jser_shown.proofs.KnownLemmas.{codes_in, layers_of, entries, classes_at-known_desc, external-known, elements-known, then_entry, then_fields, then_value, then_class, then_values, then_notes, then_contents, then_chain}

-- cues that no token belongs to

parts_done : (rest : List Piece) (e : Epoch) (L : ℕ) (T : Known) (os : List OwnerNode) (gs : List Cue)
    → teller_after (teller e T os (parts_cue L [] ∷ gs)) rest ≡ teller_after (teller e T os gs) rest
parts_done [] e L T os gs = refl
parts_done (piece l f ∷ rest) e L T os gs = refl

data_first : (rest : List Piece) (l : NamedLayer) (parts : List SectionPart) (e : Epoch) (L : ℕ) (T : Known) (os : List OwnerNode) (gs : List Cue)
    → teller_after (teller e T os (parts_cue L (data_part l ∷ parts) ∷ gs)) rest ≡ teller_after (teller e T os (parts_cue L parts ∷ gs)) rest
data_first [] l parts e L T os gs = refl
data_first (piece a f ∷ rest) l parts e L T os gs = refl

external_first : (rest : List Piece) (l : NamedLayer) (parts : List SectionPart) (e : Epoch) (L : ℕ) (T : Known) (os : List OwnerNode) (gs : List Cue)
    → teller_after (teller e T os (parts_cue L (external_part l ∷ parts) ∷ gs)) rest ≡ teller_after (teller e T os (parts_cue L parts ∷ gs)) rest
external_first [] l parts e L T os gs = refl
external_first (piece a f ∷ rest) l parts e L T os gs = refl

note_first : (rest : List Piece) (parts : List SectionPart) (e : Epoch) (L : ℕ) (T : Known) (os : List OwnerNode) (gs : List Cue)
    → teller_after (teller e T os (parts_cue L (note_part ∷ parts) ∷ gs)) rest ≡ teller_after (teller e T os (note_cue (suc L) ∷ parts_cue L parts ∷ gs)) rest
note_first [] parts e L T os gs = refl
note_first (piece a f ∷ rest) parts e L T os gs = refl

elements_done : (rest : List Piece) (e : Epoch) (L i : ℕ) (c : Option PrimCode) (T : Known) (os : List OwnerNode) (gs : List Cue)
    → teller_after (teller e T os (elements_cue L c i 0 ∷ gs)) rest ≡ teller_after (teller e T os gs) rest
elements_done [] e L i c T os gs = refl
elements_done (piece l f ∷ rest) e L i c T os gs = refl

closed : (rest : List Piece) (e : Epoch) (number n : ℕ) (layer : NamedLayer) (T : Known) (os : List OwnerNode) (gs : List Cue)
    → teller_after (teller e T os (close_cue number n layer ∷ gs)) rest
    ≡ teller_after (teller e (slice_set T number (known_class (classes_at T n ++ (layer ∷ [])))) os gs) rest
closed [] e number n layer T os gs = refl
closed (piece l f ∷ rest) e number n layer T os gs = refl

fields_end : (rest : List Piece) (e : Epoch) (L number : ℕ) (name : List ℕ) (flags : ℕ) (done : List NamedField) (T : Known) (os : List OwnerNode) (gs : List Cue)
    → teller_after (teller e T os (fields_cue L number name flags done 0 ∷ gs)) rest
    ≡ teller_after (teller e T os (rest_of_desc L number (class_layer name flags (fields_done done [])) gs)) rest
fields_end [] e L number name flags done T os gs = refl
fields_end (piece l f ∷ rest) e L number name flags done T os gs = refl

interfaces_end : (rest : List Piece) (e : Epoch) (L number : ℕ) (T : Known) (os : List OwnerNode) (gs : List Cue)
    → teller_after (teller e T os (interfaces_cue L number 0 ∷ gs)) rest ≡ teller_after (teller e T os (rest_of_desc L number proxy_layer gs)) rest
interfaces_end [] e L number T os gs = refl
interfaces_end (piece l f ∷ rest) e L number T os gs = refl

type_some : (rest : List Piece) (e : Epoch) (T : Known) (os : List OwnerNode) (gs : List Cue)
    → teller_after (teller e T os (type_cue true ∷ gs)) rest ≡ teller_after (teller e T os (text_place_cue ∷ gs)) rest
type_some [] e T os gs = refl
type_some (piece l f ∷ rest) e T os gs = refl

type_none : (rest : List Piece) (e : Epoch) (T : Known) (os : List OwnerNode) (gs : List Cue)
    → teller_after (teller e T os (type_cue false ∷ gs)) rest ≡ teller_after (teller e T os gs) rest
type_none [] e T os gs = refl
type_none (piece l f ∷ rest) e T os gs = refl

ends_made : (rest : List Piece) (owner : Owner) (e : Epoch) (L n : ℕ) (T : Known) (os : List OwnerNode) (gs : List Cue)
    → teller_after (teller e T os (made_cue owner L n ∷ gs)) rest ≡ teller_after (teller e (with_entry T known_other) os (owner_cues owner L (classes_at T n) gs)) rest
ends_made [] object_owner e L n T os gs = refl
ends_made [] array_owner e L n T os gs = refl
ends_made [] enum_owner e L n T os gs = refl
ends_made [] class_owner e L n T os gs = refl
ends_made (piece l f ∷ rest) object_owner e L n T os gs = refl
ends_made (piece l f ∷ rest) array_owner e L n T os gs = refl
ends_made (piece l f ∷ rest) enum_owner e L n T os gs = refl
ends_made (piece l f ∷ rest) class_owner e L n T os gs = refl

-- texts, fields and interfaces

ends_new_text : (long : Bool) (units : List ℕ) (d : ℕ) (m n : Moment) (e : Epoch) (T : Known) (os : List OwnerNode) (gs : List Cue) (rest : List Piece)
    → teller_after (teller e T os (text_place_cue ∷ gs)) (at text_place_at d m (tag_token (tag_of_string long)) ∷ at (string_at long) d n (text_token long units) ∷ rest)
    ≡ teller_after (teller e (with_entry T known_text) os gs) rest
ends_new_text true units d m n e T os gs rest = refl
ends_new_text false units d m n e T os gs rest = refl

ends_text : (t : TextPlaceTree) (d : ℕ) (m : Moment) (e : Epoch) (T : Known) (os : List OwnerNode) (gs : List Cue) (rest : List Piece)
    → teller_after (teller e T os (text_place_cue ∷ gs)) (cut_text_place d m t rest) ≡ teller_after (teller e (known_text_place T t) os gs) rest
ends_text (new_text t) d m e T os gs rest = ends_new_text t.long t.units d m (assign m text_entry) e T os gs rest
ends_text (back_text n) d m e T os gs rest = refl

ends_new_name : (long : Bool) (units : List ℕ) (d : ℕ) (m n : Moment) (e : Epoch) (L : ℕ) (T : Known) (os : List OwnerNode) (gs : List Cue) (rest : List Piece)
    → teller_after (teller e T os (name_cue L ∷ gs)) (at text_place_at d m (tag_token (tag_of_string long)) ∷ at (string_at long) d n (text_token long units) ∷ rest)
    ≡ teller_after (teller e (with_entry T known_text) os gs) rest
ends_new_name true units d m n e L T os gs rest = refl
ends_new_name false units d m n e L T os gs rest = refl

ends_name : (t : TextPlaceTree) (d : ℕ) (m : Moment) (e : Epoch) (L : ℕ) (T : Known) (os : List OwnerNode) (gs : List Cue) (rest : List Piece)
    → teller_after (teller e T os (name_cue L ∷ gs)) (cut_text_place d m t rest)
    ≡ teller_after (teller e (known_text_place T t) os gs) rest
ends_name (new_text t) d m e L T os gs rest = ends_new_name t.long t.units d m (assign m text_entry) e L T os gs rest
ends_name (back_text n) d m e L T os gs rest = refl

ends_type : (t : Option TextPlaceTree) (object seen : Bool) (code d : ℕ) (m : Moment) (e : Epoch) (T : Known) (os : List OwnerNode) (gs : List Cue) (rest : List Piece)
    → is_object_code code ≡ object → WellFormedType m.table seen code t
    → teller_after (teller e T os (type_cue object ∷ gs)) (cut_type d m t rest) ≡ teller_after (teller e (known_type T t) os gs) rest
ends_type None false seen code d m e T os gs rest q h = type_none rest e T os gs
ends_type None true seen code d m e T os gs rest q h = both_ways (is_object_code code) q (not_object code h.0)
ends_type (Some t) true seen code d m e T os gs rest q h =
    type_some (cut_text_place d m t rest) e T os gs ∙ (ends_text t d m e T os gs rest)
ends_type (Some t) false seen code d m e T os gs rest q h = both_ways (is_object_code code) h.0 q

ends_fields : (fs : List FieldTree) (d : ℕ) (seen : Bool) (m : Moment) (e : Epoch) (L number : ℕ) (name : List ℕ) (flags : ℕ) (done : List NamedField)
    (T : Known) (os : List OwnerNode) (gs : List Cue) (rest : List Piece) → WellFormedFields m.table seen fs
    → teller_after (teller e T os (fields_cue L number name flags done (length fs) ∷ gs)) (cut_fields d seen m fs rest)
    ≡ teller_after (teller e (known_fields T fs) os (rest_of_desc L number (class_layer name flags (fields_done done (named_fields fs))) gs)) rest
ends_fields [] d seen m e L number name flags done T os gs rest h = fields_end rest e L number name flags done T os gs
ends_fields (f ∷ fs) d seen m e L number name flags done T os gs rest h =
    let later = seen || is_object_code f.code in
    let more = fields_cue L number name flags (record { code = f.code; name = f.name } ∷ done) (length fs) ∷ gs in
    (ends_type f.text (is_object_code f.code) seen f.code d m e T os more (cut_fields d later (past_type m f.text) fs rest) refl h.1
    ∙ (ends_fields fs d later (past_type m f.text) e L number name flags (record { code = f.code; name = f.name } ∷ done) (known_type T f.text) os gs rest h.2))

ends_interfaces : (names : List (List ℕ)) (d : ℕ) (m : Moment) (e : Epoch) (L number : ℕ) (T : Known) (os : List OwnerNode) (gs : List Cue) (rest : List Piece)
    → teller_after (teller e T os (interfaces_cue L number (length names) ∷ gs)) (cut_interfaces d m names rest)
    ≡ teller_after (teller e T os (rest_of_desc L number proxy_layer gs)) rest
ends_interfaces [] d m e L number T os gs rest = interfaces_end rest e L number T os gs
ends_interfaces (name ∷ names) d m e L number T os gs rest =
    (ends_interfaces names d m e L number T os gs rest)

-- raw bytes and raw values

ends_block : (bytes : List ℕ) (long : Bool) (d : ℕ) (m : Moment) (e : Epoch) (T : Known) (os : List OwnerNode) (gs : List Cue) (rest : List Piece)
    → teller_after (teller e T os (block_length_cue ∷ gs)) (at (block_length_at long) d m (block_length_token long (length bytes)) ∷ cut_bytes d m bytes rest)
    ≡ teller_after (teller e T os gs) rest
ends_block [] long d m e T os gs rest = refl
ends_block (b ∷ bytes) long d m e T os gs rest = refl

ends_raw : (ps : List PrimTree) (c : PrimCode) (d : ℕ) (m : Moment) (e : Epoch) (L : ℕ) (T : Known) (os : List OwnerNode) (gs : List Cue) (rest : List Piece)
    → teller_after (teller e T os (elements_cue L (Some c) 0 (length ps) ∷ gs)) (cut_raw d m (Some c) ps rest) ≡ teller_after (teller e T os gs) rest
ends_raw [] c d m e L T os gs rest = elements_done rest e L 0 (Some c) T os gs
ends_raw (p ∷ ps) c d m e L T os gs rest = refl

-- one field more: a raw value where it is primitive
ends_prim : (o : Option PrimCode) (f : NamedField) (fs : List NamedField) (parts : List SectionPart) (d : ℕ) (m : Moment) (e : Epoch) (L : ℕ) (T : Known) (os : List OwnerNode)
    (gs : List Cue) (rest : List Piece)
    → ((ps : List PrimTree) → ArePrims (primitive_codes (codes_in fs)) ps
    → teller_after (teller e T os (parts_cue L (raw_parts (prim_fields fs) parts) ∷ gs)) (cut_prims d m (primitive_codes (codes_in fs)) ps rest)
    ≡ teller_after (teller e T os (parts_cue L parts ∷ gs)) rest)
    → (ps : List PrimTree) → ArePrims (with_code o (primitive_codes (codes_in fs))) ps
    → teller_after (teller e T os (parts_cue L (raw_parts (if is_some o then f ∷ prim_fields fs else prim_fields fs) parts) ∷ gs)) (cut_prims d m (with_code o (primitive_codes (codes_in fs))) ps rest)
    ≡ teller_after (teller e T os (parts_cue L parts ∷ gs)) rest
ends_prim None f fs parts d m e L T os gs rest others ps h = others ps h
ends_prim (Some c) f fs parts d m e L T os gs rest others [] h = absurd h
ends_prim (Some c) f fs parts d m e L T os gs rest others (p ∷ ps) h = (others ps h.1)

ends_prims : (fs : List NamedField) (ps : List PrimTree) (parts : List SectionPart) (d : ℕ) (m : Moment) (e : Epoch) (L : ℕ) (T : Known) (os : List OwnerNode)
    (gs : List Cue) (rest : List Piece) → ArePrims (primitive_codes (codes_in fs)) ps
    → teller_after (teller e T os (parts_cue L (raw_parts (prim_fields fs) parts) ∷ gs)) (cut_prims d m (primitive_codes (codes_in fs)) ps rest)
    ≡ teller_after (teller e T os (parts_cue L parts ∷ gs)) rest
ends_prims [] [] parts d m e L T os gs rest h = refl
ends_prims [] (p ∷ ps) parts d m e L T os gs rest h = absurd h
ends_prims (f ∷ fs) ps parts d m e L T os gs rest h =
    ends_prim (prim_code_of f.code) f fs parts d m e L T os gs rest (λ qs g. ends_prims fs qs parts d m e L T os gs rest g) ps h

-- the tag of a descriptor

enter_value : (x : DescTree) (e : Epoch) (L : ℕ) (T : Known) (os : List OwnerNode) (gs : List Cue) (pieces : List Piece)
    → teller_after (begin e L T os (tag_of_desc x) gs) pieces ≡ teller_after (desc_begin e L T os x gs) pieces
enter_value (plain name suid flags fields notes parent) e L T os gs pieces = refl
enter_value (proxy interfaces notes parent) e L T os gs pieces = refl

enter_class : (x : DescTree) (owner : Owner) (d : ℕ) (m : Moment) (e : Epoch) (L : ℕ) (T : Known) (os : List OwnerNode) (gs : List Cue) (pieces : List Piece)
    → teller_after (teller e T os (class_cue owner L ∷ gs)) (at (class_place_at owner) d m (tag_token (tag_of_desc x)) ∷ pieces)
    ≡ teller_after (desc_begin e L T os x (made_cue owner L (length T) ∷ gs)) pieces
enter_class (plain name suid flags fields notes parent) owner d m e L T os gs pieces = refl
enter_class (proxy interfaces notes parent) owner d m e L T os gs pieces = refl

enter_super : (x : DescTree) (owner : ChainOwner) (strict : Bool) (d : ℕ) (m : Moment) (e : Epoch) (L number : ℕ) (layer : NamedLayer) (T : Known) (os : List OwnerNode) (gs : List Cue) (pieces : List Piece)
    → teller_after (teller e T os (super_cue L number layer ∷ gs)) (at (superclass_place_at owner strict) d m (tag_token (tag_of_desc x)) ∷ pieces)
    ≡ teller_after (desc_begin e L T os x (close_cue number (length T) layer ∷ gs)) pieces
enter_super (plain name suid flags fields notes parent) owner strict d m e L number layer T os gs pieces = refl
enter_super (proxy interfaces notes parent) owner strict d m e L number layer T os gs pieces = refl

-- an externalizable class has one section, of notes alone; any other one for each class of the chain
by_class : (x y : Bool) (E S : Type 0) (chain : List NamedLayer) (e : Epoch) (L : ℕ) (T : Known) (os : List OwnerNode) (gs : List Cue) (a b : List Piece) (A : Teller)
    → x ≡ y → MatchBool x E S
    → (E → teller_after (teller e T os (parts_cue L (external_part (own_class_of chain) ∷ note_part ∷ []) ∷ gs)) a ≡ A)
    → (S → teller_after (teller e T os (parts_cue L (section_parts chain) ∷ gs)) b ≡ A)
    → teller_after (teller e T os (parts_cue L (object_parts y chain) ∷ gs)) (if x then a else b) ≡ A
by_class true true E S chain e L T os gs a b A q h f g = f h
by_class false false E S chain e L T os gs a b A q h f g = g h
by_class true false E S chain e L T os gs a b A q h f g = absurd (true≢false q)
by_class false true E S chain e L T os gs a b A q h f g = absurd (true≢false (sym q))

mutual
  pub ends_value : (v : ValueTree) (d : ℕ) (m : Moment) (e : Epoch) (L : ℕ) (T : Known) (os : List OwnerNode) (gs : List Cue) (rest : List Piece)
      → m.table ≡ entries T → WellFormedValue m.table v
      → teller_after (begin e L T (owners_in_value T v os) (tag_of v) gs) (cut_value d m v rest)
      ≡ teller_after (teller e (known_value T v) os gs) rest
  ends_value null d m e L T os gs rest q h = refl
  ends_value (back n) d m e L T os gs rest q h = refl
  ends_value (string t) d m e L T os gs rest q h = go t.long t.units
    where
      go : (long : Bool) (units : List ℕ)
          → teller_after (begin e L T os (tag_of_string long) gs) (at (string_at long) d (assign (tick m) text_entry) (text_token long units) ∷ rest)
          ≡ teller_after (teller e (with_entry T known_text) os gs) rest
      go true units = refl
      go false units = refl
  ends_value (descriptor x) d m e L T os gs rest q h =
      enter_value x e L T (owners_in_desc T x os) gs (cut_desc (own_class None) d (tick m) x rest) ∙ ends_desc x (own_class None) d (tick m) e L T os gs rest q h
  ends_value (class_object c) d m e L T os gs rest q h =
      (ends_class c class_owner d (tick m) e (suc L) T os gs rest q h)
  ends_value (array c b) d m e L T os gs rest q h =
      let made = assign (past_class (tick m) c) other_entry in
      let T1 = with_entry (known_class_place T c) known_other in
      let same = ap elements_of (then_chain c T m.table q) ∙ elements-known (classes_of T c) in
      (ends_class c array_owner d (tick m) e (suc L) T (owners_in_body T1 b os) gs
      (at array_length_at d made (array_length_token (array_length b)) ∷ cut_body d made (elements_of (chain_of_class m.table c)) b rest) q h.0
      ∙ ap (λ o. teller_after (teller e T1 (owners_in_body T1 b os) (length_cue (suc L) o ∷ gs)) (at array_length_at d made (array_length_token (array_length b)) ∷ cut_body d made (elements_of (chain_of_class m.table c)) b rest)) (sym same)
      ∙ (ends_body b (elements_of (chain_of_class m.table c)) d made e (suc L) T1 os gs rest (then_entry known_other (known_class_place T c) (past_class (tick m) c).table (then_class c T m.table q)) h.2))
  ends_value (enum_constant c t) d m e L T os gs rest q h =
      let made = assign (past_class (tick m) c) other_entry in
      (ends_class c enum_owner d (tick m) e (suc L) T os gs (cut_text_place d made t rest) q h.0
      ∙ (ends_name t d made e (suc L) (with_entry (known_class_place T c) known_other) os gs rest))
  ends_value (object c ss) d m e L T os gs rest q h =
      let made = assign (past_class (tick m) c) other_entry in
      let T1 = with_entry (known_class_place T c) known_other in
      let q1 = then_entry known_other (known_class_place T c) (past_class (tick m) c).table (then_class c T m.table q) in
      let layers = chain_of_class m.table c in
      let chain = classes_of T c in
      let same = then_chain c T m.table q in
      (ends_class c object_owner d (tick m) e (suc L) T (owners_in_sections T1 ss os) gs
      (if is_external layers then cut_external d made ss rest else cut_sections d made layers ss rest) q h.0
      ∙ (by_class (is_external layers) (is_external_chain chain) (WellFormedExternal made.table ss) (WellFormedSections made.table ss layers) chain e (suc L) T1
      (owners_in_sections T1 ss os) gs (cut_external d made ss rest) (cut_sections d made layers ss rest)
      (teller_after (teller e (known_sections T1 ss) os gs) rest)
      (ap is_external same ∙ external-known chain) h.2
      (λ w. ends_external ss (own_class_of chain) d made e (suc L) T1 os gs rest q1 w)
      (subst (λ ls. WellFormedSections made.table ss ls → teller_after (teller e T1 (owners_in_sections T1 ss os) (parts_cue (suc L) (section_parts chain) ∷ gs)) (cut_sections d made ls ss rest)
      ≡ teller_after (teller e (known_sections T1 ss) os gs) rest) (sym same)
      (λ w. ends_sections ss chain d made e (suc L) T1 os gs rest q1 w))))

  ends_desc : (x : DescTree) (role : Role) (d : ℕ) (m : Moment) (e : Epoch) (L : ℕ) (T : Known) (os : List OwnerNode) (gs : List Cue) (rest : List Piece)
      → m.table ≡ entries T → WellFormedDesc m.table x
      → teller_after (desc_begin e L T (owners_in_desc T x os) x gs) (cut_desc role d m x rest) ≡ teller_after (teller e (known_desc T x) os gs) rest
  ends_desc (plain name suid flags fields notes parent) role d m e L T os gs rest q h =
      let opened = assign m pending_entry in
      let past = past_fields opened fields in
      let inside = past_contents past notes in
      let T1 = with_entry T known_pending in
      let T2 = known_fields T1 fields in
      let T3 = known_contents T2 notes in
      let q1 = then_entry known_pending T m.table q in
      let q2 = then_fields fields T1 opened.table q1 in
      let q3 = then_contents notes T2 past.table q2 in
      let layer = class_layer name flags (named_fields fields) in
      let up : List Cue = super_cue (suc L) (length T) layer ∷ gs in
      let ends = cut_superclass (owner_of role) (is_strict_above role flags) (suc d) inside parent rest in
      (ends_fields fields d false opened e (suc L) (length T) name flags [] T1 (owners_in_annotation T2 notes (owners_in_class T3 parent os)) gs (cut_annotation d past notes ends) h.4
      ∙ (ends_annotation notes d past e (suc L) T2 (owners_in_class T3 parent os) up ends q2 h.5
      ∙ (ends_super parent (owner_of role) (is_strict_above role flags) (suc d) inside e (suc L) (length T) layer T3 os gs rest q3 h.6)))
  ends_desc (proxy interfaces notes parent) role d m e L T os gs rest q h =
      let opened = assign m pending_entry in
      let inside = past_contents opened notes in
      let T1 = with_entry T known_pending in
      let T3 = known_contents T1 notes in
      let q1 = then_entry known_pending T m.table q in
      let q3 = then_contents notes T1 opened.table q1 in
      let up : List Cue = super_cue (suc L) (length T) proxy_layer ∷ gs in
      let ends = cut_superclass (owner_of role) (is_strict_above role 0) (suc d) inside parent rest in
      (ends_interfaces interfaces d opened e (suc L) (length T) T1 (owners_in_annotation T1 notes (owners_in_class T3 parent os)) gs (cut_annotation d opened notes ends)
      ∙ (ends_annotation notes d opened e (suc L) T1 (owners_in_class T3 parent os) up ends q1 h.2
      ∙ (ends_super parent (owner_of role) (is_strict_above role 0) (suc d) inside e (suc L) (length T) proxy_layer T3 os gs rest q3 h.3)))

  ends_class : (c : ClassPlaceTree) (owner : Owner) (d : ℕ) (m : Moment) (e : Epoch) (L : ℕ) (T : Known) (os : List OwnerNode) (gs : List Cue) (rest : List Piece)
      → m.table ≡ entries T → WellFormedClass m.table c
      → teller_after (teller e T (owners_in_class T c os) (class_cue owner L ∷ gs)) (cut_class owner d m c rest)
      ≡ teller_after (teller e (with_entry (known_class_place T c) known_other) os (owner_cues owner L (classes_of T c) gs)) rest
  ends_class no_class owner d m e L T os gs rest q h = absurd h
  ends_class (back_class n) owner d m e L T os gs rest q h =
      (ends_made rest owner e L n T os gs)
  ends_class (new_class x) owner d m e L T os gs rest q h =
      enter_class x owner d m e L T (owners_in_desc T x os) gs (cut_desc (own_class (Some owner)) d m x rest)
      ∙ (ends_desc x (own_class (Some owner)) d m e L T os (made_cue owner L (length T) ∷ gs) rest q h
      ∙ (ends_made rest owner e L (length T) (known_desc T x) os gs
      ∙ ap (λ chain. teller_after (teller e (with_entry (known_desc T x) known_other) os (owner_cues owner L chain gs)) rest) (classes_at-known_desc x T)))

  ends_super : (c : ClassPlaceTree) (owner : ChainOwner) (strict : Bool) (d : ℕ) (m : Moment) (e : Epoch) (L number : ℕ) (layer : NamedLayer) (T : Known) (os : List OwnerNode) (gs : List Cue) (rest : List Piece)
      → m.table ≡ entries T → WellFormedSuperclass m.table c
      → teller_after (teller e T (owners_in_class T c os) (super_cue L number layer ∷ gs)) (cut_superclass owner strict d m c rest)
      ≡ teller_after (teller e (slice_set (known_class_place T c) number (known_class (classes_of T c ++ (layer ∷ [])))) os gs) rest
  ends_super no_class owner strict d m e L number layer T os gs rest q h = refl
  ends_super (back_class n) owner strict d m e L number layer T os gs rest q h =
      (closed rest e number n layer T os gs)
  ends_super (new_class x) owner strict d m e L number layer T os gs rest q h =
      enter_super x owner strict d m e L number layer T (owners_in_desc T x os) gs (cut_desc (superclass owner strict) d (tick m) x rest)
      ∙ (ends_desc x (superclass owner strict) d (tick m) e L T os (close_cue number (length T) layer ∷ gs) rest q h
      ∙ (closed rest e number (length T) layer (known_desc T x) os gs
      ∙ ap (λ chain. teller_after (teller e (slice_set (known_desc T x) number (known_class (chain ++ (layer ∷ [])))) os gs) rest) (classes_at-known_desc x T)))

  ends_body : (b : BodyTree) (elements : Option PrimCode) (d : ℕ) (m : Moment) (e : Epoch) (L : ℕ) (T : Known) (os : List OwnerNode) (gs : List Cue) (rest : List Piece)
      → m.table ≡ entries T → WellFormedBody m.table b elements
      → teller_after (teller e T (owners_in_body T b os) (length_cue L elements ∷ gs)) (at array_length_at d m (array_length_token (array_length b)) ∷ cut_body d m elements b rest)
      ≡ teller_after (teller e (known_body T b) os gs) rest
  ends_body (raw_body ps) None d m e L T os gs rest q h = absurd h
  ends_body (raw_body ps) (Some c) d m e L T os gs rest q h = ends_raw ps c d m e L T os gs rest
  ends_body (value_body vs) None d m e L T os gs rest q h = ends_elements vs None 0 d m e L T os gs rest q h.1
  ends_body (value_body vs) (Some c) d m e L T os gs rest q h = absurd h

  ends_elements : (vs : ValueTrees) (c : Option PrimCode) (i d : ℕ) (m : Moment) (e : Epoch) (L : ℕ) (T : Known) (os : List OwnerNode) (gs : List Cue) (rest : List Piece)
      → m.table ≡ entries T → WellFormedValues m.table vs
      → teller_after (teller e T (owners_in_values T vs os) (elements_cue L c i (value_count vs) ∷ gs)) (cut_values d m vs rest)
      ≡ teller_after (teller e (known_values T vs) os gs) rest
  ends_elements no_values c i d m e L T os gs rest q h = elements_done rest e L i c T os gs
  ends_elements (value_and v vs) c i d m e L T os gs rest q h =
      let T1 = known_value T v in
      (ends_value v (suc d) m e L T (owners_in_values T1 vs os) (elements_cue L c (suc i) (value_count vs) ∷ gs) (cut_values d (past_value m v) vs rest) q h.0
      ∙ (ends_elements vs c (suc i) d (past_value m v) e L T1 os gs rest (then_value v T m.table q) h.1))

  ends_values : (vs : ValueTrees) (names : List (List ℕ)) (parts : List SectionPart) (d : ℕ) (m : Moment) (e : Epoch) (L : ℕ) (T : Known) (os : List OwnerNode) (gs : List Cue) (rest : List Piece)
      → m.table ≡ entries T → value_count vs ≡ length names → WellFormedValues m.table vs
      → teller_after (teller e T (owners_in_values T vs os) (parts_cue L (value_parts names parts) ∷ gs)) (cut_values d m vs rest)
      ≡ teller_after (teller e (known_values T vs) os (parts_cue L parts ∷ gs)) rest
  ends_values no_values [] parts d m e L T os gs rest q n h = refl
  ends_values no_values (name ∷ names) parts d m e L T os gs rest q n h = absurd (omega (arith, n))
  ends_values (value_and v vs) [] parts d m e L T os gs rest q n h = absurd (omega (arith, n))
  ends_values (value_and v vs) (name ∷ names) parts d m e L T os gs rest q n h =
      let T1 = known_value T v in
      (ends_value v (suc d) m e (suc L) T (owners_in_values T1 vs os) (parts_cue L (value_parts names parts) ∷ gs) (cut_values d (past_value m v) vs rest) q h.0
      ∙ (ends_values vs names parts d (past_value m v) e L T1 os gs rest (then_value v T m.table q) (omega (arith, n)) h.1))

  ends_external : (ss : SectionTrees) (own : NamedLayer) (d : ℕ) (m : Moment) (e : Epoch) (L : ℕ) (T : Known) (os : List OwnerNode) (gs : List Cue) (rest : List Piece)
      → m.table ≡ entries T → WellFormedExternal m.table ss
      → teller_after (teller e T (owners_in_sections T ss os) (parts_cue L (external_part own ∷ note_part ∷ []) ∷ gs)) (cut_external d m ss rest)
      ≡ teller_after (teller e (known_sections T ss) os gs) rest
  ends_external (section_and (section [] no_values (annotation notes)) no_sections) own d m e L T os gs rest q h =
      let pieces = cut_annotation d m notes rest in
      external_first pieces own (note_part ∷ []) e L T (owners_in_annotation T notes os) gs
      ∙ (note_first pieces [] e L T (owners_in_annotation T notes os) gs
      ∙ ends_annotation notes d m e (suc L) T os (parts_cue L [] ∷ gs) rest q h
      ∙ (parts_done rest e L (known_contents T notes) os gs))
  ends_external _ own d m e L T os gs rest q h = absurd h

  ends_sections : (ss : SectionTrees) (chain : List NamedLayer) (d : ℕ) (m : Moment) (e : Epoch) (L : ℕ) (T : Known) (os : List OwnerNode) (gs : List Cue) (rest : List Piece)
      → m.table ≡ entries T → WellFormedSections m.table ss (layers_of chain)
      → teller_after (teller e T (owners_in_sections T ss os) (parts_cue L (section_parts chain) ∷ gs)) (cut_sections d m (layers_of chain) ss rest)
      ≡ teller_after (teller e (known_sections T ss) os gs) rest
  ends_sections no_sections [] d m e L T os gs rest q h = parts_done rest e L T os gs
  ends_sections no_sections (l ∷ ls) d m e L T os gs rest q h = absurd h
  ends_sections (section_and x ss) [] d m e L T os gs rest q h = absurd h
  ends_sections (section_and (section ps vs n) ss) (class_layer name flags fields ∷ ls) d m e L T os gs rest q h =
      let after = cut_sections d (past_notes (past_values m vs) n) (layers_of ls) ss rest in
      let T1 = known_values T vs in
      let T2 = known_notes T1 n in
      let q1 = then_values vs T m.table q in
      let q2 = then_notes n T1 (past_values m vs).table q1 in
      let os2 = owners_in_sections T2 ss os in
      let os1 = owners_in_notes T1 n os2 in
      let annotated_parts = note_if (has_write_method flags) (section_parts ls) in
      let valued_parts = value_parts (object_names fields) annotated_parts in
      let pieces = cut_values d m vs (cut_notes d (past_values m vs) n after) in
      data_first (cut_prims d m (primitive_codes (codes_in fields)) ps pieces) (class_layer name flags fields) (raw_parts (prim_fields fields) valued_parts) e L T (owners_in_values T vs os1) gs
      ∙ (ends_prims fields ps valued_parts d m e L T (owners_in_values T vs os1) gs pieces h.0
      ∙ (ends_values vs (object_names fields) annotated_parts d m e L T os1 gs (cut_notes d (past_values m vs) n after) q (h.1 ∙ object_names_count fields) h.2
      ∙ (ends_notes n (has_write_method flags) (section_parts ls) d (past_values m vs) e L T1 os2 gs after q1 h.3
      ∙ (ends_sections ss ls d (past_notes (past_values m vs) n) e L T2 os gs rest q2 h.4))))
  ends_sections (section_and (section ps vs n) ss) (proxy_layer ∷ ls) d m e L T os gs rest q h =
      let after = cut_sections d (past_notes (past_values m vs) n) (layers_of ls) ss rest in
      let T1 = known_values T vs in
      let T2 = known_notes T1 n in
      let q1 = then_values vs T m.table q in
      let q2 = then_notes n T1 (past_values m vs).table q1 in
      let os2 = owners_in_sections T2 ss os in
      let os1 = owners_in_notes T1 n os2 in
      let annotated_parts = note_if false (section_parts ls) in
      let valued_parts = value_parts (object_names []) annotated_parts in
      let pieces = cut_values d m vs (cut_notes d (past_values m vs) n after) in
      data_first (cut_prims d m (primitive_codes []) ps pieces) proxy_layer (raw_parts (prim_fields []) valued_parts) e L T (owners_in_values T vs os1) gs
      ∙ (ends_prims [] ps valued_parts d m e L T (owners_in_values T vs os1) gs pieces h.0
      ∙ (ends_values vs (object_names []) annotated_parts d m e L T os1 gs (cut_notes d (past_values m vs) n after) q (h.1 ∙ object_names_count []) h.2
      ∙ (ends_notes n false (section_parts ls) d (past_values m vs) e L T1 os2 gs after q1 h.3
      ∙ (ends_sections ss ls d (past_notes (past_values m vs) n) e L T2 os gs rest q2 h.4))))

  ends_notes : (n : NotesTree) (expected : Bool) (parts : List SectionPart) (d : ℕ) (m : Moment) (e : Epoch) (L : ℕ) (T : Known) (os : List OwnerNode) (gs : List Cue) (rest : List Piece)
      → m.table ≡ entries T → WellFormedNotesIf m.table n expected
      → teller_after (teller e T (owners_in_notes T n os) (parts_cue L (note_if expected parts) ∷ gs)) (cut_notes d m n rest)
      ≡ teller_after (teller e (known_notes T n) os (parts_cue L parts ∷ gs)) rest
  ends_notes no_notes false parts d m e L T os gs rest q h = refl
  ends_notes no_notes true parts d m e L T os gs rest q h = absurd (true≢false h)
  ends_notes (annotation notes) true parts d m e L T os gs rest q h =
      note_first (cut_annotation d m notes rest) parts e L T (owners_in_annotation T notes os) gs ∙ ends_annotation notes d m e (suc L) T os (parts_cue L parts ∷ gs) rest q h.1
  ends_notes (annotation notes) false parts d m e L T os gs rest q h = untrue h.0

  ends_annotation : (cs : ContentTrees) (d : ℕ) (m : Moment) (e : Epoch) (L : ℕ) (T : Known) (os : List OwnerNode) (gs : List Cue) (rest : List Piece)
      → m.table ≡ entries T → WellFormedNotes m.table cs
      → teller_after (teller e T (owners_in_annotation T cs os) (note_cue L ∷ gs)) (cut_annotation d m cs rest) ≡ teller_after (teller e (known_contents T cs) os gs) rest
  ends_annotation no_contents d m e L T os gs rest q h = refl
  ends_annotation (content_and (block long bytes) cs) d m e L T os gs rest q h =
      (ends_block bytes long d m e T (owners_in_annotation T cs os) (note_cue L ∷ gs) (cut_annotation d m cs rest)
      ∙ (ends_annotation cs d m e L T os gs rest q h.1))
  ends_annotation (content_and reset cs) d m e L T os gs rest q h = absurd h
  ends_annotation (content_and (content v) cs) d m e L T os gs rest q h =
      let T1 = known_value T v in
      (ends_value v (suc d) m e L T (owners_in_annotation T1 cs os) (note_cue L ∷ gs) (cut_annotation d (past_value m v) cs rest) q h.0
      ∙ (ends_annotation cs d (past_value m v) e L T1 os gs rest (then_value v T m.table q) h.1))

ends_top : (cs : ContentTrees) (m : Moment) (e : Epoch) (T : Known) → m.table ≡ entries T → WellFormedContents m.table cs
    → teller_after (teller e T (owners_at_top T cs) (top_cue ∷ [])) (cut_top m cs []) ≡ teller (last_epoch e cs) (last_known T cs) [] (top_cue ∷ [])
ends_top no_contents m e T q h = refl
ends_top (content_and (block long bytes) cs) m e T q h =
    (ends_block bytes long 0 m e T (owners_at_top T cs) (top_cue ∷ []) (cut_top m cs [])
    ∙ (ends_top cs m e T q h.1))
ends_top (content_and reset cs) m e T q h = (ends_top cs (emptied m) (next_epoch e) [] refl h)
ends_top (content_and (content v) cs) m e T q h =
    ends_value v 1 m e 0 T (owners_at_top (known_value T v) cs) (top_cue ∷ []) (cut_top (past_value m v) cs []) q h.0
    ∙ (ends_top cs (past_value m v) e (known_value T v) (then_value v T m.table q) h.1)

-- teller_after the tokens of a list that obeys the format the teller is at the top, knows what the list leaves, and has used all that was given
pub ends_there_law : EndsThere
ends_there_law values list h = ends_top list beginning (first_epoch values) [] refl h
