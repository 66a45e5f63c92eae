-- The spelling of a content list cut into its tokens, each with its label. Each function puts the tokens of its
-- tree before `rest`, the tokens that come after. `d` is the depth of a value, of a superclass place and of the
-- place in which a class, a list or an annotation stands.
use Rattle.std.specs.Prelude.{ℕ, suc, ◌||◌, Bool, true, false, if◌then◌else◌, List, [], ◌∷◌, length, Option, Some, None}
use Rattle.jser_table.specs.declared.layer.Layer.{Layer}
use Rattle.jser_table.specs.Entries.{text_entry, other_entry, pending_entry}
use Rattle.jser_grammar.specs.Codes.{PrimCode, is_object_code, primitive_codes}
use Rattle.jser_grammar.specs.Trees.{TextPlaceTree, new_text, back_text, FieldTree, PrimTree, ValueTree, null, back, string, descriptor, class_object, array, enum_constant, object, DescTree, plain, proxy, ClassPlaceTree, no_class, back_class, new_class, BodyTree, raw_body, value_body, ValueTrees, no_values, value_and, section, SectionTrees, no_sections, section_and, NotesTree, no_notes, annotation, block, reset, content, ContentTrees, no_contents, content_and}
use Rattle.jser_grammar.specs.TableAfter.{chain_of_class}
use Rattle.jser_grammar.specs.Parts.{elements_of, is_external}
use Rattle.jser_grammar.specs.Counts.{array_length}
use Rattle.jser_reading.specs.Roles.{Owner, object_owner, array_owner, enum_owner, class_owner, ChainOwner, Role, own_class, superclass, owner_of, is_strict_above}
use Rattle.jser_reading.specs.Moments.{Moment, beginning, tick, assign, emptied, past_type, past_fields, past_value, past_class, past_values, past_notes, past_contents}
use Rattle.jser_reading.specs.Labels.{Tag, null_tag, reference_tag, class_desc_tag, object_tag, string_tag, array_tag, class_tag, long_string_tag, proxy_desc_tag, enum_tag, header_token, tag_token, block_tag_token, end_tag_token, reset_tag_token, handle_token, suid_token, flags_token, field_count_token, interface_count_token, array_length_token, code_token, text_token, block_length_token, prims_token, bytes_token, header_at, top_at, annotation_at, value_at, text_place_at, class_place_at, superclass_place_at, back_handle_at, text_handle_at, class_handle_at, superclass_handle_at, string_at, class_name_at, field_name_at, interface_name_at, suid_at, field_count_at, interface_count_at, array_length_at, flags_at, type_code_at, block_length_at, raw_at, bytes_at, Piece, at}

abbrev pub tag_of_string : Bool → Tag
tag_of_string false = string_tag
tag_of_string true = long_string_tag

abbrev pub tag_of_desc : DescTree → Tag
tag_of_desc (plain name suid flags fields notes parent) = class_desc_tag
tag_of_desc (proxy interfaces notes parent) = proxy_desc_tag

abbrev pub tag_of : ValueTree → Tag
tag_of null = null_tag
tag_of (back n) = reference_tag
tag_of (string t) = tag_of_string t.long
tag_of (descriptor d) = tag_of_desc d
tag_of (class_object c) = class_tag
tag_of (array c b) = array_tag
tag_of (enum_constant c t) = enum_tag
tag_of (object c ss) = object_tag

abbrev pub cut_text_place : ℕ → Moment → TextPlaceTree → List Piece → List Piece
cut_text_place d m (new_text t) rest =
    at text_place_at d m (tag_token (tag_of_string t.long))
    ∷ at (string_at t.long) d (assign m text_entry) (text_token t.long t.units) ∷ rest
cut_text_place d m (back_text n) rest =
    at text_place_at d m (tag_token reference_tag) ∷ at text_handle_at d m (handle_token n) ∷ rest

abbrev pub cut_type : ℕ → Moment → Option TextPlaceTree → List Piece → List Piece
cut_type d m None rest = rest
cut_type d m (Some t) rest = cut_text_place d m t rest

abbrev pub cut_fields : ℕ → Bool → Moment → List FieldTree → List Piece → List Piece
cut_fields d seen m [] rest = rest
cut_fields d seen m (f ∷ fs) rest =
    at (type_code_at seen) d m (code_token f.code) ∷ at field_name_at d m (text_token false f.name)
    ∷ cut_type d m f.text (cut_fields d (seen || is_object_code f.code) (past_type m f.text) fs rest)

abbrev pub cut_interfaces : ℕ → Moment → List (List ℕ) → List Piece → List Piece
cut_interfaces d m [] rest = rest
cut_interfaces d m (name ∷ names) rest =
    at interface_name_at d m (text_token false name) ∷ cut_interfaces d m names rest

-- raw bytes and raw values are no token where there are none

abbrev pub cut_bytes : ℕ → Moment → List ℕ → List Piece → List Piece
cut_bytes d m [] rest = rest
cut_bytes d m (b ∷ bs) rest = at (bytes_at (suc (length bs))) d m (bytes_token (b ∷ bs)) ∷ rest

-- the whole body of a primitive array is one token
abbrev pub cut_raw : ℕ → Moment → Option PrimCode → List PrimTree → List Piece → List Piece
cut_raw d m None ps rest = rest
cut_raw d m (Some c) [] rest = rest
cut_raw d m (Some c) (p ∷ ps) rest = at (raw_at c (suc (length ps))) d m (prims_token (p ∷ ps)) ∷ rest

-- each primitive field value of an object is a token
abbrev pub cut_prims : ℕ → Moment → List PrimCode → List PrimTree → List Piece → List Piece
cut_prims d m [] ps rest = rest
cut_prims d m (c ∷ cs) [] rest = rest
cut_prims d m (c ∷ cs) (p ∷ ps) rest = at (raw_at c 1) d m (prims_token (p ∷ [])) ∷ cut_prims d m cs ps rest

abbrev mutual
  -- a value behind its tag
  pub cut_value : ℕ → Moment → ValueTree → List Piece → List Piece
  cut_value d m null rest = rest
  cut_value d m (back n) rest = at back_handle_at d (tick m) (handle_token n) ∷ rest
  cut_value d m (string t) rest =
      at (string_at t.long) d (assign (tick m) text_entry) (text_token t.long t.units) ∷ rest
  cut_value d m (descriptor x) rest = cut_desc (own_class None) d (tick m) x rest
  cut_value d m (class_object c) rest = cut_class class_owner d (tick m) c rest
  cut_value d m (array c b) rest =
      let made = assign (past_class (tick m) c) other_entry in
      cut_class array_owner d (tick m) c
      (at array_length_at d made (array_length_token (array_length b))
      ∷ cut_body d made (elements_of (chain_of_class m.table c)) b rest)
  cut_value d m (enum_constant c t) rest =
      cut_class enum_owner d (tick m) c (cut_text_place d (assign (past_class (tick m) c) other_entry) t rest)
  cut_value d m (object c ss) rest =
      let made = assign (past_class (tick m) c) other_entry in
      let chain = chain_of_class m.table c in
      cut_class object_owner d (tick m) c
      (if is_external chain then cut_external d made ss rest else cut_sections d made chain ss rest)

  -- a descriptor behind its tag
  pub cut_desc : Role → ℕ → Moment → DescTree → List Piece → List Piece
  cut_desc role d m (plain name suid flags fields notes parent) rest =
      let opened = assign m pending_entry in
      let behind_fields = past_fields opened fields in
      at (class_name_at role) d m (text_token false name) ∷ at suid_at d m (suid_token suid)
      ∷ at (flags_at role) d opened (flags_token flags) ∷ at field_count_at d opened (field_count_token (length fields))
      ∷ cut_fields d false opened fields
      (cut_annotation d behind_fields notes
      (cut_superclass (owner_of role) (is_strict_above role flags) (suc d)
      (past_contents behind_fields notes) parent rest))
  cut_desc role d m (proxy interfaces notes parent) rest =
      let opened = assign m pending_entry in
      at interface_count_at d opened (interface_count_token (length interfaces))
      ∷ cut_interfaces d opened interfaces
      (cut_annotation d opened notes
      (cut_superclass (owner_of role) (is_strict_above role 0) (suc d) (past_contents opened notes) parent rest))

  pub cut_class : Owner → ℕ → Moment → ClassPlaceTree → List Piece → List Piece
  cut_class owner d m no_class rest = rest
  cut_class owner d m (back_class n) rest =
      at (class_place_at owner) d m (tag_token reference_tag) ∷ at (class_handle_at owner) d m (handle_token n) ∷ rest
  cut_class owner d m (new_class x) rest =
      at (class_place_at owner) d m (tag_token (tag_of_desc x)) ∷ cut_desc (own_class (Some owner)) d m x rest

  pub cut_superclass : ChainOwner → Bool → ℕ → Moment → ClassPlaceTree → List Piece → List Piece
  cut_superclass owner strict d m no_class rest = at (superclass_place_at owner strict) d m (tag_token null_tag) ∷ rest
  cut_superclass owner strict d m (back_class n) rest =
      at (superclass_place_at owner strict) d m (tag_token reference_tag)
      ∷ at (superclass_handle_at owner strict) d (tick m) (handle_token n) ∷ rest
  cut_superclass owner strict d m (new_class x) rest =
      at (superclass_place_at owner strict) d m (tag_token (tag_of_desc x))
      ∷ cut_desc (superclass owner strict) d (tick m) x rest

  pub cut_body : ℕ → Moment → Option PrimCode → BodyTree → List Piece → List Piece
  cut_body d m elements (raw_body ps) rest = cut_raw d m elements ps rest
  cut_body d m elements (value_body vs) rest = cut_values d m vs rest

  pub cut_values : ℕ → Moment → ValueTrees → List Piece → List Piece
  cut_values d m no_values rest = rest
  cut_values d m (value_and v vs) rest =
      at value_at (suc d) m (tag_token (tag_of v)) ∷ cut_value (suc d) m v (cut_values d (past_value m v) vs rest)

  pub cut_external : ℕ → Moment → SectionTrees → List Piece → List Piece
  cut_external d m no_sections rest = rest
  cut_external d m (section_and (section ps vs n) ss) rest = cut_notes d m n rest

  pub cut_sections : ℕ → Moment → List Layer → SectionTrees → List Piece → List Piece
  cut_sections d m chain no_sections rest = rest
  cut_sections d m [] (section_and s ss) rest = rest
  cut_sections d m (l ∷ ls) (section_and (section ps vs n) ss) rest =
      cut_prims d m (primitive_codes l.codes) ps
      (cut_values d m vs (cut_notes d (past_values m vs) n
      (cut_sections d (past_notes (past_values m vs) n) ls ss rest)))

  pub cut_notes : ℕ → Moment → NotesTree → List Piece → List Piece
  cut_notes d m no_notes rest = rest
  cut_notes d m (annotation cs) rest = cut_annotation d m cs rest

  -- the contents of an annotation and its end
  pub cut_annotation : ℕ → Moment → ContentTrees → List Piece → List Piece
  cut_annotation d m no_contents rest = at annotation_at (suc d) m end_tag_token ∷ rest
  cut_annotation d m (content_and (block long bytes) cs) rest =
      at annotation_at (suc d) m (block_tag_token long)
      ∷ at (block_length_at long) d m (block_length_token long (length bytes))
      ∷ cut_bytes d m bytes (cut_annotation d m cs rest)
  cut_annotation d m (content_and reset cs) rest = cut_annotation d m cs rest
  cut_annotation d m (content_and (content v) cs) rest =
      at annotation_at (suc d) m (tag_token (tag_of v))
      ∷ cut_value (suc d) m v (cut_annotation d (past_value m v) cs rest)

abbrev pub cut_top : Moment → ContentTrees → List Piece → List Piece
cut_top m no_contents rest = rest
cut_top m (content_and (block long bytes) cs) rest =
    at top_at 1 m (block_tag_token long) ∷ at (block_length_at long) 0 m (block_length_token long (length bytes))
    ∷ cut_bytes 0 m bytes (cut_top m cs rest)
cut_top m (content_and reset cs) rest = at top_at 1 m reset_tag_token ∷ cut_top (emptied m) cs rest
cut_top m (content_and (content v) cs) rest =
    at top_at 1 m (tag_token (tag_of v)) ∷ cut_value 1 m v (cut_top (past_value m v) cs rest)

-- the tokens of a stream with these contents
abbrev pub tokens_of : ContentTrees → List Piece
tokens_of list = at header_at 0 beginning header_token ∷ cut_top beginning list []
