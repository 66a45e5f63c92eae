-- The text of show, by cases on the tree; the table in this crate's README says the same in words. Each function puts
-- the lines of its tree before `rest`, what follows. `e` is the epoch, `L` the level of a line, `T` what is known of
-- the handles when the tree begins. Before a value stands what its place says (`note `, a field's name ..); its line
-- goes on with the value's own words.
use Rattle.std.specs.Prelude.{ℕ, suc, Bool, if◌then◌else◌, List, [], ◌∷◌, ◌++◌, length, codes, Option, Some, None}
use Rattle.std.specs.Fmt.{decimal}
use Rattle.hex.specs.Hex.{encode_lower}
use Rattle.jser_prim.specs.Bytes.{big_bytes}
use Rattle.jser_grammar.specs.Trees.{TextTree, TextPlaceTree, new_text, back_text, FieldTree, PrimTree, ValueTree, null, back, string, descriptor, class_object, array, enum_constant, object, DescTree, plain, proxy, ClassPlaceTree, no_class, back_class, new_class, BodyTree, raw_body, value_body, ValueTrees, no_values, value_and, section, SectionTrees, no_sections, section_and, NotesTree, no_notes, annotation, block, reset, content, ContentTrees, no_contents, content_and}
use Rattle.jser_grammar.specs.Spelling.{prim_spelling}
use Rattle.jser_grammar.specs.Counts.{array_length}
use Rattle.jser_shown.specs.Known.{NamedField, NamedLayer, class_layer, proxy_layer, known_other, known_pending, Known, with_entry, known_type, known_fields, known_value, known_class_place, known_values, known_notes, known_contents, classes_of, prim_fields, object_names, fields_in, own_class_of, is_external_chain}
use Rattle.jser_shown.specs.Values.{value_word}
use Rattle.jser_shown.specs.Words.{Epoch, first_epoch, next_epoch, end_line, begin_line, mark, quoted, block_bytes, block_word, text_word}

-- lines of references and strings
abbrev pub reference_text : Epoch → ℕ → List ℕ → List ℕ
reference_text e n rest = codes "ref " ++ mark e.number n (end_line rest)

abbrev pub string_text : Epoch → ℕ → TextTree → List ℕ → List ℕ
string_text e n t rest = text_word t.long (mark e.number n (0x20 ∷ quoted t.units (end_line rest)))

abbrev pub text_place_text : Epoch → Known → TextPlaceTree → List ℕ → List ℕ
text_place_text e T (new_text t) rest = string_text e (length T) t rest
text_place_text e T (back_text n) rest = reference_text e n rest

-- ` type ` and the line of the type, where there is one
abbrev pub type_text : Epoch → Known → Option TextPlaceTree → List ℕ → List ℕ
type_text e T None rest = end_line rest
type_text e T (Some t) rest = codes " type " ++ text_place_text e T t rest

abbrev pub fields_text : Epoch → ℕ → Known → List FieldTree → List ℕ → List ℕ
fields_text e L T [] rest = rest
fields_text e L T (f ∷ fs) rest =
    begin_line L (codes "field " ++ (f.code ∷ 0x20 ∷ quoted f.name
    (type_text e T f.text (fields_text e L (known_type T f.text) fs rest))))

abbrev pub interfaces_text : ℕ → List (List ℕ) → List ℕ → List ℕ
interfaces_text L [] rest = rest
interfaces_text L (name ∷ names) rest =
    begin_line L (codes "interface " ++ quoted name (end_line (interfaces_text L names rest)))

abbrev pub block_text : Bool → List ℕ → List ℕ → List ℕ
block_text long bytes rest = block_word long (decimal (length bytes) ++ (0x3A ∷ block_bytes bytes rest))

-- the name of a field, or the index of an element
pub data ValueName : Type 0 where
  field_named : List ℕ → ValueName
  element_at : ℕ → ValueName

abbrev pub name_text : ValueName → List ℕ → List ℕ
name_text (field_named name) rest = quoted name (codes " = " ++ rest)
name_text (element_at i) rest = 0x5B ∷ (decimal i ++ (0x5D ∷ 0x20 ∷ rest))

-- the line of a raw value, with what it means where that is told
abbrev pub raw_text : Epoch → ℕ → ValueName → PrimTree → List ℕ → List ℕ
raw_text e L name p rest =
    begin_line L (name_text name (encode_lower (prim_spelling p) ++ value_word e.values p.code p.bits (end_line rest)))

abbrev pub prims_text : Epoch → ℕ → List NamedField → List PrimTree → List ℕ → List ℕ
prims_text e L (f ∷ fs) (p ∷ ps) rest = raw_text e L (field_named f.name) p (prims_text e L fs ps rest)
prims_text e L fs ps rest = rest

abbrev pub raw_elements_text : Epoch → ℕ → ℕ → List PrimTree → List ℕ → List ℕ
raw_elements_text e L i [] rest = rest
raw_elements_text e L i (p ∷ ps) rest = raw_text e L (element_at i) p (raw_elements_text e L (suc i) ps rest)

-- the line that opens a section
abbrev pub data_text : NamedLayer → List ℕ → List ℕ
data_text (class_layer name flags fields) rest = codes "data " ++ quoted name (end_line rest)
data_text proxy_layer rest = codes "data proxy" ++ end_line rest

abbrev pub external_text : NamedLayer → List ℕ → List ℕ
external_text (class_layer name flags fields) rest = codes "external " ++ quoted name (end_line rest)
external_text proxy_layer rest = codes "external proxy" ++ end_line rest

abbrev mutual
  pub value_text : Epoch → ℕ → Known → ValueTree → List ℕ → List ℕ
  value_text e L T null rest = codes "null" ++ end_line rest
  value_text e L T (back n) rest = reference_text e n rest
  value_text e L T (string t) rest = string_text e (length T) t rest
  value_text e L T (descriptor d) rest = desc_text e L T d rest
  value_text e L T (class_object c) rest =
      codes "classobject " ++ mark e.number (length (known_class_place T c)) (end_line (class_text e (suc L) T c rest))
  value_text e L T (array c b) rest =
      codes "array " ++ mark e.number (length (known_class_place T c))
      (codes " length " ++ (decimal (array_length b) ++ end_line (class_text e (suc L) T c
      (body_text e (suc L) (with_entry (known_class_place T c) known_other) b rest))))
  value_text e L T (enum_constant c t) rest =
      codes "enum " ++ mark e.number (length (known_class_place T c)) (end_line (class_text e (suc L) T c
      (begin_line (suc L)
      (codes "name " ++ text_place_text e (with_entry (known_class_place T c) known_other) t rest))))
  value_text e L T (object c ss) rest =
      let chain = classes_of T c in
      let made = with_entry (known_class_place T c) known_other in
      codes "object " ++ mark e.number (length (known_class_place T c)) (end_line (class_text e (suc L) T c
      (if is_external_chain chain
      then begin_line (suc L) (external_text (own_class_of chain) (external_notes_text e (suc (suc L)) made ss rest))
      else sections_text e (suc L) made chain ss rest)))

  pub desc_text : Epoch → ℕ → Known → DescTree → List ℕ → List ℕ
  desc_text e L T (plain name suid flags fields notes parent) rest =
      let opened = with_entry T known_pending in
      let after_fields = known_fields opened fields in
      codes "desc " ++ mark e.number (length T) (0x20 ∷ quoted name (codes " suid " ++ (encode_lower (big_bytes 8 suid)
      ++ (codes " flags " ++ (encode_lower (flags ∷ []) ++ end_line (fields_text e (suc L) opened fields
      (annotation_text e (suc L) after_fields notes
      (super_text e (suc L) (known_contents after_fields notes) parent rest))))))))
  desc_text e L T (proxy interfaces notes parent) rest =
      let opened = with_entry T known_pending in
      codes "proxy " ++ mark e.number (length T) (end_line (interfaces_text (suc L) interfaces
      (annotation_text e (suc L) opened notes (super_text e (suc L) (known_contents opened notes) parent rest))))

  pub class_text : Epoch → ℕ → Known → ClassPlaceTree → List ℕ → List ℕ
  class_text e L T no_class rest = begin_line L (codes "class " ++ (codes "null" ++ end_line rest))
  class_text e L T (back_class n) rest = begin_line L (codes "class " ++ reference_text e n rest)
  class_text e L T (new_class d) rest = begin_line L (codes "class " ++ desc_text e L T d rest)

  pub super_text : Epoch → ℕ → Known → ClassPlaceTree → List ℕ → List ℕ
  super_text e L T no_class rest = begin_line L (codes "super " ++ (codes "null" ++ end_line rest))
  super_text e L T (back_class n) rest = begin_line L (codes "super " ++ reference_text e n rest)
  super_text e L T (new_class d) rest = begin_line L (codes "super " ++ desc_text e L T d rest)

  pub body_text : Epoch → ℕ → Known → BodyTree → List ℕ → List ℕ
  body_text e L T (raw_body ps) rest = raw_elements_text e L 0 ps rest
  body_text e L T (value_body vs) rest = elements_text e L T 0 vs rest

  pub elements_text : Epoch → ℕ → Known → ℕ → ValueTrees → List ℕ → List ℕ
  elements_text e L T i no_values rest = rest
  elements_text e L T i (value_and v vs) rest =
      begin_line L (name_text (element_at i) (value_text e L T v (elements_text e L (known_value T v) (suc i) vs rest)))

  pub values_text : Epoch → ℕ → Known → List (List ℕ) → ValueTrees → List ℕ → List ℕ
  values_text e L T names no_values rest = rest
  values_text e L T [] (value_and v vs) rest = rest
  values_text e L T (name ∷ names) (value_and v vs) rest =
      begin_line L (name_text (field_named name) (value_text e L T v (values_text e L (known_value T v) names vs rest)))

  pub external_notes_text : Epoch → ℕ → Known → SectionTrees → List ℕ → List ℕ
  external_notes_text e L T no_sections rest = rest
  external_notes_text e L T (section_and (section ps vs n) ss) rest = notes_text e L T n rest

  -- one section for each class of the chain, the highest superclass first
  pub sections_text : Epoch → ℕ → Known → List NamedLayer → SectionTrees → List ℕ → List ℕ
  sections_text e L T chain no_sections rest = rest
  sections_text e L T [] (section_and s ss) rest = rest
  sections_text e L T (l ∷ ls) (section_and (section ps vs n) ss) rest =
      begin_line L (data_text l (prims_text e (suc L) (prim_fields (fields_in l)) ps
      (values_text e (suc L) T (object_names (fields_in l)) vs (notes_text e (suc L) (known_values T vs) n
      (sections_text e L (known_notes (known_values T vs) n) ls ss rest)))))

  pub notes_text : Epoch → ℕ → Known → NotesTree → List ℕ → List ℕ
  notes_text e L T no_notes rest = rest
  notes_text e L T (annotation cs) rest = annotation_text e L T cs rest

  pub annotation_text : Epoch → ℕ → Known → ContentTrees → List ℕ → List ℕ
  annotation_text e L T no_contents rest = rest
  annotation_text e L T (content_and (block long bytes) cs) rest =
      begin_line L (codes "note " ++ block_text long bytes (annotation_text e L T cs rest))
  annotation_text e L T (content_and reset cs) rest = annotation_text e L T cs rest
  annotation_text e L T (content_and (content v) cs) rest =
      begin_line L (codes "note " ++ value_text e L T v (annotation_text e L (known_value T v) cs rest))

-- the contents at the top, of this epoch on
abbrev pub top_text : Epoch → Known → ContentTrees → List ℕ
top_text e T no_contents = []
top_text e T (content_and (block long bytes) cs) = block_text long bytes (top_text e T cs)
top_text e T (content_and reset cs) = codes "reset" ++ end_line (top_text (next_epoch e) [] cs)
top_text e T (content_and (content v) cs) = value_text e 0 T v (top_text e (known_value T v) cs)

-- the text of show, where `values` says whether raw values are followed by what they mean
abbrev pub shown : (values : Bool) → ContentTrees → List ℕ
shown values list = codes "stream version 5" ++ end_line (top_text (first_epoch values) [] list)
