-- The bytes of a tree, by the layouts of the grammar alone (Java Object Serialization Specification, sections
-- 6.4.1, "Rules of the Grammar", and 6.4.2, "Terminal Symbols and Constants"): each rule is its tag and the bytes
-- of its parts, one after another; a newHandle takes no bytes. No table occurs here. Numbers and texts are those
-- of `java.io.DataOutput`.
use Rattle.std.specs.Prelude.{ℕ, ◌+◌, Bool, true, false, List, [], ◌∷◌, ◌++◌, length, Option, Some, None}
use Rattle.jser_prim.specs.Bytes.{big_bytes}
use Rattle.jser_prim.specs.ModifiedUtf8.{modified_utf8}
use Rattle.jser_grammar.specs.Codes.{size_of}
use Rattle.jser_grammar.specs.Trees.{TextPlaceTree, new_text, back_text, FieldTree, PrimTree, ValueTree, null, back, string, descriptor, class_object, array, enum_constant, object, DescTree, plain, proxy, ClassPlaceTree, no_class, back_class, new_class, BodyTree, raw_body, value_body, ValueTrees, no_values, value_and, value_count, section, SectionTrees, no_sections, section_and, NotesTree, no_notes, annotation, ContentTree, block, reset, content, ContentTrees, no_contents, content_and}
use Rattle.jser_grammar.specs.Wire.{TC_NULL, TC_REFERENCE, TC_CLASSDESC, TC_OBJECT, TC_STRING, TC_ARRAY, TC_CLASS, TC_BLOCKDATA, TC_ENDBLOCKDATA, TC_RESET, TC_BLOCKDATALONG, TC_LONGSTRING, TC_PROXYCLASSDESC, TC_ENUM, BASE_WIRE_HANDLE, stream_header}

-- (utf): the length of the modified UTF-8 in 2 bytes, and the modified UTF-8
abbrev pub utf : List ℕ → List ℕ
utf units = big_bytes 2 (length (modified_utf8 units)) ++ modified_utf8 units

-- (long-utf): the same with a length of 8 bytes
abbrev pub long_utf : List ℕ → List ℕ
long_utf units = big_bytes 8 (length (modified_utf8 units)) ++ modified_utf8 units

-- prevObject: TC_REFERENCE (int)handle
abbrev pub reference : ℕ → List ℕ
reference n = TC_REFERENCE ∷ big_bytes 4 (BASE_WIRE_HANDLE + n)

-- newString: TC_STRING newHandle (utf) | TC_LONGSTRING newHandle (long-utf)
abbrev pub string_spelling : Bool → List ℕ → List ℕ
string_spelling false units = TC_STRING ∷ utf units
string_spelling true units = TC_LONGSTRING ∷ long_utf units

abbrev pub text_place_spelling : TextPlaceTree → List ℕ
text_place_spelling (new_text t) = string_spelling t.long t.units
text_place_spelling (back_text n) = reference n

-- className1 of a field, where there is one
abbrev pub type_spelling : Option TextPlaceTree → List ℕ
type_spelling None = []
type_spelling (Some t) = text_place_spelling t

-- primitiveDesc: prim_typecode fieldName; objectDesc: obj_typecode fieldName className1
abbrev pub fields_spelling : List FieldTree → List ℕ
fields_spelling [] = []
fields_spelling (f ∷ fs) = f.code ∷ (utf f.name ++ (type_spelling f.text ++ fields_spelling fs))

-- proxyInterfaceName: (utf)
abbrev pub interfaces_spelling : List (List ℕ) → List ℕ
interfaces_spelling [] = []
interfaces_spelling (name ∷ names) = utf name ++ interfaces_spelling names

-- a primitive value: as many bytes as its type has
abbrev pub prim_spelling : PrimTree → List ℕ
prim_spelling p = big_bytes (size_of p.code) p.bits

abbrev pub prims_spelling : List PrimTree → List ℕ
prims_spelling [] = []
prims_spelling (p ∷ ps) = prim_spelling p ++ prims_spelling ps

-- blockdatashort: TC_BLOCKDATA (unsigned byte)size; blockdatalong: TC_BLOCKDATALONG (int)size
abbrev pub block_head : Bool → ℕ → List ℕ
block_head false size = TC_BLOCKDATA ∷ big_bytes 1 size
block_head true size = TC_BLOCKDATALONG ∷ big_bytes 4 size

abbrev mutual
  pub value_spelling : ValueTree → List ℕ
  value_spelling null = TC_NULL ∷ []
  value_spelling (back n) = reference n
  value_spelling (string t) = string_spelling t.long t.units
  value_spelling (descriptor d) = desc_spelling d
  value_spelling (class_object c) = TC_CLASS ∷ class_spelling c
  value_spelling (array c b) = TC_ARRAY ∷ (class_spelling c ++ body_spelling b)
  value_spelling (enum_constant c t) = TC_ENUM ∷ (class_spelling c ++ text_place_spelling t)
  value_spelling (object c ss) = TC_OBJECT ∷ (class_spelling c ++ sections_spelling ss)

  -- TC_CLASSDESC className serialVersionUID newHandle classDescFlags fields classAnnotation superClassDesc
  -- TC_PROXYCLASSDESC newHandle (int)count proxyInterfaceName[count] classAnnotation superClassDesc
  pub desc_spelling : DescTree → List ℕ
  desc_spelling (plain name suid flags fields notes parent) =
      TC_CLASSDESC ∷ (utf name ++ (big_bytes 8 suid ++ (flags ∷ (big_bytes 2 (length fields) ++ (fields_spelling fields
      ++ (annotation_spelling notes ++ class_spelling parent))))))
  desc_spelling (proxy interfaces notes parent) =
      TC_PROXYCLASSDESC ∷ (big_bytes 4 (length interfaces) ++ (interfaces_spelling interfaces
      ++ (annotation_spelling notes ++ class_spelling parent)))

  pub class_spelling : ClassPlaceTree → List ℕ
  class_spelling no_class = TC_NULL ∷ []
  class_spelling (back_class n) = reference n
  class_spelling (new_class d) = desc_spelling d

  -- (int)size values[size]
  pub body_spelling : BodyTree → List ℕ
  body_spelling (raw_body ps) = big_bytes 4 (length ps) ++ prims_spelling ps
  body_spelling (value_body vs) = big_bytes 4 (value_count vs) ++ values_spelling vs

  pub values_spelling : ValueTrees → List ℕ
  values_spelling no_values = []
  values_spelling (value_and v vs) = value_spelling v ++ values_spelling vs

  pub sections_spelling : SectionTrees → List ℕ
  sections_spelling no_sections = []
  sections_spelling (section_and (section ps vs n) ss) =
      prims_spelling ps ++ (values_spelling vs ++ (notes_spelling n ++ sections_spelling ss))

  pub notes_spelling : NotesTree → List ℕ
  notes_spelling no_notes = []
  notes_spelling (annotation cs) = annotation_spelling cs

  -- the contents of an annotation and its endBlockData
  pub annotation_spelling : ContentTrees → List ℕ
  annotation_spelling no_contents = TC_ENDBLOCKDATA ∷ []
  annotation_spelling (content_and c cs) = content_spelling c ++ annotation_spelling cs

  pub content_spelling : ContentTree → List ℕ
  content_spelling (block long bytes) = block_head long (length bytes) ++ bytes
  content_spelling reset = TC_RESET ∷ []
  content_spelling (content v) = value_spelling v

abbrev pub contents_spelling : ContentTrees → List ℕ
contents_spelling no_contents = []
contents_spelling (content_and c cs) = content_spelling c ++ contents_spelling cs

-- stream: magic version contents
abbrev pub spelling : ContentTrees → List ℕ
spelling cs = stream_header ++ contents_spelling cs
