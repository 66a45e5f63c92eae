-- From the bytes of a stream to the list that they spell, form by form. It is a function of the bytes alone: it tests
-- what it needs to go on, and leaves it to the reader whether the format is obeyed. `steps` bounds how many values and
-- descriptors stand within one another: each level of a tree takes two.
use Rattle.std.specs.Prelude.{ℕ, zero, suc, ◌-◌, ◌==◌, ◌&&◌, ◌||◌, Bool, true, false, nat_lt, nat_le, if◌then◌else◌, List, [], ◌∷◌, length, take, drop, slice_get, Option, Some, None}
use Rattle.std.specs.List.{list_all}
use Rattle.jser_prim.specs.ModifiedUtf8.{modified_utf8}
use Rattle.jser_table.specs.declared.layer.Layer.{Layer}
use Rattle.jser_table.specs.Chains.{has_write_method}
use Rattle.jser_table.specs.Entries.{pending_entry, other_entry, is_closed}
use Rattle.jser_grammar.specs.Codes.{PrimCode, size_of, prim_code_of, is_object_code, primitive_codes, object_count}
use Rattle.jser_grammar.specs.Trees.{TextPlaceTree, new_text, back_text, FieldTree, PrimTree, ValueTree, null, back, string, descriptor, class_object, array, enum_constant, object, DescTree, plain, proxy, ClassPlaceTree, no_class, back_class, new_class, BodyTree, raw_body, value_body, ValueTrees, no_values, value_and, SectionTree, SectionTrees, section, no_sections, section_and, NotesTree, no_notes, annotation, ContentTree, block, reset, content, ContentTrees, no_contents, content_and}
use Rattle.jser_grammar.specs.TableAfter.{Entries, add, after_fields, after_value, after_class, after_values, after_contents, chain_of_class}
use Rattle.jser_value.specs.Tests.{after_section, element_code}
use Rattle.jser_grammar.specs.Parts.{is_external}
use Rattle.jser_grammar.specs.Wire.{TC_NULL, TC_REFERENCE, TC_CLASSDESC, TC_OBJECT, TC_STRING, TC_ARRAY, TC_CLASS, TC_BLOCKDATA, TC_ENDBLOCKDATA, TC_RESET, TC_BLOCKDATALONG, TC_LONGSTRING, TC_PROXYCLASSDESC, TC_ENUM, BASE_WIRE_HANDLE}
use Rattle.jser_reading.specs.TokensFromBytes.{number_of, units_in, head_size}

infixl 10 ◌>>=◌
abbrev pub ◌>>=◌ : {A B : Type 0} → Option A → (A → Option B) → Option B
None >>= f = None
(Some x) >>= f = f x

-- what stands at the front of some bytes, and the bytes after it
abbrev pub Built : Type 0 → Type 0
Built X = Option (X × List ℕ)

-- ---- numbers and texts

unfoldable pub byte_in : List ℕ → Built ℕ
byte_in [] = None
byte_in (b ∷ bytes) = Some (b, bytes)

unfoldable pub front_in : ℕ → List ℕ → Built (List ℕ)
front_in n bytes = if nat_le n (length bytes) then Some (take n bytes, drop n bytes) else None

unfoldable pub number_in : ℕ → List ℕ → Built ℕ
number_in k bytes = do
  front ← front_in k bytes
  Some (number_of front.0, front.1)

abbrev pub is_same : List ℕ → List ℕ → Bool
is_same [] [] = true
is_same [] (y ∷ ys) = false
is_same (x ∷ xs) [] = false
is_same (x ∷ xs) (y ∷ ys) = x == y && is_same xs ys

-- the text with these bytes, if there is one
unfoldable pub units_from : List ℕ → Option (List ℕ)
units_from bytes =
    let units = units_in (length bytes) bytes in
    if list_all (λ unit. nat_lt unit 0x10000) units && is_same (modified_utf8 units) bytes then Some units else None

-- bytes, and a text, behind their number in so many bytes
unfoldable pub sized_front_in : ℕ → List ℕ → Built (List ℕ)
sized_front_in k bytes = do
  size ← number_in k bytes
  front_in size.0 size.1

unfoldable pub sized_text_in : ℕ → List ℕ → Built (List ℕ)
sized_text_in k bytes = do
  front ← sized_front_in k bytes
  units ← units_from front.0
  Some (units, front.1)

abbrev pub text_in : Bool → List ℕ → Built (List ℕ)
text_in long = sized_text_in (head_size long)

-- ---- parts

unfoldable pub back_in : List ℕ → Built ℕ
back_in bytes = do
  handle ← number_in 4 bytes
  (if nat_le BASE_WIRE_HANDLE handle.0 then Some (handle.0 - BASE_WIRE_HANDLE, handle.1) else None)

unfoldable pub new_text_in : Bool → List ℕ → Built TextPlaceTree
new_text_in long bytes = do
  units ← text_in long bytes
  Some (new_text (record { long = long; units = units.0 }), units.1)

abbrev pub back_text_in : List ℕ → Built TextPlaceTree
back_text_in bytes = do
  number ← back_in bytes
  Some (back_text number.0, number.1)

unfoldable pub text_place_in : List ℕ → Built TextPlaceTree
text_place_in [] = None
text_place_in (tag ∷ bytes) =
    if tag == TC_STRING then new_text_in false bytes
    else (if tag == TC_LONGSTRING then new_text_in true bytes else (if tag == TC_REFERENCE then back_text_in bytes else None))

-- the type of a field, which stands there where its code is `[` or `L`
unfoldable pub type_in : ℕ → List ℕ → Built (Option TextPlaceTree)
type_in code bytes =
    if is_object_code code then (text_place_in bytes >>= λ place. Some (Some place.0, place.1)) else Some (None, bytes)

-- so many parts, one after another
unfoldable pub many_in : {X : Type 0} → (List ℕ → Built X) → ℕ → List ℕ → Built (List X)
many_in read zero bytes = Some ([], bytes)
many_in read (suc n) bytes = do
  x ← read bytes
  others ← many_in read n x.1
  Some (x.0 ∷ others.0, others.1)

unfoldable pub field_in : List ℕ → Built FieldTree
field_in bytes = do
  code ← byte_in bytes
  name ← text_in false code.1
  place ← type_in code.0 name.1
  Some (record { code = code.0; name = name.0; text = place.0 }, place.1)

-- the fields of a descriptor behind their number, which is below 2 ^ 15
unfoldable pub fields_in : List ℕ → Built (List FieldTree)
fields_in bytes = do
  count ← number_in 2 bytes
  (if nat_lt count.0 0x8000 then many_in field_in count.0 count.1 else None)

-- the names of a proxy's interfaces behind their number
unfoldable pub interfaces_in : List ℕ → Built (List (List ℕ))
interfaces_in bytes = do
  count ← number_in 4 bytes
  many_in (text_in false) count.0 count.1

unfoldable pub prim_in : PrimCode → List ℕ → Built PrimTree
prim_in c bytes = do
  bits ← number_in (size_of c) bytes
  Some (record { code = c; bits = bits.0 }, bits.1)

-- a raw value of the type with a letter, if it is that of one
abbrev pub prim_at : Option PrimCode → List ℕ → Built PrimTree
prim_at None bytes = None
prim_at (Some c) bytes = prim_in c bytes

unfoldable pub prims_in : List PrimCode → List ℕ → Built (List PrimTree)
prims_in [] bytes = Some ([], bytes)
prims_in (c ∷ codes) bytes = do
  p ← prim_in c bytes
  others ← prims_in codes p.1
  Some (p.0 ∷ others.0, others.1)

-- the size of the length in front of a block
abbrev pub block_head_size : Bool → ℕ
block_head_size false = 1
block_head_size true = 4

abbrev pub block_in : Bool → List ℕ → Built (List ℕ)
block_in long = sized_front_in (block_head_size long)

-- ---- forms that hold values and descriptors, which are read by what is given for it

abbrev pub BuildsValue : Type 0
BuildsValue = Entries → List ℕ → Built ValueTree

abbrev pub BuildsDesc : Type 0
BuildsDesc = Entries → List ℕ → Built DescTree

-- a reference to a class that has been read, behind its tag
abbrev pub back_class_in : Entries → List ℕ → Built ClassPlaceTree
back_class_in T bytes = do
  number ← back_in bytes
  (if is_closed (slice_get T number.0) then Some (back_class number.0, number.1) else None)

unfoldable pub class_in : BuildsDesc → Entries → List ℕ → Built ClassPlaceTree
class_in desc T [] = None
class_in desc T (tag ∷ bytes) =
    if tag == TC_REFERENCE then back_class_in T bytes else (desc T (tag ∷ bytes) >>= λ x. Some (new_class x.0, x.1))

unfoldable pub superclass_in : BuildsDesc → Entries → List ℕ → Built ClassPlaceTree
superclass_in desc T [] = None
superclass_in desc T (tag ∷ bytes) = if tag == TC_NULL then Some (no_class, bytes) else class_in desc T (tag ∷ bytes)

abbrev pub block_content_in : Bool → List ℕ → Built ContentTree
block_content_in long bytes = do
  inner ← block_in long bytes
  Some (block long inner.0, inner.1)

unfoldable pub content_in : BuildsValue → Entries → List ℕ → Built ContentTree
content_in value T [] = None
content_in value T (tag ∷ bytes) =
    if tag == TC_BLOCKDATA then block_content_in false bytes
    else (if tag == TC_BLOCKDATALONG then block_content_in true bytes
    else (value T (tag ∷ bytes) >>= λ v. Some (content v.0, v.1)))

abbrev pub after_content : Entries → ContentTree → Entries
after_content T (block long bytes) = T
after_content T reset = T
after_content T (content v) = after_value T v

-- contents as far as the end of an annotation, so many at most
unfoldable pub notes_in : BuildsValue → ℕ → Entries → List ℕ → Built ContentTrees
notes_in value zero T bytes = None
notes_in value (suc n) T [] = None
notes_in value (suc n) T (tag ∷ bytes) =
    if tag == TC_ENDBLOCKDATA then Some (no_contents, bytes)
    else (content_in value T (tag ∷ bytes) >>= λ c.
    notes_in value n (after_content T c.0) c.1 >>= λ others. Some (content_and c.0 others.0, others.1))

unfoldable pub annotation_in : BuildsValue → Entries → List ℕ → Built ContentTrees
annotation_in value T bytes = notes_in value (length bytes) T bytes

unfoldable pub values_in : BuildsValue → ℕ → Entries → List ℕ → Built ValueTrees
values_in value zero T bytes = Some (no_values, bytes)
values_in value (suc n) T bytes = do
  v ← value T bytes
  others ← values_in value n (after_value T v.0) v.1
  Some (value_and v.0 others.0, others.1)

unfoldable pub notes_if_in : BuildsValue → Bool → Entries → List ℕ → Built NotesTree
notes_if_in value false T bytes = Some (no_notes, bytes)
notes_if_in value true T bytes = annotation_in value T bytes >>= λ cs. Some (annotation cs.0, cs.1)

unfoldable pub section_in : BuildsValue → Entries → Layer → List ℕ → Built SectionTree
section_in value T l bytes = do
  ps ← prims_in (primitive_codes l.codes) bytes
  vs ← values_in value (object_count l.codes) T ps.1
  n ← notes_if_in value (has_write_method l.flags) (after_values T vs.0) vs.1
  Some (section ps.0 vs.0 n.0, n.1)

abbrev pub section_at_in : BuildsValue → Entries → Option Layer → List ℕ → Built SectionTree
section_at_in value T None bytes = None
section_at_in value T (Some l) bytes = section_in value T l bytes

unfoldable pub sections_in : BuildsValue → Entries → List Layer → List ℕ → Built SectionTrees
sections_in value T [] bytes = Some (no_sections, bytes)
sections_in value T (l ∷ ls) bytes = do
  s ← section_in value T l bytes
  others ← sections_in value (after_section T s.0) ls s.1
  Some (section_and s.0 others.0, others.1)

unfoldable pub external_in : BuildsValue → Entries → List ℕ → Built SectionTrees
external_in value T bytes = do
  cs ← annotation_in value T bytes
  Some (section_and (section [] no_values (annotation cs.0)) no_sections, cs.1)

unfoldable pub data_in : BuildsValue → Entries → List Layer → List ℕ → Built SectionTrees
data_in value T chain bytes = if is_external chain then external_in value T bytes else sections_in value T chain bytes

-- so many elements of an array: values, or raw values of the type with a letter
unfoldable pub elements_in : BuildsValue → Entries → Option ℕ → ℕ → List ℕ → Built BodyTree
elements_in value T None count bytes = do
  vs ← values_in value count T bytes
  Some (value_body vs.0, vs.1)
elements_in value T (Some letter) count bytes = do
  ps ← many_in (prim_at (prim_code_of letter)) count bytes
  Some (raw_body ps.0, ps.1)

unfoldable pub body_in : BuildsValue → Entries → Option ℕ → List ℕ → Built BodyTree
body_in value T letter bytes = do
  count ← number_in 4 bytes
  elements_in value T letter count.0 count.1

unfoldable pub plain_in : BuildsDesc → BuildsValue → Entries → List ℕ → Built DescTree
plain_in desc value T bytes = do
  name ← text_in false bytes
  suid ← number_in 8 name.1
  flags ← byte_in suid.1
  fields ← fields_in flags.1
  notes ← annotation_in value (after_fields (add T pending_entry) fields.0) fields.1
  parent ← superclass_in desc (after_contents (after_fields (add T pending_entry) fields.0) notes.0) notes.1
  Some (plain name.0 suid.0 flags.0 fields.0 notes.0 parent.0, parent.1)

unfoldable pub proxy_in : BuildsDesc → BuildsValue → Entries → List ℕ → Built DescTree
proxy_in desc value T bytes = do
  interfaces ← interfaces_in bytes
  notes ← annotation_in value (add T pending_entry) interfaces.1
  parent ← superclass_in desc (after_contents (add T pending_entry) notes.0) notes.1
  Some (proxy interfaces.0 notes.0 parent.0, parent.1)

unfoldable pub string_in : Bool → List ℕ → Built ValueTree
string_in long bytes = do
  units ← text_in long bytes
  Some (string (record { long = long; units = units.0 }), units.1)

unfoldable pub class_object_in : BuildsDesc → Entries → List ℕ → Built ValueTree
class_object_in desc T bytes = do
  c ← class_in desc T bytes
  Some (class_object c.0, c.1)

unfoldable pub array_in : BuildsDesc → BuildsValue → Entries → List ℕ → Built ValueTree
array_in desc value T bytes = do
  c ← class_in desc T bytes
  b ← body_in value (add (after_class T c.0) other_entry) (element_code (chain_of_class T c.0)) c.1
  Some (array c.0 b.0, b.1)

unfoldable pub enum_constant_in : BuildsDesc → Entries → List ℕ → Built ValueTree
enum_constant_in desc T bytes = do
  c ← class_in desc T bytes
  t ← text_place_in c.1
  Some (enum_constant c.0 t.0, t.1)

unfoldable pub object_in : BuildsDesc → BuildsValue → Entries → List ℕ → Built ValueTree
object_in desc value T bytes = do
  c ← class_in desc T bytes
  ss ← data_in value (add (after_class T c.0) other_entry) (chain_of_class T c.0) c.1
  Some (object c.0 ss.0, ss.1)

-- a value that is no descriptor, behind its tag
unfoldable pub tagged_in : BuildsDesc → BuildsValue → Entries → (tag : ℕ) → List ℕ → Built ValueTree
tagged_in desc value T tag bytes =
    if tag == TC_NULL then Some (null, bytes)
    else (if tag == TC_REFERENCE then (back_in bytes >>= λ number. Some (back number.0, number.1))
    else (if tag == TC_STRING then string_in false bytes
    else (if tag == TC_LONGSTRING then string_in true bytes
    else (if tag == TC_CLASS then class_object_in desc T bytes
    else (if tag == TC_ARRAY then array_in desc value T bytes
    else (if tag == TC_ENUM then enum_constant_in desc T bytes
    else (if tag == TC_OBJECT then object_in desc value T bytes
    else None)))))))

-- a value with its tag, and a descriptor, one level further in
unfoldable pub level_in : BuildsDesc → BuildsValue → Entries → (tag : ℕ) → List ℕ → Built ValueTree
level_in desc value T tag bytes =
    if tag == TC_CLASSDESC || tag == TC_PROXYCLASSDESC then (desc T (tag ∷ bytes) >>= λ x. Some (descriptor x.0, x.1))
    else tagged_in desc value T tag bytes

unfoldable pub desc_level_in : BuildsDesc → BuildsValue → Entries → (tag : ℕ) → List ℕ → Built DescTree
desc_level_in desc value T tag bytes =
    if tag == TC_CLASSDESC then plain_in desc value T bytes
    else (if tag == TC_PROXYCLASSDESC then proxy_in desc value T bytes else None)

-- ---- values and descriptors

unfoldable mutual
  pub value_in : (steps : ℕ) → Entries → List ℕ → Built ValueTree
  value_in zero T bytes = None
  value_in (suc k) T [] = None
  value_in (suc k) T (tag ∷ bytes) = level_in (desc_in k) (value_in k) T tag bytes

  pub desc_in : (steps : ℕ) → Entries → List ℕ → Built DescTree
  desc_in zero T bytes = None
  desc_in (suc k) T [] = None
  desc_in (suc k) T (tag ∷ bytes) = desc_level_in (desc_in k) (value_in k) T tag bytes

-- ---- the whole stream

unfoldable pub top_content_in : BuildsValue → Entries → (tag : ℕ) → List ℕ → Built ContentTree
top_content_in value T tag bytes = if tag == TC_RESET then Some (reset, bytes) else content_in value T (tag ∷ bytes)

abbrev pub first_content_in : BuildsValue → Entries → List ℕ → Built ContentTree
first_content_in value T [] = None
first_content_in value T (tag ∷ bytes) = top_content_in value T tag bytes

-- at the top a reset empties the table
abbrev pub after_top : Entries → ContentTree → Entries
after_top T (block long bytes) = T
after_top T reset = []
after_top T (content v) = after_value T v

-- all contents, so many at most
unfoldable pub top_in : BuildsValue → ℕ → Entries → List ℕ → Option ContentTrees
top_in value n T [] = Some no_contents
top_in value zero T (tag ∷ bytes) = None
top_in value (suc n) T (tag ∷ bytes) =
    top_content_in value T tag bytes >>= λ c. top_in value n (after_top T c.0) c.1 >>= λ others. Some (content_and c.0 others)

-- the list behind a header
unfoldable pub list_in : List ℕ → Option ContentTrees
list_in bytes = do
  header ← front_in 4 bytes
  top_in (value_in 2000) (length header.1) [] header.1
