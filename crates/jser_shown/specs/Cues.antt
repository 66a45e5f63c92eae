-- What a teller still has to tell: a stack of cues, the next one first. A cue is a goal of the reading machine with
-- what is needed to print, and without what a reader checks: no roles. `L` is the level of
-- the lines that the cue begins.
use Rattle.std.specs.Prelude.{ℕ, Bool, true, false, List, [], ◌∷◌, Option}
use Rattle.jser_grammar.specs.Codes.{PrimCode}
use Rattle.jser_reading.specs.Roles.{Owner}
use Rattle.jser_shown.specs.Known.{NamedField, NamedLayer, Known, prim_fields, object_names, fields_in, has_notes, own_class_of}
use Rattle.jser_shown.specs.Words.{Epoch}
use Rattle.jser_shown.specs.Shown.{ValueName, field_named}
use Rattle.jser_shown.specs.Owners.{OwnerNode}

-- the parts of an object's sections: a section's first line, its raw values, values and notes
pub data SectionPart : Type 0 where
  data_part external_part : NamedLayer → SectionPart
  raw_part : NamedField → SectionPart
  value_part : ValueName → SectionPart
  note_part : SectionPart

-- What is told next. The first ones are for the header, the contents at the top, the handle of a reference, the units
-- of a string, the place of a type text, the length of a block and its bytes.
pub data Cue : Type 0 where
  header_cue top_cue handle_cue string_cue text_place_cue : Cue
  block_length_cue block_cue : Cue
  -- the contents of an annotation; the name of an enum constant
  note_cue name_cue : (L : ℕ) → Cue
  -- the length of an array whose elements are of this type, if it is primitive, and its elements from `i` on
  length_cue : (L : ℕ) → (elements : Option PrimCode) → Cue
  elements_cue : (L : ℕ) → (elements : Option PrimCode) → (i left : ℕ) → Cue
  -- the sections of an object
  parts_cue : (L : ℕ) → List SectionPart → Cue
  -- the class place of an owner, the handle of a reference there, and its end: the class is the one with this number
  class_cue class_handle_cue : Owner → (L : ℕ) → Cue
  made_cue : Owner → (L number : ℕ) → Cue
  -- the superclass place of the class with this number, and its end: the superclass is `parent`
  super_cue super_handle_cue : (L number : ℕ) → NamedLayer → Cue
  close_cue : (number parent : ℕ) → NamedLayer → Cue
  -- the fields of a descriptor, with what is known of it so far; `done` are its fields so far, the last one first
  class_name_cue : (L : ℕ) → Cue
  suid_cue : (L : ℕ) → (name : List ℕ) → Cue
  flags_cue : (L number : ℕ) → (name : List ℕ) → Cue
  field_count_cue : (L number : ℕ) → (name : List ℕ) → (flags : ℕ) → Cue
  fields_cue : (L number : ℕ) → (name : List ℕ) → (flags : ℕ) → (done : List NamedField) → (left : ℕ) → Cue
  field_name_cue : (L number : ℕ) → (name : List ℕ) → (flags : ℕ) → (done : List NamedField) → (code left : ℕ) → Cue
  type_cue : Bool → Cue
  interface_count_cue : (L number : ℕ) → Cue
  interfaces_cue : (L number left : ℕ) → Cue

-- the epoch, what is known of its handles, the owners whose tags are still to come, and what is to be told
pub record Teller : Type 0 where
  pub epoch : Epoch
  pub known : Known
  pub owners : List OwnerNode
  pub cues : List Cue

abbrev pub teller : Epoch → Known → List OwnerNode → List Cue → Teller
teller e T os cues = record { epoch = e; known = T; owners = os; cues = cues }

-- the parts of the sections of an object with these classes

abbrev pub raw_parts : List NamedField → List SectionPart → List SectionPart
raw_parts [] parts = parts
raw_parts (f ∷ fs) parts = raw_part f ∷ raw_parts fs parts

abbrev pub value_parts : List (List ℕ) → List SectionPart → List SectionPart
value_parts [] parts = parts
value_parts (name ∷ names) parts = value_part (field_named name) ∷ value_parts names parts

abbrev pub note_if : Bool → List SectionPart → List SectionPart
note_if true parts = note_part ∷ parts
note_if false parts = parts

abbrev pub section_parts : List NamedLayer → List SectionPart
section_parts [] = []
section_parts (l ∷ ls) =
    data_part l ∷ raw_parts (prim_fields (fields_in l))
    (value_parts (object_names (fields_in l)) (note_if (has_notes l) (section_parts ls)))

abbrev pub object_parts : Bool → List NamedLayer → List SectionPart
object_parts true chain = external_part (own_class_of chain) ∷ note_part ∷ []
object_parts false chain = section_parts chain

-- the fields of a descriptor in their order
abbrev pub fields_done : List NamedField → List NamedField → List NamedField
fields_done [] fields = fields
fields_done (f ∷ done) fields = fields_done done (f ∷ fields)

-- what is told after the fields or interfaces of a descriptor
abbrev pub rest_of_desc : ℕ → ℕ → NamedLayer → List Cue → List Cue
rest_of_desc L number layer cues = note_cue L ∷ super_cue L number layer ∷ cues
