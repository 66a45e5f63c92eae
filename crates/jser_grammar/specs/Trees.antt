-- Trees: the contents of a stream as plain data (Java Object Serialization Specification, section 6.4,
-- "Grammar for the Stream Format"). Each type mirrors the public type of its name, wrong trees included:
-- which trees obey the format is said in `WellFormed`. A list of children is a type of its own.
use Rattle.std.specs.Prelude.{ℕ, suc, Bool, List, Option}
use Rattle.jser_grammar.specs.Codes.{PrimCode}

-- newString: its form (TC_LONGSTRING where `long`) and its UTF-16 units
pub record TextTree : Type 0 where
  pub long : Bool
  pub units : List ℕ

-- a text place: className1 of a field, enumConstantName
pub data TextPlaceTree : Type 0 where
  new_text : TextTree → TextPlaceTree
  back_text : ℕ → TextPlaceTree

-- fieldDesc: the type code as written, and the field's type where there is one
pub record FieldTree : Type 0 where
  pub code : ℕ
  pub name : List ℕ
  pub text : Option TextPlaceTree

-- a primitive value as raw bits
pub record PrimTree : Type 0 where
  pub code : PrimCode
  pub bits : ℕ

mutual
  -- object: `back n` is prevObject, the handle BASE_WIRE_HANDLE + n
  pub data ValueTree : Type 0 where
    null : ValueTree
    back : ℕ → ValueTree
    string : TextTree → ValueTree
    descriptor : DescTree → ValueTree
    class_object : ClassPlaceTree → ValueTree
    array : ClassPlaceTree → BodyTree → ValueTree
    enum_constant : ClassPlaceTree → TextPlaceTree → ValueTree
    object : ClassPlaceTree → SectionTrees → ValueTree

  -- newClassDesc: a plain descriptor or a proxy descriptor; each ends with its annotation and its superclass
  pub data DescTree : Type 0 where
    plain : (name : List ℕ) (suid flags : ℕ) → List FieldTree → ContentTrees → ClassPlaceTree → DescTree
    proxy : (interfaces : List (List ℕ)) → ContentTrees → ClassPlaceTree → DescTree

  -- classDesc, superClassDesc
  pub data ClassPlaceTree : Type 0 where
    no_class : ClassPlaceTree
    back_class : ℕ → ClassPlaceTree
    new_class : DescTree → ClassPlaceTree

  -- the elements of an array
  pub data BodyTree : Type 0 where
    raw_body : List PrimTree → BodyTree
    value_body : ValueTrees → BodyTree

  pub data ValueTrees : Type 0 where
    no_values : ValueTrees
    value_and : ValueTree → ValueTrees → ValueTrees

  -- classdata: what one class of an object's chain wrote
  pub data SectionTree : Type 0 where
    section : List PrimTree → ValueTrees → NotesTree → SectionTree

  pub data SectionTrees : Type 0 where
    no_sections : SectionTrees
    section_and : SectionTree → SectionTrees → SectionTrees

  -- objectAnnotation, where there is one
  pub data NotesTree : Type 0 where
    no_notes : NotesTree
    annotation : ContentTrees → NotesTree

  pub data ContentTree : Type 0 where
    block : (long : Bool) → List ℕ → ContentTree
    reset : ContentTree
    content : ValueTree → ContentTree

  -- contents: a content list, or an annotation without its end
  pub data ContentTrees : Type 0 where
    no_contents : ContentTrees
    content_and : ContentTree → ContentTrees → ContentTrees

-- how many elements an array of values has
abbrev pub value_count : ValueTrees → ℕ
value_count no_values = 0
value_count (value_and v vs) = suc (value_count vs)
