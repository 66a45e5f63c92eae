-- Which trees obey the format (Java Object Serialization Specification, sections 6.2 and 6.4): each part is
-- taken with the table of handles at its own moment. `IsTrue (fits ..)` are the conditions on the class of an
-- object, an array and an enum constant.
use Rattle.std.specs.Prelude.{◌^◌, ◌<◌, ◌≡◌, Bool, false, IsTrue, IsFalse, MatchBool, List, [], ◌∷◌, length, Option, Some, None}
use Rattle.jser_table.specs.declared.layer.Layer.{Layer}
use Rattle.jser_table.specs.declared.layer.Purpose.TheVariants as purpose
use Rattle.jser_table.specs.Chains.{has_write_method}
use Rattle.jser_table.specs.Entries.{pending_entry, other_entry}
use Rattle.jser_table.specs.Fits.{fits}
use Rattle.jser_grammar.specs.Codes.{PrimCode, primitive_codes, object_count}
use Rattle.jser_grammar.specs.Trees.{ValueTree, null, back, string, descriptor, class_object, array, enum_constant, object, DescTree, plain, proxy, ClassPlaceTree, no_class, back_class, new_class, BodyTree, raw_body, value_body, ValueTrees, no_values, value_and, value_count, section, SectionTrees, no_sections, section_and, NotesTree, no_notes, annotation, block, reset, content, ContentTrees, no_contents, content_and}
use Rattle.jser_grammar.specs.TableAfter.{Entries, add, after_fields, after_value, after_class, after_values, after_notes, after_contents, chain_of_class}
use Rattle.jser_grammar.specs.Parts.{IsText, IsClassName, AreClassNames, IsFlags, IsBack, IsBackToClass, WellFormedText, WellFormedFields, ArePrimsOf, ArePrims, IsBlock, elements_of, is_external}

abbrev mutual
  pub WellFormedValue : Entries → ValueTree → Type 0
  WellFormedValue T null = Unit {0}
  WellFormedValue T (back n) = IsBack T n
  WellFormedValue T (string t) = IsText t.long t.units
  WellFormedValue T (descriptor d) = WellFormedDesc T d
  WellFormedValue T (class_object c) = WellFormedClass T c
  WellFormedValue T (array c b) =
      WellFormedClass T c × IsTrue (fits purpose.Array (chain_of_class T c))
      × WellFormedBody (add (after_class T c) other_entry) b (elements_of (chain_of_class T c))
  WellFormedValue T (enum_constant c t) =
      WellFormedClass T c × IsTrue (fits purpose.EnumConst (chain_of_class T c))
      × WellFormedText (add (after_class T c) other_entry) t
  WellFormedValue T (object c ss) =
      WellFormedClass T c × IsTrue (fits purpose.Object (chain_of_class T c))
      × MatchBool (is_external (chain_of_class T c))
      (WellFormedExternal (add (after_class T c) other_entry) ss)
      (WellFormedSections (add (after_class T c) other_entry) ss (chain_of_class T c))

  pub WellFormedDesc : Entries → DescTree → Type 0
  WellFormedDesc T (plain name suid flags fields notes parent) =
      let behind_fields = after_fields (add T pending_entry) fields in
      IsClassName name × (suid < 2 ^ 64) × IsFlags flags × (length fields < 2 ^ 15)
      × WellFormedFields (add T pending_entry) false fields
      × WellFormedNotes behind_fields notes
      × WellFormedSuperclass (after_contents behind_fields notes) parent
  WellFormedDesc T (proxy interfaces notes parent) =
      (length interfaces < 2 ^ 31) × AreClassNames interfaces
      × WellFormedNotes (add T pending_entry) notes
      × WellFormedSuperclass (after_contents (add T pending_entry) notes) parent

  -- a class place holds a descriptor or a reference to one
  pub WellFormedClass : Entries → ClassPlaceTree → Type 0
  WellFormedClass T no_class = ⊥
  WellFormedClass T (back_class n) = IsBackToClass T n
  WellFormedClass T (new_class d) = WellFormedDesc T d

  -- a superclass place may also hold null
  pub WellFormedSuperclass : Entries → ClassPlaceTree → Type 0
  WellFormedSuperclass T no_class = Unit {0}
  WellFormedSuperclass T (back_class n) = IsBackToClass T n
  WellFormedSuperclass T (new_class d) = WellFormedDesc T d

  pub WellFormedBody : Entries → BodyTree → Option PrimCode → Type 0
  WellFormedBody T (raw_body ps) None = ⊥
  WellFormedBody T (raw_body ps) (Some c) = (length ps < 2 ^ 31) × ArePrimsOf c ps
  WellFormedBody T (value_body vs) None = (value_count vs < 2 ^ 31) × WellFormedValues T vs
  WellFormedBody T (value_body vs) (Some c) = ⊥

  pub WellFormedValues : Entries → ValueTrees → Type 0
  WellFormedValues T no_values = Unit {0}
  WellFormedValues T (value_and v vs) = WellFormedValue T v × WellFormedValues (after_value T v) vs

  -- an externalizable class: one section, of notes alone
  pub WellFormedExternal : Entries → SectionTrees → Type 0
  WellFormedExternal T (section_and (section [] no_values (annotation notes)) no_sections) = WellFormedNotes T notes
  WellFormedExternal T _ = ⊥

  -- otherwise one section for each layer of the chain, in order: the raw values of its primitive codes, as
  -- many values as it has `[` and `L`, and notes exactly where it has SC_WRITE_METHOD
  pub WellFormedSections : Entries → SectionTrees → List Layer → Type 0
  WellFormedSections T no_sections [] = Unit {0}
  WellFormedSections T no_sections (l ∷ ls) = ⊥
  WellFormedSections T (section_and s ss) [] = ⊥
  WellFormedSections T (section_and (section ps vs n) ss) (l ∷ ls) =
      ArePrims (primitive_codes l.codes) ps
      × (value_count vs ≡ object_count l.codes) × WellFormedValues T vs
      × WellFormedNotesIf (after_values T vs) n (has_write_method l.flags)
      × WellFormedSections (after_notes (after_values T vs) n) ss ls

  pub WellFormedNotesIf : Entries → NotesTree → Bool → Type 0
  WellFormedNotesIf T no_notes expected = IsFalse expected
  WellFormedNotesIf T (annotation notes) expected = IsTrue expected × WellFormedNotes T notes

  -- the contents of an annotation: TC_RESET does not stand there
  pub WellFormedNotes : Entries → ContentTrees → Type 0
  WellFormedNotes T no_contents = Unit {0}
  WellFormedNotes T (content_and (block long bytes) cs) = IsBlock long bytes × WellFormedNotes T cs
  WellFormedNotes T (content_and reset cs) = ⊥
  WellFormedNotes T (content_and (content v) cs) = WellFormedValue T v × WellFormedNotes (after_value T v) cs

-- a content list, from this table on
abbrev pub WellFormedContents : Entries → ContentTrees → Type 0
WellFormedContents T no_contents = Unit {0}
WellFormedContents T (content_and (block long bytes) cs) = IsBlock long bytes × WellFormedContents T cs
WellFormedContents T (content_and reset cs) = WellFormedContents [] cs
WellFormedContents T (content_and (content v) cs) = WellFormedValue T v × WellFormedContents (after_value T v) cs

-- a content list that obeys the format
abbrev pub WellFormed : ContentTrees → Type 0
WellFormed cs = WellFormedContents [] cs
