-- The rules of `WellFormed` as tests, which the check of a list computes part by part, with the table of
-- handles at each part's moment. That each says the same as its rule is proved beside the check; only
-- private calls cite them.
use Rattle.std.specs.Prelude.{ℕ, ◌^◌, ◌≡◌, ◌==◌, Bool, true, false, not, ◌&&◌, nat_lt, IsTrue, if◌then◌else◌, List, [], ◌∷◌, length, slice_get, Option, Some, None, option_map, Ok, Err}
use Rattle.std.specs.declared.result.Result.{Result}
use Rattle.std.specs.List.{list_all}
use Rattle.jser_table.specs.declared.layer.Layer.{Layer}
use Rattle.jser_table.specs.declared.layer.Purpose.TheVariants as purpose
use Rattle.jser_table.specs.Chains.{has_write_method}
use Rattle.jser_table.specs.Entries.{pending_entry, other_entry, is_closed, chain_at}
use Rattle.jser_table.specs.Fits.{fits}
use Rattle.jser_value.specs.declared.check.fault.Fault.{Fault}
use Rattle.jser_value.specs.declared.check.fault.Fault.TheVariants as fault
use Rattle.jser_grammar.specs.Codes.{letter_of, object_count}
use Rattle.jser_grammar.specs.Trees.{ValueTree, null, back, string, descriptor, class_object, array, enum_constant, object, DescTree, plain, proxy, ClassPlaceTree, no_class, back_class, new_class, BodyTree, raw_body, value_body, ValueTrees, no_values, value_and, value_count, SectionTree, section, SectionTrees, no_sections, section_and, NotesTree, no_notes, annotation, block, reset, content, ContentTrees, no_contents, content_and, FieldTree, PrimTree, TextPlaceTree}
use Rattle.jser_grammar.specs.TableAfter.{Entries, add, after_fields, after_value, after_class, after_values, after_notes, after_contents, chain_of_class}
use Rattle.jser_grammar.specs.Parts.{elements_of, is_external}
use Rattle.jser_value.specs.PartTests.{obeys_text, obeys_class_name, obeys_class_names, obeys_flags, obeys_back, obeys_back_to_class, obeys_text_place, obeys_fields, is_prim_of, obeys_prims, obeys_block}

-- the type code of an array's raw elements
abbrev pub element_code : List Layer → Option ℕ
element_code chain = option_map letter_of (elements_of chain)

-- what a section of a layer holds besides its annotation's contents
abbrev pub obeys_layer : Layer → List PrimTree → ValueTrees → Bool
obeys_layer l ps vs = obeys_prims l.codes ps && value_count vs == object_count l.codes

-- what a plain descriptor holds before its fields' types
abbrev pub obeys_head : List ℕ → ℕ → ℕ → List FieldTree → Bool
obeys_head name suid flags fields =
    obeys_class_name name && (nat_lt suid (2 ^ 64) && (obeys_flags flags && nat_lt (length fields) (2 ^ 15)))

abbrev pub obeys_interfaces : List (List ℕ) → Bool
obeys_interfaces interfaces = nat_lt (length interfaces) (2 ^ 31) && obeys_class_names interfaces

-- neither raw values nor values
abbrev pub is_bare : List PrimTree → ValueTrees → Bool
is_bare ps vs = length ps == 0 && value_count vs == 0

-- an annotation stands there exactly where one is expected
abbrev pub is_annotated_as : NotesTree → Bool → Bool
is_annotated_as no_notes expected = not expected
is_annotated_as (annotation notes) expected = expected

-- what a section of this layer holds besides its values and what its annotation holds
abbrev pub obeys_frame : Option Layer → SectionTree → Bool
obeys_frame None s = false
obeys_frame (Some l) (section ps vs n) = obeys_layer l ps vs && is_annotated_as n (has_write_method l.flags)

abbrev pub after_section : Entries → SectionTree → Entries
after_section T (section ps vs n) = after_notes (after_values T vs) n

abbrev pub obeys_raw_body : Option ℕ → List PrimTree → Bool
obeys_raw_body None ps = false
obeys_raw_body (Some code) ps = nat_lt (length ps) (2 ^ 31) && list_all (is_prim_of code) ps

-- so many values may be the elements of an array, where its class says no raw ones
abbrev pub obeys_value_count : Option ℕ → ValueTrees → Bool
obeys_value_count None vs = nat_lt (value_count vs) (2 ^ 31)
obeys_value_count (Some code) vs = false

abbrev mutual
  pub obeys_value : Entries → ValueTree → Bool
  obeys_value T null = true
  obeys_value T (back n) = obeys_back T n
  obeys_value T (string t) = obeys_text t.long t.units
  obeys_value T (descriptor d) = obeys_desc T d
  obeys_value T (class_object c) = obeys_class T c
  obeys_value T (array c b) =
      obeys_class T c && (fits purpose.Array (chain_of_class T c) && obeys_body (add (after_class T c) other_entry) b (element_code (chain_of_class T c)))
  obeys_value T (enum_constant c t) =
      obeys_class T c && (fits purpose.EnumConst (chain_of_class T c) && obeys_text_place (add (after_class T c) other_entry) t)
  obeys_value T (object c ss) =
      obeys_class T c
      && (fits purpose.Object (chain_of_class T c)
      && (if is_external (chain_of_class T c)
      then obeys_external (add (after_class T c) other_entry) ss
      else obeys_sections (add (after_class T c) other_entry) ss (chain_of_class T c)))

  pub obeys_desc : Entries → DescTree → Bool
  obeys_desc T (plain name suid flags fields notes parent) =
      let behind_fields = after_fields (add T pending_entry) fields in
      obeys_head name suid flags fields
      && (obeys_fields (add T pending_entry) false fields
      && (obeys_notes behind_fields notes && obeys_superclass (after_contents behind_fields notes) parent))
  obeys_desc T (proxy interfaces notes parent) =
      obeys_interfaces interfaces
      && (obeys_notes (add T pending_entry) notes && obeys_superclass (after_contents (add T pending_entry) notes) parent)

  pub obeys_class : Entries → ClassPlaceTree → Bool
  obeys_class T no_class = false
  obeys_class T (back_class n) = obeys_back_to_class T n
  obeys_class T (new_class d) = obeys_desc T d

  pub obeys_superclass : Entries → ClassPlaceTree → Bool
  obeys_superclass T no_class = true
  obeys_superclass T (back_class n) = obeys_back_to_class T n
  obeys_superclass T (new_class d) = obeys_desc T d

  pub obeys_body : Entries → BodyTree → Option ℕ → Bool
  obeys_body T (raw_body ps) code = obeys_raw_body code ps
  obeys_body T (value_body vs) code = obeys_value_count code vs && obeys_values T vs

  pub obeys_values : Entries → ValueTrees → Bool
  obeys_values T no_values = true
  obeys_values T (value_and v vs) = obeys_value T v && obeys_values (after_value T v) vs

  pub obeys_external : Entries → SectionTrees → Bool
  obeys_external T no_sections = false
  obeys_external T (section_and s no_sections) = obeys_alone T s
  obeys_external T (section_and s (section_and t ss)) = false

  pub obeys_alone : Entries → SectionTree → Bool
  obeys_alone T (section ps vs n) = is_bare ps vs && obeys_notes_if T n true

  pub obeys_sections : Entries → SectionTrees → List Layer → Bool
  obeys_sections T no_sections [] = true
  obeys_sections T no_sections (l ∷ ls) = false
  obeys_sections T (section_and s ss) [] = false
  obeys_sections T (section_and s ss) (l ∷ ls) = obeys_section T s l && obeys_sections (after_section T s) ss ls

  pub obeys_section : Entries → SectionTree → Layer → Bool
  obeys_section T (section ps vs n) l =
      obeys_layer l ps vs && (obeys_values T vs && obeys_notes_if (after_values T vs) n (has_write_method l.flags))

  pub obeys_notes_if : Entries → NotesTree → Bool → Bool
  obeys_notes_if T no_notes expected = not expected
  obeys_notes_if T (annotation notes) expected = expected && obeys_notes T notes

  pub obeys_notes : Entries → ContentTrees → Bool
  obeys_notes T no_contents = true
  obeys_notes T (content_and (block long bytes) cs) = obeys_block long bytes && obeys_notes T cs
  obeys_notes T (content_and reset cs) = false
  obeys_notes T (content_and (content v) cs) = obeys_value T v && obeys_notes (after_value T v) cs

abbrev pub obeys_contents : Entries → ContentTrees → Bool
obeys_contents T no_contents = true
obeys_contents T (content_and (block long bytes) cs) = obeys_block long bytes && obeys_contents T cs
obeys_contents T (content_and reset cs) = obeys_contents [] cs
obeys_contents T (content_and (content v) cs) = obeys_value T v && obeys_contents (after_value T v) cs

-- Parts of these rules, for calls of their own.

abbrev pub obeys_array : Entries → BodyTree → List Layer → Bool
obeys_array T b chain = fits purpose.Array chain && obeys_body (add T other_entry) b (element_code chain)

abbrev pub obeys_enum_constant : Entries → TextPlaceTree → List Layer → Bool
obeys_enum_constant T t chain = fits purpose.EnumConst chain && obeys_text_place (add T other_entry) t

abbrev pub obeys_data : Entries → SectionTrees → List Layer → Bool
obeys_data T ss chain = if is_external chain then obeys_external T ss else obeys_sections T ss chain

abbrev pub obeys_object : Entries → SectionTrees → List Layer → Bool
obeys_object T ss chain = fits purpose.Object chain && obeys_data (add T other_entry) ss chain

abbrev pub obeys_section_at : Entries → SectionTree → Option Layer → Bool
obeys_section_at T s None = false
obeys_section_at T s (Some l) = obeys_section T s l

-- what a section holds, whatever its layer is
abbrev pub obeys_held : Entries → SectionTree → Bool
obeys_held T (section ps vs no_notes) = obeys_values T vs
obeys_held T (section ps vs (annotation notes)) = obeys_values T vs && obeys_notes (after_values T vs) notes

-- What a call of the check tells of a part, unless memory ran out: it passes its test, and the table is then
-- the one after it; or it fails its test.
abbrev pub Judges : {X : Type 0} → Result X Fault → Bool → Entries → Entries → Type 0
Judges (Ok x) passes after now = (passes ≡ true) × (now ≡ after)
Judges (Err fault.NotRight) passes after now = passes ≡ false
Judges (Err fault.OutOfMemory) passes after now = Unit {0}

-- the closed entry with this number has this chain
pub record IsClassAt (T : Entries) (number : ℕ) (chain : List Layer) : Type 0 where
  pub closed : IsTrue (is_closed (slice_get T number))
  pub chain_is : chain_at T number ≡ chain

-- the parent's chain, if there is a parent
abbrev pub IsParentAt : Entries → List Layer → Option ℕ → Type 0
IsParentAt T chain None = chain ≡ []
IsParentAt T chain (Some number) = IsClassAt T number chain
