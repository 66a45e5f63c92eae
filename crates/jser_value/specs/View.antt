-- The tree that a value of the public types stands for: the same data, without where it lies in memory.
-- One step for each type, with what is inside already seen as a tree; the folds put them together.
use Rattle.std.specs.Prelude.{List, [], ◌∷◌, map, Option, Some, None, Vec}
use Rattle.std.specs.Option.{option_map}
use Rattle.std.specs.declared.alloc.Global.{Global}
use Rattle.jser_value.specs.declared.tree.Text.{Text}
use Rattle.jser_value.specs.declared.tree.TextPlace.{TextPlace}
use Rattle.jser_value.specs.declared.tree.TextPlace.TheVariants as text_place
use Rattle.jser_value.specs.declared.tree.Field.{Field}
use Rattle.jser_value.specs.declared.tree.Raw.{Raw}
use Rattle.jser_value.specs.declared.tree.Raw.TheVariants as prim
use Rattle.jser_value.specs.declared.tree.Body.{Body, Body-F, fold-Body}
use Rattle.jser_value.specs.declared.tree.Body.TheOpen.{ClassPlace-F, Content-F, Desc-F, Value-F, Section-F}
use Rattle.jser_value.specs.declared.tree.Body.TheFolds.{fold-ClassPlace, fold-Content, fold-Desc, fold-Value, fold-Section}
use Rattle.jser_value.specs.declared.tree.ClassPlace.{ClassPlace}
use Rattle.jser_value.specs.declared.tree.Content.{Content}
use Rattle.jser_value.specs.declared.tree.Desc.{Desc}
use Rattle.jser_value.specs.declared.tree.Value.{Value}
use Rattle.jser_value.specs.declared.tree.Section.{Section}
use Rattle.jser_grammar.specs.Codes.{byte_code, char_code, double_code, float_code, int_code, long_code, short_code, boolean_code}
use Rattle.jser_grammar.specs.Trees.{TextTree, TextPlaceTree, new_text, back_text, FieldTree, PrimTree, ValueTree, null, back, string, descriptor, class_object, array, enum_constant, object, DescTree, plain, proxy, ClassPlaceTree, no_class, back_class, new_class, BodyTree, raw_body, value_body, ValueTrees, no_values, value_and, SectionTree, section, SectionTrees, no_sections, section_and, NotesTree, no_notes, annotation, ContentTree, block, reset, content, ContentTrees, no_contents, content_and}

abbrev pub view_text : Text → TextTree
view_text t = record { long = t.long; units = t.units.items }

abbrev pub view_text_place : TextPlace → TextPlaceTree
view_text_place (text_place.New t) = new_text (view_text t)
view_text_place (text_place.Back n) = back_text n

abbrev pub view_field : Field → FieldTree
view_field f = record { code = f.code; name = f.name.items; text = option_map view_text_place f.text }

abbrev pub view_prim : Raw → PrimTree
view_prim (prim.B n) = record { code = byte_code; bits = n }
view_prim (prim.C n) = record { code = char_code; bits = n }
view_prim (prim.D n) = record { code = double_code; bits = n }
view_prim (prim.F n) = record { code = float_code; bits = n }
view_prim (prim.I n) = record { code = int_code; bits = n }
view_prim (prim.J n) = record { code = long_code; bits = n }
view_prim (prim.S n) = record { code = short_code; bits = n }
view_prim (prim.Z n) = record { code = boolean_code; bits = n }

abbrev pub values_of : List ValueTree → ValueTrees
values_of [] = no_values
values_of (v ∷ vs) = value_and v (values_of vs)

abbrev pub sections_of : List SectionTree → SectionTrees
sections_of [] = no_sections
sections_of (s ∷ ss) = section_and s (sections_of ss)

abbrev pub contents_of : List ContentTree → ContentTrees
contents_of [] = no_contents
contents_of (c ∷ cs) = content_and c (contents_of cs)

abbrev pub notes_of : Option (Vec ContentTree Global) → NotesTree
notes_of None = no_notes
notes_of (Some v) = annotation (contents_of v.items)

abbrev pub body_step : Body-F BodyTree ClassPlaceTree ContentTree DescTree ValueTree SectionTree → BodyTree
body_step (Body-F.Prims ps) = raw_body (map view_prim ps.items)
body_step (Body-F.Values vs) = value_body (values_of vs.items)

abbrev pub class_place_step : ClassPlace-F BodyTree ClassPlaceTree ContentTree DescTree ValueTree SectionTree
    → ClassPlaceTree
class_place_step (ClassPlace-F.New d) = new_class d.value
class_place_step (ClassPlace-F.ClassPlace::Back n) = back_class n
class_place_step ClassPlace-F.ClassPlace::Null = no_class

abbrev pub content_step : Content-F BodyTree ClassPlaceTree ContentTree DescTree ValueTree SectionTree → ContentTree
content_step (Content-F.Block long bytes) = block long bytes.items
content_step Content-F.Reset = reset
content_step (Content-F.Value v) = content v

abbrev pub desc_step : Desc-F BodyTree ClassPlaceTree ContentTree DescTree ValueTree SectionTree → DescTree
desc_step (Desc-F.Plain name suid flags fields notes parent) =
    plain name.items suid flags (map view_field fields.items) (contents_of notes.items) parent
desc_step (Desc-F.Proxy interfaces notes parent) =
    proxy (map (λ name. name.items) interfaces.items) (contents_of notes.items) parent

abbrev pub value_step : Value-F BodyTree ClassPlaceTree ContentTree DescTree ValueTree SectionTree → ValueTree
value_step Value-F.Value::Null = null
value_step (Value-F.Value::Back n) = back n
value_step (Value-F.Text t) = string (view_text t)
value_step (Value-F.Desc d) = descriptor d.value
value_step (Value-F.ClassObject c) = class_object c
value_step (Value-F.Array c b) = array c b
value_step (Value-F.EnumConst c t) = enum_constant c (view_text_place t)
value_step (Value-F.Object c ss) = object c (sections_of ss.items)

abbrev pub section_step : Section-F BodyTree ClassPlaceTree ContentTree DescTree ValueTree SectionTree → SectionTree
section_step s = section (map view_prim s.prims.items) (values_of s.values.items) (notes_of s.notes)

abbrev pub view_body : Body → BodyTree
view_body =
    fold-Body BodyTree ClassPlaceTree ContentTree DescTree ValueTree SectionTree
    body_step class_place_step content_step desc_step value_step section_step

abbrev pub view_class_place : ClassPlace → ClassPlaceTree
view_class_place =
    fold-ClassPlace BodyTree ClassPlaceTree ContentTree DescTree ValueTree SectionTree
    body_step class_place_step content_step desc_step value_step section_step

abbrev pub view_content : Content → ContentTree
view_content =
    fold-Content BodyTree ClassPlaceTree ContentTree DescTree ValueTree SectionTree
    body_step class_place_step content_step desc_step value_step section_step

abbrev pub view_desc : Desc → DescTree
view_desc =
    fold-Desc BodyTree ClassPlaceTree ContentTree DescTree ValueTree SectionTree
    body_step class_place_step content_step desc_step value_step section_step

abbrev pub view_value : Value → ValueTree
view_value =
    fold-Value BodyTree ClassPlaceTree ContentTree DescTree ValueTree SectionTree
    body_step class_place_step content_step desc_step value_step section_step

abbrev pub view_section : Section → SectionTree
view_section =
    fold-Section BodyTree ClassPlaceTree ContentTree DescTree ValueTree SectionTree
    body_step class_place_step content_step desc_step value_step section_step

-- lists
abbrev pub view_values : List Value → ValueTrees
view_values vs = values_of (map view_value vs)

abbrev pub view_sections : List Section → SectionTrees
view_sections ss = sections_of (map view_section ss)

abbrev pub view_contents : List Content → ContentTrees
view_contents cs = contents_of (map view_content cs)
