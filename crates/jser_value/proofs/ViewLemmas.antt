-- The tree of each form of a value.
use Rattle.std.specs.Prelude.{Vec, Option, Some, None}
use Rattle.std.specs.declared.alloc.Global.{Global}
use Rattle.std.proofs.Common.{◌≡◌, ℕ, Bool, map, rules, refl}
use Rattle.jser_value.specs.declared.tree.Body.{Body, the_lemmas}
use Rattle.jser_value.specs.declared.tree.Body.TheVariants as body
use Rattle.jser_value.specs.declared.tree.ClassPlace.{ClassPlace}
use Rattle.jser_value.specs.declared.tree.Content.{Content}
use Rattle.jser_value.specs.declared.tree.Content.TheVariants as content_form
use Rattle.jser_value.specs.declared.tree.Desc.TheVariants as desc
use Rattle.jser_value.specs.declared.tree.Field.{Field}
use Rattle.jser_value.specs.declared.tree.Raw.{Raw}
use Rattle.jser_value.specs.declared.tree.Section.{Section, out-Section}
use Rattle.jser_value.specs.declared.tree.TextPlace.{TextPlace}
use Rattle.jser_value.specs.declared.tree.Value.{Value}
use Rattle.jser_value.specs.declared.tree.Value.TheVariants as value
use Rattle.jser_grammar.specs.Trees.{class_object, array, enum_constant, object, plain, proxy, raw_body, value_body, section, annotation, no_notes, block, NotesTree}
use Rattle.jser_value.specs.View.{view_text_place, view_field, view_prim, view_body, view_class_place, view_content, view_desc, view_value, view_section, view_values, view_sections, view_contents}

pub view_class_object : (c : ClassPlace) → view_value (value.ClassObject c) ≡ class_object (view_class_place c)
view_class_object c = search (rules, the_lemmas)

pub view_array : (c : ClassPlace) (b : Body) → view_value (value.Array c b) ≡ array (view_class_place c) (view_body b)
view_array c b = search (rules, the_lemmas)

pub view_enum_constant : (c : ClassPlace) (t : TextPlace) → view_value (value.EnumConst c t) ≡ enum_constant (view_class_place c) (view_text_place t)
view_enum_constant c t = search (rules, the_lemmas)

pub view_object : (c : ClassPlace) (ss : Vec Section Global) → view_value (value.Object c ss) ≡ object (view_class_place c) (view_sections ss.items)
view_object c ss = search (rules, the_lemmas)

pub view_raw_body : (ps : Vec Raw Global) → view_body (body.Prims ps) ≡ raw_body (map view_prim ps.items)
view_raw_body ps = search (rules, the_lemmas)

pub view_value_body : (vs : Vec Value Global) → view_body (body.Values vs) ≡ value_body (view_values vs.items)
view_value_body vs = search (rules, the_lemmas)

pub view_block : (long : Bool) (bytes : Vec ℕ Global) → view_content (content_form.Block long bytes) ≡ block long bytes.items
view_block long bytes = search (rules, the_lemmas)

pub view_plain : (name : Vec ℕ Global) (suid flags : ℕ) (fields : Vec Field Global) (notes : Vec Content Global) (parent : ClassPlace)
    → view_desc (desc.Plain name suid flags fields notes parent) ≡ plain name.items suid flags (map view_field fields.items) (view_contents notes.items) (view_class_place parent)
view_plain name suid flags fields notes parent = search (rules, the_lemmas)

pub view_proxy : (interfaces : Vec (Vec ℕ Global) Global) (notes : Vec Content Global) (parent : ClassPlace)
    → view_desc (desc.Proxy interfaces notes parent) ≡ proxy (map (λ name. name.items) interfaces.items) (view_contents notes.items) (view_class_place parent)
view_proxy interfaces notes parent = search (rules, the_lemmas)

abbrev pub view_notes : Option (Vec Content Global) → NotesTree
view_notes None = no_notes
view_notes (Some v) = annotation (view_contents v.items)

pub view_section_of : (s : Section) → view_section s ≡ section (map view_prim (out-Section s).prims.items) (view_values (out-Section s).values.items) (view_notes (out-Section s).notes)
view_section_of s = search (rules, the_lemmas)

pub no_notes_of : (notes : Option (Vec Content Global)) → ((v : Vec Content Global) → notes ≡ Some v → ⊥) → notes ≡ None
no_notes_of None h = refl
no_notes_of (Some v) h = absurd (h v refl)
