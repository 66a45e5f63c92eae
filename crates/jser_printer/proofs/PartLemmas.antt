-- The parts of the sections of an object, one after another.
use Rattle.std.proofs.Common.{◌≡◌, ℕ, ◌+◌, ◌≤◌, Bool, true, false, List, [], ◌∷◌, length, drop, slice_get, Option, Some, None, ap, sym, ◌∙◌, subst}
use Rattle.std.proofs.lemmas.Option.{get_or_from_slice_get, slice_get_within}
use Rattle.std.proofs.lemmas.List.{drop_all, drop_more}
use Rattle.jser_shown.specs.Known.{NamedField, NamedLayer, prim_fields, object_names, fields_in, has_notes}
use Rattle.jser_shown.specs.Shown.{field_named}
use Rattle.jser_shown.specs.Cues.{SectionPart, data_part, raw_part, value_part, note_part, raw_parts, value_parts, note_if, section_parts}
use Rattle.jser_printer.specs.declared.frame.Stage.{Stage}
use Rattle.jser_printer.specs.declared.frame.Stage.TheVariants as stage
use Rattle.jser_printer.specs.declared.part.Part.{Part}
use Rattle.jser_printer.specs.declared.part.NextPart.{NextPart}
use Rattle.jser_printer.specs.Steps.{layer_name}
use Rattle.jser_printer.specs.Layers.{field_at, NextRaw, NextValue}
use Rattle.jser_printer.specs.Frames.{parts_at, parts_from, BeginsSection, BeginsWith, IsNextPart}

-- past the last layer there are no parts
pub past_end : (chain : List NamedLayer) (index : ℕ) (s : Stage) → length chain ≤ index → parts_from chain index s ≡ []
past_end chain index stage.Start past = ap section_parts (drop_all index chain past)
past_end chain index (stage.Raw i) past = ap (parts_at (stage.Raw i)) (drop_all index chain past)
past_end chain index (stage.Value i) past = ap (parts_at (stage.Value i)) (drop_all index chain past)

-- the layer at this index is the first of the others
pub layer_first : (chain : List NamedLayer) (index : ℕ) (l : NamedLayer) → slice_get chain index ≡ Some l → drop index chain ≡ l ∷ drop (index + 1) chain
layer_first chain index l is =
    drop_more chain index l (slice_get_within chain index l is)
    ∙ ap (λ x. x ∷ drop (index + 1) chain) (get_or_from_slice_get chain index l l is)

first_parts : (chain : List NamedLayer) (index : ℕ) (l : NamedLayer) (s : Stage) → slice_get chain index ≡ Some l → parts_from chain index s ≡ parts_at s (l ∷ drop (index + 1) chain)
first_parts chain index l s is = ap (parts_at s) (layer_first chain index l is)

pub section_next : (chain : List NamedLayer) (index : ℕ) (l : NamedLayer) (name : Option (List ℕ)) → slice_get chain index ≡ Some l → name ≡ layer_name l → BeginsSection (parts_from chain index stage.Start) name (parts_from chain index (stage.Raw 0))
section_next chain index l name is named = record {
  layer = l;
  name_is = sym named;
  parts_are = first_parts chain index l stage.Start is ∙ ap (λ parts. data_part l ∷ parts) (sym (first_parts chain index l (stage.Raw 0) is));
}

-- what comes behind the raw values, and behind the values
abbrev behind_raw : NamedLayer → List NamedLayer → List SectionPart
behind_raw l others = value_parts (object_names (fields_in l)) (note_if (has_notes l) (section_parts others))

abbrev behind_values : NamedLayer → List NamedLayer → List SectionPart
behind_values l others = note_if (has_notes l) (section_parts others)

pub raw_next : (chain : List NamedLayer) (index from place : ℕ) (l : NamedLayer) (fields : List NamedField) (f : NamedField) → slice_get chain index ≡ Some l → fields ≡ fields_in l → f ≡ field_at fields place → NextRaw fields from (Some place) → parts_from chain index (stage.Raw from) ≡ raw_part f ∷ parts_from chain index (stage.Raw (place + 1))
raw_next chain index from place l fields f is tokens_are named next =
    let others = drop (index + 1) chain in
    first_parts chain index l (stage.Raw from) is
    ∙ ap (λ fs. raw_parts (prim_fields (drop from fs)) (behind_raw l others)) (sym tokens_are)
    ∙ ap (λ names. raw_parts names (behind_raw l others)) next.1
    ∙ ap (λ n. raw_part n ∷ raw_parts (prim_fields (drop (place + 1) fields)) (behind_raw l others)) (sym named)
    ∙ ap (λ fs. raw_part f ∷ raw_parts (prim_fields (drop (place + 1) fs)) (behind_raw l others)) tokens_are
    ∙ ap (λ parts. raw_part f ∷ parts) (sym (first_parts chain index l (stage.Raw (place + 1)) is))

raw_end : (chain : List NamedLayer) (index from : ℕ) (l : NamedLayer) (fields : List NamedField) → slice_get chain index ≡ Some l → fields ≡ fields_in l → NextRaw fields from None → parts_from chain index (stage.Raw from) ≡ parts_from chain index (stage.Value 0)
raw_end chain index from l fields is tokens_are next =
    let others = drop (index + 1) chain in
    first_parts chain index l (stage.Raw from) is
    ∙ ap (λ fs. raw_parts (prim_fields (drop from fs)) (behind_raw l others)) (sym tokens_are)
    ∙ ap (λ names. raw_parts names (behind_raw l others)) next
    ∙ sym (first_parts chain index l (stage.Value 0) is)

pub value_next : (chain : List NamedLayer) (index from place : ℕ) (l : NamedLayer) (fields : List NamedField) (name : List ℕ) → slice_get chain index ≡ Some l → fields ≡ fields_in l → name ≡ (field_at fields place).name → NextValue fields from (Some place) → parts_from chain index (stage.Value from) ≡ value_part (field_named name) ∷ parts_from chain index (stage.Value (place + 1))
value_next chain index from place l fields name is tokens_are named next =
    let others = drop (index + 1) chain in
    first_parts chain index l (stage.Value from) is
    ∙ ap (λ fs. value_parts (object_names (drop from fs)) (behind_values l others)) (sym tokens_are)
    ∙ ap (λ names. value_parts names (behind_values l others)) next.1
    ∙ ap (λ n. value_part (field_named n) ∷ value_parts (object_names (drop (place + 1) fields)) (behind_values l others)) (sym named)
    ∙ ap (λ fs. value_part (field_named name) ∷ value_parts (object_names (drop (place + 1) fs)) (behind_values l others)) tokens_are
    ∙ ap (λ parts. value_part (field_named name) ∷ parts) (sym (first_parts chain index l (stage.Value (place + 1)) is))

values_end : (chain : List NamedLayer) (index from : ℕ) (l : NamedLayer) (fields : List NamedField) → slice_get chain index ≡ Some l → fields ≡ fields_in l → NextValue fields from None → parts_from chain index (stage.Value from) ≡ note_if (has_notes l) (parts_from chain (index + 1) stage.Start)
values_end chain index from l fields is tokens_are next =
    let others = drop (index + 1) chain in
    first_parts chain index l (stage.Value from) is
    ∙ ap (λ fs. value_parts (object_names (drop from fs)) (behind_values l others)) (sym tokens_are)
    ∙ ap (λ names. value_parts names (behind_values l others)) next

pub notes_next : (chain : List NamedLayer) (index from : ℕ) (l : NamedLayer) (fields : List NamedField) (b : Bool) → slice_get chain index ≡ Some l → fields ≡ fields_in l → NextValue fields from None → b ≡ has_notes l → b ≡ true → parts_from chain index (stage.Value from) ≡ note_part ∷ parts_from chain (index + 1) stage.Start
notes_next chain index from l fields b is tokens_are next noted holds =
    values_end chain index from l fields is tokens_are next
    ∙ ap (λ t. note_if t (parts_from chain (index + 1) stage.Start)) (sym noted ∙ holds)

-- the same first part, where the parts are the same
carried : (here there : List SectionPart) (p : Part) (others : List SectionPart) → here ≡ there → BeginsWith there p others → BeginsWith here p others
carried here there p others same begins = subst (λ parts. BeginsWith parts p others) (sym same) begins

pub after_raw : (chain : List NamedLayer) (index from : ℕ) (l : NamedLayer) (fields : List NamedField) (next : NextPart) → slice_get chain index ≡ Some l → fields ≡ fields_in l → NextRaw fields from None → IsNextPart chain index (stage.Value 0) next → IsNextPart chain index (stage.Raw from) next
after_raw chain index from l fields next is tokens_are none begins =
    carried _ _ next.part _ (raw_end chain index from l fields is tokens_are none) begins

pub after_values : (chain : List NamedLayer) (index from : ℕ) (l : NamedLayer) (fields : List NamedField) (b : Bool) (next : NextPart) → slice_get chain index ≡ Some l → fields ≡ fields_in l → NextValue fields from None → b ≡ has_notes l → b ≡ false → IsNextPart chain (index + 1) stage.Start next → IsNextPart chain index (stage.Value from) next
after_values chain index from l fields b next is tokens_are none noted fails begins =
    carried _ _ next.part _
    (values_end chain index from l fields is tokens_are none
    ∙ ap (λ t. note_if t (parts_from chain (index + 1) stage.Start)) (sym noted ∙ fails))
    begins
