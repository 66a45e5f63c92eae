-- What the reading machine still has to read: a stack of goals, the next one first. A goal is read by one token,
-- and leads to others. Some goals take no token, and are settled as soon as they are next: parts that are empty,
-- a class that has been read (the entry of its owner is added), a descriptor whose superclass has been read (its
-- entry is closed). `d` is the depth, `number` the number of an entry in the table.
use Rattle.std.specs.Prelude.{ℕ, zero, suc, Bool, true, false, List, [], ◌∷◌, ◌++◌, Option, Some, None}
use Rattle.jser_table.specs.declared.layer.Layer.{Layer}
use Rattle.jser_table.specs.Chains.{has_write_method}
use Rattle.jser_table.specs.Entries.{other_entry, chain_at}
use Rattle.jser_table.specs.Names.{NameKind, layer_kind}
use Rattle.jser_grammar.specs.Codes.{PrimCode, primitive_codes, object_count}
use Rattle.jser_grammar.specs.TableAfter.{proxy_layer}
use Rattle.jser_grammar.specs.Parts.{elements_of, is_external}
use Rattle.jser_reading.specs.Roles.{Owner, object_owner, array_owner, enum_owner, class_owner, ChainOwner, Role, owner_of, is_strict_above}
use Rattle.jser_reading.specs.Moments.{Moment, assign, closing}

-- the parts of an object's sections and of an array's body: so many raw values, a value, an annotation
pub data Part : Type 0 where
  raw_part : PrimCode → ℕ → Part
  value_part annotation_part : Part

pub data Goal : Type 0 where
  header_goal top_goal : Goal
  annotation_goal back_handle_goal text_place_goal text_handle_goal field_name_goal : (d : ℕ) → Goal
  string_goal block_length_goal : (long : Bool) (d : ℕ) → Goal
  block_goal : (d size : ℕ) → Goal
  array_length_goal : Option PrimCode → (d : ℕ) → Goal
  parts_goal : (d : ℕ) → List Part → Goal
  class_goal class_handle_goal : Owner → (d : ℕ) → Goal
  made_goal : Owner → (d number : ℕ) → Goal
  superclass_goal superclass_handle_goal : ChainOwner → (strict : Bool) (d number : ℕ) → Layer → Goal
  close_goal : (number parent : ℕ) → Layer → Goal
  class_name_goal : Role → (d : ℕ) → Goal
  suid_goal : Role → (d : ℕ) → NameKind → Goal
  flags_goal : Role → (d number : ℕ) → NameKind → Goal
  field_count_goal : Role → (d number : ℕ) → NameKind → (flags : ℕ) → Goal
  fields_goal : Role → (d number : ℕ) → NameKind → (flags : ℕ) (seen : Bool) → (codes : List ℕ) → (count : ℕ) → Goal
  interface_count_goal : Role → (d number : ℕ) → Goal
  interfaces_goal : Role → (d number count : ℕ) → Goal

abbrev pub State : Type 0
State = Moment × List Goal

-- the parts of the sections of an object with this chain

abbrev pub prim_parts : List PrimCode → List Part → List Part
prim_parts [] parts = parts
prim_parts (c ∷ cs) parts = raw_part c 1 ∷ prim_parts cs parts

abbrev pub value_parts : ℕ → List Part → List Part
value_parts zero parts = parts
value_parts (suc n) parts = value_part ∷ value_parts n parts

abbrev pub annotation_if : Bool → List Part → List Part
annotation_if true parts = annotation_part ∷ parts
annotation_if false parts = parts

abbrev pub section_parts : List Layer → List Part
section_parts [] = []
section_parts (l ∷ ls) =
    prim_parts (primitive_codes l.codes)
    (value_parts (object_count l.codes) (annotation_if (has_write_method l.flags) (section_parts ls)))

abbrev pub object_parts : Bool → List Layer → List Part
object_parts true chain = annotation_part ∷ []
object_parts false chain = section_parts chain

-- the parts of the body of an array
abbrev pub body_parts : Option PrimCode → ℕ → List Part
body_parts None n = value_parts n []
body_parts (Some c) n = raw_part c n ∷ []

-- the layer of a plain descriptor whose type codes were read, the last one first
abbrev pub in_order : List ℕ → List ℕ → List ℕ
in_order [] codes = codes
in_order (c ∷ cs) codes = in_order cs (c ∷ codes)

abbrev pub read_layer : NameKind → ℕ → List ℕ → Layer
read_layer kind flags codes = record { kind = layer_kind kind; flags = flags; codes = in_order codes [] }

-- behind the fields or interfaces of a descriptor: its annotation and its superclass place
abbrev pub ending : Role → ℕ → ℕ → ℕ → Layer → List Goal → List Goal
ending role d number flags layer goals =
    annotation_goal d ∷ superclass_goal (owner_of role) (is_strict_above role flags) (suc d) number layer ∷ goals

-- `settled` is the state of the goals behind the parts
abbrev pub settle_parts : ℕ → List Part → Moment → List Goal → State → State
settle_parts d [] m goals settled = settled
settle_parts d (raw_part c zero ∷ parts) m goals settled = settle_parts d parts m goals settled
settle_parts d (raw_part c (suc n) ∷ parts) m goals settled = (m, parts_goal d (raw_part c (suc n) ∷ parts) ∷ goals)
settle_parts d (value_part ∷ parts) m goals settled = (m, parts_goal d (value_part ∷ parts) ∷ goals)
settle_parts d (annotation_part ∷ parts) m goals settled = (m, annotation_goal d ∷ parts_goal d parts ∷ goals)

abbrev pub settle_block : ℕ → ℕ → Moment → List Goal → State → State
settle_block d zero m goals settled = settled
settle_block d (suc n) m goals settled = (m, block_goal d (suc n) ∷ goals)

abbrev pub settle_fields : Role → ℕ → ℕ → NameKind → ℕ → Bool → List ℕ → ℕ → Moment → List Goal → State
settle_fields role d number kind flags seen codes zero m goals =
    (m, ending role d number flags (read_layer kind flags codes) goals)
settle_fields role d number kind flags seen codes (suc n) m goals =
    (m, fields_goal role d number kind flags seen codes (suc n) ∷ goals)

abbrev pub settle_interfaces : Role → ℕ → ℕ → ℕ → Moment → List Goal → State
settle_interfaces role d number zero m goals = (m, ending role d number 0 proxy_layer goals)
settle_interfaces role d number (suc n) m goals = (m, interfaces_goal role d number (suc n) ∷ goals)

-- the goals that take no token and are next are done
abbrev pub settle : Moment → List Goal → State
settle m [] = (m, [])
settle m (block_goal d n ∷ goals) = settle_block d n m goals (settle m goals)
settle m (parts_goal d parts ∷ goals) = settle_parts d parts m goals (settle m goals)
settle m (made_goal object_owner d number ∷ goals) =
    let made = assign m other_entry in
    let chain = chain_at m.table number in
    settle_parts d (object_parts (is_external chain) chain) made goals (settle made goals)
settle m (made_goal array_owner d number ∷ goals) =
    (assign m other_entry, array_length_goal (elements_of (chain_at m.table number)) d ∷ goals)
settle m (made_goal enum_owner d number ∷ goals) = (assign m other_entry, text_place_goal d ∷ goals)
settle m (made_goal class_owner d number ∷ goals) = settle (assign m other_entry) goals
settle m (close_goal number parent layer ∷ goals) =
    settle (closing m number (chain_at m.table parent ++ (layer ∷ []))) goals
settle m (fields_goal role d number kind flags seen codes n ∷ goals) =
    settle_fields role d number kind flags seen codes n m goals
settle m (interfaces_goal role d number n ∷ goals) = settle_interfaces role d number n m goals
settle m (goal ∷ goals) = (m, goal ∷ goals)

abbrev pub settled : State → State
settled (m, goals) = settle m goals
