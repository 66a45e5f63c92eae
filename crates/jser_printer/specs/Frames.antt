-- What the printer keeps on its stack, in few bytes, and the cues for which that stands.
use Rattle.std.specs.Prelude.{ℕ, Bool, true, false, ◌≡◌, ◌<◌, suc, List, [], ◌∷◌, drop, reverse, Option, Some, None}
use Rattle.jser_reading.specs.Labels.{Tag as ToldTag}
use Rattle.jser_shown.specs.Owners.{OwnerNode}
use Rattle.jser_shown.specs.Telling.{SeenToken, begin, goes_in}
use Rattle.jser_shown.specs.Known.{Known, NamedLayer, prim_fields, object_names, fields_in, has_notes, own_class_of}
use Rattle.jser_shown.specs.Words.{Epoch}
use Rattle.jser_shown.specs.Shown.{field_named}
use Rattle.jser_shown.specs.Cues.{SectionPart, data_part, external_part, raw_part, value_part, note_part, Cue, top_cue, note_cue, elements_cue, parts_cue, made_cue, super_cue, super_handle_cue, close_cue, raw_parts, value_parts, note_if, section_parts, Teller, teller}
use Rattle.jser_printer.specs.declared.frame.Frame.{Frame}
use Rattle.jser_printer.specs.declared.frame.Frame.TheVariants as frame
use Rattle.jser_printer.specs.declared.frame.Sections.{Sections}
use Rattle.jser_printer.specs.declared.frame.Stage.{Stage}
use Rattle.jser_printer.specs.declared.frame.Stage.TheVariants as stage
use Rattle.jser_printer.specs.declared.part.Part.{Part}
use Rattle.jser_printer.specs.declared.part.Part.TheVariants as part
use Rattle.jser_printer.specs.declared.part.NextPart.{NextPart}
use Rattle.jser_printer.specs.Steps.{Due, due_in, layer_name, pass_in}
use Rattle.jser_printer.specs.Given.{view_owner}
use Rattle.jser_printer.specs.Names.{view_name}
use Rattle.jser_printer.specs.Layers.{view_field}
use Rattle.jser_printer.specs.Primitives.{view_elements}
use Rattle.jser_printer.specs.Tables.{layer_in, layers_in}

-- the parts of the sections of these classes from a stage of the first one on
abbrev pub parts_at : Stage → List NamedLayer → List SectionPart
parts_at stage.Start layers = section_parts layers
parts_at (stage.Raw i) [] = []
parts_at (stage.Raw i) (l ∷ layers) =
    raw_parts (prim_fields (drop i (fields_in l)))
    (value_parts (object_names (fields_in l)) (note_if (has_notes l) (section_parts layers)))
parts_at (stage.Value i) [] = []
parts_at (stage.Value i) (l ∷ layers) =
    value_parts (object_names (drop i (fields_in l))) (note_if (has_notes l) (section_parts layers))

-- the parts from this stage of the layer at this index of a chain on
abbrev pub parts_from : List NamedLayer → (index : ℕ) → Stage → List SectionPart
parts_from chain index stage = parts_at stage (drop index chain)

-- the parts of an object's sections that are still to come
abbrev pub parts_of : List (List NamedLayer) → Sections → List SectionPart
parts_of chains at = parts_from (layers_in chains at.chain) at.index at.stage

-- the same sections from a stage of the layer at this index on
abbrev pub go_on : Sections → (index : ℕ) → Stage → Sections
go_on at index stage = record { level = at.level; chain = at.chain; index = index; stage = stage }

-- the cue of a frame, where these are the layers and the chains of the table
abbrev pub cue_of : List NamedLayer → List (List NamedLayer) → Frame → Cue
cue_of layers chains (frame.Notes level) = note_cue level
cue_of layers chains (frame.Elements at) = elements_cue at.level (view_elements at.elements) at.index at.left
cue_of layers chains (frame.Sections at) = parts_cue at.level (parts_of chains at)
cue_of layers chains (frame.External level chain) =
    parts_cue level (external_part (own_class_of (layers_in chains chain)) ∷ note_part ∷ [])
cue_of layers chains (frame.ExternalNotes level chain) = parts_cue level (note_part ∷ [])
cue_of layers chains (frame.ExternalEnd level chain) = parts_cue level []
cue_of layers chains (frame.End level) = parts_cue level []
cue_of layers chains (frame.Made owner level number) = made_cue (view_owner owner) level number
cue_of layers chains (frame.Super at) = super_cue at.level at.number (layer_in layers at.layer)
cue_of layers chains (frame.SuperHandle at) = super_handle_cue at.level at.number (layer_in layers at.layer)
cue_of layers chains (frame.Close number parent layer) = close_cue number parent (layer_in layers layer)

-- the cues of a stack, the top first; below it is the top of the stream
abbrev pub cues_of : List NamedLayer → List (List NamedLayer) → List Frame → List Cue
cues_of layers chains [] = top_cue ∷ []
cues_of layers chains (f ∷ frames) = cue_of layers chains f ∷ cues_of layers chains frames

-- the frame has a layer and a chain of so many
abbrev pub FrameFits : (layers chains : ℕ) → Frame → Type 0
FrameFits layers chains (frame.Sections at) = at.chain < chains
FrameFits layers chains (frame.External level chain) = chain < chains
FrameFits layers chains (frame.ExternalNotes level chain) = chain < chains
FrameFits layers chains (frame.ExternalEnd level chain) = chain < chains
FrameFits layers chains (frame.Super at) = at.layer < layers
FrameFits layers chains (frame.SuperHandle at) = at.layer < layers
FrameFits layers chains (frame.Close number parent layer) = layer < layers
FrameFits layers chains f = Unit {0}

abbrev pub FramesFit : (layers chains : ℕ) → List Frame → Type 0
FramesFit layers chains [] = Unit {0}
FramesFit layers chains (f ∷ frames) = FrameFits layers chains f × FramesFit layers chains frames

-- the first line of the section of a class with this name, and then these parts
pub record BeginsSection (parts : List SectionPart) (name : Option (List ℕ)) (others : List SectionPart) : Type 0 where
  pub layer : NamedLayer
  pub name_is : layer_name layer ≡ name
  pub parts_are : parts ≡ data_part layer ∷ others

-- these parts begin with this one, and then come the others
abbrev pub BeginsWith : List SectionPart → Part → List SectionPart → Type 0
BeginsWith parts (part.Section name) others = BeginsSection parts (view_name name) others
BeginsWith parts (part.Raw f) others = parts ≡ raw_part (view_field f.now) ∷ others
BeginsWith parts (part.Value name) others = parts ≡ value_part (field_named name.now) ∷ others
BeginsWith parts part.Notes others = parts ≡ note_part ∷ others
BeginsWith parts part.End others = parts ≡ []

-- the first part from this stage on, and where the others begin
abbrev pub IsNextPart : List NamedLayer → (index : ℕ) → Stage → NextPart → Type 0
IsNextPart chain index stage next =
    BeginsWith (parts_from chain index stage) next.part (parts_from chain next.index next.stage)

-- behind the first line of a section come its fields
abbrev pub LeadsToFields : Part → Stage → Type 0
LeadsToFields (part.Section name) s = s ≡ stage.Raw 0
LeadsToFields p s = Unit {0}

-- on a stack
abbrev pub all_frames : Option Frame → List Frame → List Frame
all_frames None below = []
all_frames (Some f) below = f ∷ reverse below

abbrev pub tail_of : List Frame → List Frame
tail_of [] = []
tail_of (f ∷ frames) = frames

abbrev pub IsTop : List Frame → Option Frame → Type 0
IsTop frames None = frames ≡ []
IsTop frames (Some f) = frames ≡ f ∷ tail_of frames

abbrev pub others_of : List Cue → List Cue
others_of [] = []
others_of (cue ∷ cues) = cues

-- this cue is the first of a teller's
abbrev pub FirstIs : Cue → Teller → Type 0
FirstIs cue s = s.cues ≡ cue ∷ others_of s.cues

-- At the sections on top of a stack a token leads to these frames, and to the value with this tag, if it begins one.
abbrev pub TakesPart : List NamedLayer → List (List NamedLayer) → (level : ℕ) → (old new : List Frame) → SeenToken → Option ToldTag → Type 0
TakesPart layers chains level old new token None =
    (e : Epoch) (known : Known) (os : List OwnerNode)
    → goes_in e known os (cues_of layers chains old) token ≡ teller e known os (cues_of layers chains new)
TakesPart layers chains level old new token (Some tag) =
    (e : Epoch) (known : Known) (os : List OwnerNode)
    → goes_in e known os (cues_of layers chains old) token ≡ begin e (suc level) known os tag (cues_of layers chains new)

-- What is due on top of a stack is done and leads to these frames, or nothing is due.
abbrev pub PassesTop : List NamedLayer → List (List NamedLayer) → (more : Bool) → (old new : List Frame) → Type 0
PassesTop layers chains true old new =
    ((d : Due) × (due_in (cues_of layers chains old) ≡ Some d))
    × ((e : Epoch) (known : Known) (os : List OwnerNode) → teller e known os (cues_of layers chains new) ≡ pass_in (cues_of layers chains old) e known os)
PassesTop layers chains false old new = (due_in (cues_of layers chains old) ≡ None) × (new ≡ old)
