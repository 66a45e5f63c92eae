-- The numbers of the frames are those of sections and of descriptors that are open; and no more layers are kept than
-- descriptors are open.
use Rattle.std.specs.Prelude.{◌≡◌, ℕ, suc, ◌≤◌, ◌<◌, List, [], ◌∷◌, length, slice_get, IsTrue}
use Rattle.jser_table.specs.declared.layer.Layer.{Layer}
use Rattle.jser_table.specs.Codes.{primitive_codes}
use Rattle.jser_table.specs.Entries.{TableEntry, is_pending}
use Rattle.jser_table.specs.Sections.{layer_of, IsOn}
use Rattle.jser_reader.specs.declared.frame.Frame.{Frame}
use Rattle.jser_reader.specs.declared.frame.Frame.TheVariants as frame

-- the numbers of a section's frame
abbrev pub FrameFits : List TableEntry → List (List Layer) → Frame → Type 0
FrameFits T C (frame.Elements left) = Unit {0}
FrameFits T C (frame.Fields last section pos prims values) =
    IsOn C last section × (prims ≡ length (primitive_codes (layer_of C section).codes)) × (pos ≤ prims)
FrameFits T C (frame.Notes last section) = IsOn C last section
FrameFits T C frame.ExternalNotes = Unit {0}
FrameFits T C (frame.Descriptor number role) = IsTrue (is_pending (slice_get T number))

-- those of outer descriptors are lower
abbrev pub bound_below : ℕ → Frame → ℕ
bound_below bound (frame.Elements left) = bound
bound_below bound (frame.Fields last section pos prims values) = bound
bound_below bound (frame.Notes last section) = bound
bound_below bound frame.ExternalNotes = bound
bound_below bound (frame.Descriptor number role) = number

abbrev pub IsBelow : ℕ → Frame → Type 0
IsBelow bound (frame.Elements left) = Unit {0}
IsBelow bound (frame.Fields last section pos prims values) = Unit {0}
IsBelow bound (frame.Notes last section) = Unit {0}
IsBelow bound frame.ExternalNotes = Unit {0}
IsBelow bound (frame.Descriptor number role) = number < bound

abbrev pub FramesFit : List TableEntry → List (List Layer) → ℕ → List Frame → Type 0
FramesFit T C bound [] = Unit {0}
FramesFit T C bound (f ∷ fs) = FrameFits T C f × IsBelow bound f × FramesFit T C (bound_below bound f) fs

abbrev pub IsDescriptor : Frame → Type 0
IsDescriptor (frame.Elements left) = ⊥
IsDescriptor (frame.Fields last section pos prims values) = ⊥
IsDescriptor (frame.Notes last section) = ⊥
IsDescriptor frame.ExternalNotes = ⊥
IsDescriptor (frame.Descriptor number role) = Unit {0}

abbrev pub HasDescriptor : List Frame → Type 0
HasDescriptor [] = ⊥
HasDescriptor (f ∷ fs) = IsDescriptor f

pub record AllFit (T : List TableEntry) (C : List (List Layer)) (frames : List Frame) : Type 0 where
  pub all : FramesFit T C (length T) frames

-- what is on top is an array or an object
abbrev pub IsPart : Frame → Type 0
IsPart (frame.Elements left) = Unit {0}
IsPart (frame.Fields last section pos prims values) = Unit {0}
IsPart (frame.Notes last section) = Unit {0}
IsPart frame.ExternalNotes = Unit {0}
IsPart (frame.Descriptor number role) = ⊥

abbrev pub HasParts : List Frame → Type 0
HasParts [] = ⊥
HasParts (f ∷ fs) = IsPart f

-- how many descriptors there are, where there are so many below this frame
abbrev pub descriptors_with : Frame → (below : ℕ) → ℕ
descriptors_with (frame.Elements left) below = below
descriptors_with (frame.Fields last section pos prims values) below = below
descriptors_with (frame.Notes last section) below = below
descriptors_with frame.ExternalNotes below = below
descriptors_with (frame.Descriptor number role) below = suc below

abbrev pub descriptors_in : List Frame → ℕ
descriptors_in [] = 0
descriptors_in (f ∷ fs) = descriptors_with f (descriptors_in fs)

-- the layers below the innermost one are no more than the descriptors that are open
pub record LayersFit (outer : List Layer) (frames : List Frame) : Type 0 where
  pub few : length outer ≤ descriptors_in frames
