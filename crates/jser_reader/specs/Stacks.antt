-- The stack of frames, the innermost first.
use Rattle.std.specs.Prelude.{◌≡◌, ℕ, ◌+◌, ◌-◌, ◌≤◌, ◌<◌, Bool, true, false, List, [], ◌∷◌, length, reverse, Option, Some, None}
use Rattle.jser_reader.specs.declared.frame.Frame.{Frame}
use Rattle.jser_reader.specs.declared.frame.Frame.TheVariants as frame
use Rattle.jser_reader.specs.declared.frame.RawPlace.{RawPlace}

abbrev pub all_frames : Option Frame → List Frame → List Frame
all_frames None below = []
all_frames (Some f) below = f ∷ reverse below

abbrev pub tail_of : List Frame → List Frame
tail_of [] = []
tail_of (f ∷ fs) = fs

-- so many frames are open while a token of this depth is read: as many as it is deep, or one fewer
pub record FitsDepth (frames depth : ℕ) : Type 0 where
  pub most : frames ≤ depth
  pub least : depth ≤ frames + 1

-- what is on top
abbrev pub IsTop : List Frame → Option Frame → Type 0
IsTop frames None = frames ≡ []
IsTop frames (Some f) = (frames ≡ f ∷ tail_of frames) × (0 < length frames)

-- no raw value is left; and then no value
abbrev pub HasNoRaw : Frame → Type 0
HasNoRaw (frame.Elements left) = Unit {0}
HasNoRaw (frame.Fields last section pos prims values) = pos < prims → ⊥
HasNoRaw (frame.Notes last section) = Unit {0}
HasNoRaw frame.ExternalNotes = Unit {0}
HasNoRaw (frame.Descriptor number role) = Unit {0}

abbrev pub HasNoValue : Frame → Type 0
HasNoValue (frame.Elements left) = 0 < left → ⊥
HasNoValue (frame.Fields last section pos prims values) = (pos < prims → ⊥) → 0 < values → ⊥
HasNoValue (frame.Notes last section) = Unit {0}
HasNoValue frame.ExternalNotes = Unit {0}
HasNoValue (frame.Descriptor number role) = Unit {0}

-- a value was counted, which was the next part; or nothing was done
abbrev pub GivesValue : Bool → Frame → Frame → Type 0
GivesValue false old new = (new ≡ old) × HasNoValue old
GivesValue true (frame.Elements left) new = (0 < left) × (new ≡ frame.Elements (left - 1))
GivesValue true (frame.Fields last section pos prims values) new =
    (pos < prims → ⊥) × (0 < values) × (new ≡ frame.Fields last section pos prims (values - 1))
GivesValue true (frame.Notes last section) new = ⊥
GivesValue true frame.ExternalNotes new = ⊥
GivesValue true (frame.Descriptor number role) new = ⊥

-- a raw value is taken from a frame
abbrev pub GivesRaw : Option RawPlace → Frame → Frame → Type 0
GivesRaw None old new = (new ≡ old) × HasNoRaw old
GivesRaw (Some raw) (frame.Elements left) new = ⊥
GivesRaw (Some raw) (frame.Fields last section pos prims values) new =
    (raw.section ≡ section) × (raw.pos ≡ pos) × (pos < prims) × (new ≡ frame.Fields last section (pos + 1) prims values)
GivesRaw (Some raw) (frame.Notes last section) new = ⊥
GivesRaw (Some raw) frame.ExternalNotes new = ⊥
GivesRaw (Some raw) (frame.Descriptor number role) new = ⊥

-- a raw value is taken from the frame on top

abbrev pub IsOnTop : (Frame → Type 0) → List Frame → Type 0
IsOnTop P [] = Unit {0}
IsOnTop P (f ∷ fs) = P f

abbrev pub CountsValue : Bool → List Frame → List Frame → Type 0
CountsValue false old new = (new ≡ old) × IsOnTop HasNoValue old
CountsValue true [] new = ⊥
CountsValue true (f ∷ fs) new = (g : Frame) × GivesValue true f g × (new ≡ g ∷ fs)

abbrev pub CountsRaw : Option RawPlace → List Frame → List Frame → Type 0
CountsRaw None old new = (new ≡ old) × IsOnTop HasNoRaw old
CountsRaw (Some raw) [] new = ⊥
CountsRaw (Some raw) (f ∷ fs) new = (g : Frame) × GivesRaw (Some raw) f g × (new ≡ g ∷ fs)

-- neither is left
abbrev pub HasNoField : List Frame → Type 0
HasNoField frames = IsOnTop HasNoRaw frames × IsOnTop HasNoValue frames
