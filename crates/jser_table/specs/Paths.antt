-- Paths. The section of the class that was closed first under another one goes on with that one's path; any other begins a
-- path of its own. Along a path each section stands just under the one before, and keeps the number of the next.
use Rattle.std.specs.Prelude.{ℕ, ◌≡◌, ◌<◌, ◌≤◌, ◌⊎◌, List, [], ◌∷◌, ◌++◌, length, slice_set, Bool, true, false, Option, Some}
use Rattle.jser_table.specs.declared.layer.Layer.{Layer}
use Rattle.jser_table.specs.declared.section.Section.{Section}
use Rattle.jser_table.specs.declared.descriptor.Filed.{Filed}
use Rattle.jser_table.specs.Codes.{AreLeading}
use Rattle.jser_table.specs.Chains.{is_filled}
use Rattle.jser_table.specs.Sections.{down_to, layer_of, HoldsFor}
use Rattle.jser_table.specs.Upwards.{filed_in, upward_under}

-- what is kept of what a section holds
abbrev pub section_in : Filed → Section
section_in f = record { raw_bytes = f.raw_bytes; prims = f.prims; values = f.values; is_annotated = f.is_annotated }

-- the first section of the path of this one
abbrev pub path_of : List Filed → ℕ → ℕ
path_of sections number = (filed_in sections number).path

-- the next section of its path, or itself
abbrev pub below_of : List Filed → ℕ → ℕ
below_of sections number = (filed_in sections number).below

-- from this section the path goes on towards `end`, which is further down
pub record LeadsOn (chains : List (List Layer)) (sections : List Filed) (number end : ℕ) : Type 0 where
  pub after : number < below_of sections number
  pub upto : below_of sections number ≤ end
  pub path : path_of sections (below_of sections number) ≡ path_of sections number
  pub under : down_to chains (below_of sections number) ≡ down_to chains number ++ layer_of chains (below_of sections number) ∷ []

pub record ArePaths (chains : List (List Layer)) (sections : List Filed) : Type 0 where
  pub each : (number end : ℕ) → number < end → end < length sections → path_of sections number ≡ path_of sections end → LeadsOn chains sections number end
  pub begin : (number : ℕ) → number < length sections → path_of sections number ≤ number
  pub first : (number : ℕ) → number < length sections → path_of sections (path_of sections number) ≡ path_of sections number

-- with this one as the next
abbrev pub leading_to : ℕ → Filed → Filed
leading_to next f = record {
  raw_bytes = f.raw_bytes;
  prims = f.prims;
  values = f.values;
  is_annotated = f.is_annotated;
  leading = f.leading;
  class = f.class;
  path = f.path;
  below = next;
  upward = f.upward;
}

-- the next section goes on with the path of the one above, which was the last of it
pub record GoesOn (above : Option ℕ) (path : ℕ) (old new : List Filed) : Type 0 where
  pub number : ℕ
  pub above_is : above ≡ Some number
  pub inside : number < length old
  pub last : below_of old number ≡ number
  pub path_is : path ≡ path_of old number
  pub new_is : new ≡ slice_set old number (leading_to (length old) (filed_in old number))

-- or begins one
abbrev pub IsPathUnder : Option ℕ → (path : ℕ) → (old new : List Filed) → Type 0
IsPathUnder above path old new = ((path ≡ length old) × (new ≡ old)) ⊎ GoesOn above path old new

-- one more class with this layer: its section comes at the end of the list, if it has one
pub record FilesOne (layer : Layer) (class : ℕ) (above : Option ℕ) (old new : List Filed) : Type 0 where
  pub filed : Filed
  pub linked : List Filed
  pub class_is : filed.class ≡ class
  pub path : IsPathUnder above filed.path old linked
  pub last : filed.below ≡ length old
  pub upward : filed.upward ≡ upward_under old above
  pub holds : HoldsFor layer (section_in filed)
  pub leading : AreLeading layer.codes filed.leading
  pub added : new ≡ linked ++ filed ∷ []

abbrev pub FilesIf : Bool → Layer → (class : ℕ) (above : Option ℕ) (old new : List Filed) → Type 0
FilesIf true layer class above old new = FilesOne layer class above old new
FilesIf false layer class above old new = new ≡ old

abbrev pub Files : Layer → (class : ℕ) (above : Option ℕ) (old new : List Filed) → Type 0
Files layer class above old new = FilesIf (is_filled layer) layer class above old new
