-- Where a walk up from a section leads. Each section keeps the one just above it and one further up, as a class keeps its
-- links, and how many sections there are down to it.
use Rattle.std.specs.Prelude.{ℕ, ◌≡◌, ◌+◌, ◌*◌, ◌<◌, ◌≤◌, ◌==◌, ◌++◌, if◌then◌else◌, false, List, [], ◌∷◌, length, slice_index_or, Option, Some, None}
use Rattle.jser_table.specs.declared.layer.Layer.{Layer}
use Rattle.jser_table.specs.declared.descriptor.Upward.{Upward}
use Rattle.jser_table.specs.declared.descriptor.Filed.{Filed}
use Rattle.jser_table.specs.Chains.{IsFront}
use Rattle.jser_table.specs.Sections.{HasSection, down_to, layer_of}

-- the section with this number has none above it
abbrev pub at_top : (number : ℕ) → Upward
at_top number = record { above = number; jump = number; count = 1 }

abbrev pub no_filed : Filed
no_filed = record { raw_bytes = 0; prims = 0; values = 0; is_annotated = false; leading = 0; class = 0; path = 0; below = 0; upward = record { above = 0; jump = 0; count = 0 } }

abbrev pub filed_in : List Filed → ℕ → Filed
filed_in sections number = slice_index_or sections number no_filed

abbrev pub upward_in : List Filed → ℕ → Upward
upward_in sections number = (filed_in sections number).upward

-- A section jumps beyond the two last jumps of the section above it, where these are as long as each other, and else to that.
abbrev pub jump_by : (above : ℕ) (near middle top : Upward) → ℕ
jump_by above near middle top = if near.count + top.count == 2 * middle.count then middle.jump else above

abbrev pub upward_by : (above : ℕ) (near middle top : Upward) → Upward
upward_by above near middle top = record { above = above; jump = jump_by above near middle top; count = near.count + 1 }

-- where a walk goes up from the next section, if it comes just under this one
abbrev pub upward_below : List Filed → (above : ℕ) → Upward
upward_below sections above =
    upward_by above (upward_in sections above) (upward_in sections (upward_in sections above).jump)
    (upward_in sections (upward_in sections (upward_in sections above).jump).jump)

-- where a walk goes up from the next section, which has this one just above it, or none
abbrev pub upward_under : List Filed → Option ℕ → Upward
upward_under sections None = at_top (length sections)
upward_under sections (Some above) = upward_below sections above

-- both links of a section lead to sections above it, if there are any
pub record IsUpward (chains : List (List Layer)) (number : ℕ) (up : Upward) : Type 0 where
  pub count : up.count ≡ length (down_to chains number)
  pub within : up.count ≤ number + 1
  pub jump_in : up.jump ≤ number
  pub front : IsFront (down_to chains up.jump) (down_to chains number)
  pub back : 1 < up.count → up.jump < number
  pub above_in : 1 < up.count → up.above < number
  pub above : 1 < up.count → down_to chains number ≡ down_to chains up.above ++ layer_of chains number ∷ []

-- no section leads down, or has more above it than there are before it
abbrev pub LeadUp : List Filed → Type 0
LeadUp sections = (number : ℕ) → number < length sections → ((upward_in sections number).jump ≤ number) × ((upward_in sections number).count ≤ number + 1)

-- one link up from a section, to one with more than `before` sections above it
pub record RisesOver (chains : List (List Layer)) (before place higher : ℕ) : Type 0 where
  pub lower : higher < place
  pub front : IsFront (down_to chains higher) (down_to chains place)
  pub over : before < length (down_to chains higher)

-- the section of these data that has so many above it
pub record IsAfter (chains : List (List Layer)) (last before number : ℕ) : Type 0 where
  pub inside : HasSection chains number
  pub front : IsFront (down_to chains number) (down_to chains last)
  pub long : length (down_to chains number) ≡ before + 1
