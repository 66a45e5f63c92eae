-- Why a list of contents is refused: the first of these that holds.
use Rattle.std.specs.Prelude.{◌≡◌, ◌<◌, ◌≤◌, length, Ok, Err}
use Rattle.std.specs.declared.result.Result.{Result}
use Rattle.jser_value.specs.declared.contents.Contents.{Contents}
use Rattle.jser_value.specs.declared.contents.ValueCause.{ValueCause}
use Rattle.jser_value.specs.declared.contents.ValueCause.TheVariants as cause
use Rattle.jser_value.specs.declared.contents.ValueFault.{ValueFault}
use Rattle.jser_grammar.specs.Trees.{ContentTrees}
use Rattle.jser_grammar.specs.Spelling.{spelling}
use Rattle.jser_grammar.specs.WellFormed.{WellFormed}
use Rattle.jser_grammar.specs.Counts.{depth_of}
use Rattle.jser_grammar.specs.Caps.{most_tree_bytes, most_tree_depth}

-- neither deeper nor longer than trees may be
pub record IsWithin (contents : ContentTrees) : Type 0 where
  pub depth : depth_of contents ≤ most_tree_depth
  pub size : length (spelling contents) ≤ most_tree_bytes

abbrev pub IsTooDeep : ContentTrees → Type 0
IsTooDeep contents = most_tree_depth < depth_of contents

-- not too deep, and too long
abbrev pub IsTooLarge : ContentTrees → Type 0
IsTooLarge contents = (depth_of contents ≤ most_tree_depth) × (most_tree_bytes < length (spelling contents))

-- neither, and against the format
abbrev pub IsNotRight : ContentTrees → Type 0
IsNotRight contents = IsWithin contents × (WellFormed contents → ⊥)

-- what a cause says of a list
abbrev pub Explains : ValueCause → ContentTrees → Type 0
Explains cause.TooDeep contents = IsTooDeep contents
Explains cause.TooLarge contents = IsTooLarge contents
Explains cause.NotRight contents = IsNotRight contents
Explains cause.OutOfMemory contents = IsWithin contents

-- the answer is this cause
abbrev pub FailsBy : Result Contents ValueFault → ValueCause → Type 0
FailsBy (Ok contents) cause = ⊥
FailsBy (Err fault) cause = fault.cause ≡ cause
