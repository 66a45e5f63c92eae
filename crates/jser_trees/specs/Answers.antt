-- What the answers of the call that makes trees mean.
use Rattle.std.specs.Prelude.{◌≢◌, ℕ, ◌≤◌, List, ◌++◌, length, take}
use Rattle.jser_grammar.specs.Parts.{IsBytes}
use Rattle.jser_grammar.specs.Trees.{ContentTrees}
use Rattle.jser_grammar.specs.Streams.{IsStreamOf}
use Rattle.jser_grammar.specs.Counts.{depth_of}
use Rattle.jser_grammar.specs.Caps.{most_tree_bytes, most_tree_depth}
use Rattle.jser_verdict.specs.Gates.{Gate, lowered}
use Rattle.jser_verdict.specs.Passing.{Passes}
use Rattle.jser_reader.specs.declared.Reason.TheVariants as reason
use Rattle.jser_reader.specs.declared.Refusal.{Refusal}
pub use Rattle.jser_reader.specs.Answers.{CarriesFirst, IfRefused}

-- The gate of trees: at most 2^31 - 1 bytes, and at most 1,000 deep.
abbrev pub tree_gate : Gate → Gate
tree_gate gate = lowered most_tree_bytes most_tree_depth gate

-- the bytes are a stream of some list that passes
abbrev pub SomePasses : Gate → List ℕ → Type 0
SomePasses gate bytes = (list : ContentTrees) × Passes gate bytes list

-- The refusal is right of the bytes: they are no stream that passes, and none that passes begins with the first
-- `to_byte` of them. Truncated speaks of all the bytes.
pub record Refuses (gate : Gate) (bytes : List ℕ) (refusal : Refusal) : Type 0 where
  pub none : SomePasses gate bytes → ⊥
  pub begins : refusal.reason ≢ reason.Truncated → (after : List ℕ) → IsBytes after → SomePasses gate (take refusal.to_byte bytes ++ after) → ⊥
  pub within : refusal.to_byte ≤ length bytes

-- the bytes are a stream of some list within the caps of trees
pub record IsTreeStream (bytes : List ℕ) : Type 0 where
  pub list : ContentTrees
  pub is_stream : IsStreamOf bytes list
  pub depth : depth_of list ≤ most_tree_depth
  pub size : length bytes ≤ most_tree_bytes
