-- How many of some bytes are whole contents: the length of the longest front of them that is a stream.
use Rattle.std.specs.Prelude.{◌≡◌, ◌⊎◌, ℕ, ◌<◌, ◌≤◌, List, ◌++◌, length, take}
use Rattle.jser_grammar.specs.Trees.{ContentTrees}
use Rattle.jser_grammar.specs.Parts.{IsBytes}
use Rattle.jser_verdict.specs.Gates.{Gate}
use Rattle.jser_verdict.specs.Passing.{Passes}

-- The first n of these bytes are a stream that the gate lets pass, or n is 0; and no longer front is one. The header alone
-- is a stream of no contents.
pub record IsWhole (gate : Gate) (bytes : List ℕ) (n : ℕ) : Type 0 where
  pub within : n ≤ length bytes
  pub front : (n ≡ 0) ⊎ ((list : ContentTrees) × Passes gate (take n bytes) list)
  pub longest : (m : ℕ) → n < m → m ≤ length bytes → (list : ContentTrees) → Passes gate (take m bytes) list → ⊥

-- So many of these bytes are whole contents, whatever bytes come after them.
abbrev pub StaysWhole : Gate → List ℕ → ℕ → Type 0
StaysWhole gate bytes n = (after : List ℕ) → IsBytes after → IsWhole gate (bytes ++ after) n

-- There is one such number.
abbrev pub OneIsWhole : Type 0
OneIsWhole = (gate : Gate) (bytes : List ℕ) (n m : ℕ) → IsWhole gate bytes n → IsWhole gate bytes m → n ≡ m
