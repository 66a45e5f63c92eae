-- Which streams a gate lets pass, in words of the tree alone: no token, no machine and no verdict occurs here.
use Rattle.std.specs.Prelude.{ℕ, ◌≤◌, ◌≡◌, List, length}
use Rattle.jser_grammar.specs.Trees.{ContentTrees}
use Rattle.jser_grammar.specs.Streams.{IsStreamOf}
use Rattle.jser_grammar.specs.CheckedNames.{checked_names}
use Rattle.jser_grammar.specs.Counts.{depth_of, refs_of, array_lengths, epoch_handles}
use Rattle.jser_reading.specs.GateLimits.{Each}
use Rattle.jser_verdict.specs.Gates.{Gate, pass}

-- The bytes are a stream of this list; the gate answers `pass` to each checked name; and the length, the depth, the
-- number of places, each array length and the handles of each epoch are at most its limits.
abbrev pub Passes : Gate → List ℕ → ContentTrees → Type 0
Passes gate bytes list =
    IsStreamOf bytes list × Each (λ name. gate.answer name ≡ pass) (checked_names list)
    × (length bytes ≤ gate.bytes) × (depth_of list ≤ gate.depth) × (refs_of list ≤ gate.refs)
    × Each (λ n. n ≤ gate.array) (array_lengths list) × Each (λ n. n ≤ gate.handles) (epoch_handles list)
