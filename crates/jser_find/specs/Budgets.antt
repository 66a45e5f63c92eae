-- How many bytes are read at a header.
use Rattle.std.specs.Prelude.{◌≡◌, ℕ, ◌<◌, ◌≤◌, List, length, Option, None, Some}
use Rattle.jser_verdict.specs.Gates.{Gate}
use Rattle.jser_verdict.specs.Answers.{Told, accepted, refused_at, answer}
use Rattle.jser_reader.specs.Gates.{open_gate}
use Rattle.jser_reader.specs.WholeContents.{IsWhole}
use Rattle.jser_find.specs.declared.finder.Whole.{Whole}

abbrev pub decided : (all : ℕ) → Told → ℕ
decided all accepted = all
decided all (refused_at at end reason) = end

-- How many of these bytes decide what a check under the gate answers of them: those up to the end of what it refuses; all, where they
-- are a stream or end too early. A reader takes so many, and no more.
unfoldable pub deciding_by : Gate → List ℕ → ℕ
deciding_by gate bytes = decided (length bytes) (answer gate bytes)

-- under the greatest limits
abbrev pub deciding : List ℕ → ℕ
deciding bytes = deciding_by open_gate bytes

-- the longest stream of these bytes, where no more than so many of them decide; or that more do
abbrev pub IsKnown : (left : ℕ) → List ℕ → Option Whole → Type 0
IsKnown left bytes None = left < deciding bytes
IsKnown left bytes (Some whole) = IsWhole open_gate bytes whole.len × (whole.read ≡ deciding bytes) × (whole.read ≤ left)
