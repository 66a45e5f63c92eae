-- Handles and lengths: what comes after them.
use Rattle.std.specs.Prelude.{ℕ, ◌∷◌, length, Option, None}
use Rattle.jser_table.specs.Codes.{PrimCode}
use Rattle.jser_reading.specs.Goals.{State, block_goal, body_parts, parts_goal, settle}
use Rattle.jser_verdict.specs.Reasons.{Reason, no_such_handle}
use Rattle.jser_verdict.specs.HandleRows.{is_no_handle}
use Rattle.jser_verdict.specs.Verdicts.{told_if}
use Rattle.jser_reader.specs.Readers.{Seen, moment_of, depth_of, goals_of}

abbrev pub back_reason : Seen → ℕ → Option Reason
back_reason r n = told_if (is_no_handle r.table.entries n) no_such_handle None

-- so many elements come, or so many bytes of a block

unfoldable pub after_length : Seen → Option PrimCode → ℕ → State
after_length r elements n = settle (moment_of r) (parts_goal (depth_of r) (body_parts elements n) ∷ goals_of r)

unfoldable pub after_block_length : Seen → ℕ → State
after_block_length r n = settle (moment_of r) (block_goal (length r.frames) n ∷ goals_of r)
