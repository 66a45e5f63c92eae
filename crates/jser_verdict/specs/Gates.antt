-- A gate: its limits, and its answer to each checked name. What its limits may be at most is `IsGate`; of what the
-- limits say, see `Passing` for whole lists and `Rows` for the bytes of one token.
use Rattle.std.specs.Prelude.{ℕ, ◌-◌, ◌^◌, ◌≤◌, min, Bool, true, false, List}
use Rattle.jser_grammar.specs.Caps.{most_bytes, most_depth, most_refs, most_array, most_handles}
use Rattle.jser_reading.specs.GateLimits.{GateLimits}

pub data Answer : Type 0 where
  pass rejected unmatched : Answer

-- The limits are those on the number of bytes, the depth of each place, the number of places, the length of each
-- array, and the number of handles of each epoch; a number exceeds a limit when it is greater.
pub record Gate : Type 0 where
  pub bytes : ℕ
  pub depth : ℕ
  pub refs : ℕ
  pub array : ℕ
  pub handles : ℕ
  pub answer : List ℕ → Answer

-- The caps that each gate keeps.
abbrev pub IsGate : Gate → Type 0
IsGate gate =
    (gate.bytes ≤ most_bytes) × (gate.depth ≤ most_depth) × (gate.refs ≤ most_refs) × (gate.array ≤ most_array)
    × (gate.handles ≤ most_handles)

-- The gate with its limits of bytes and depth lowered, as a call that makes trees lowers them by the caps of trees.
abbrev pub lowered : (most deepest : ℕ) → Gate → Gate
lowered most deepest gate = record {
  bytes = min gate.bytes most;
  depth = min gate.depth deepest;
  refs = gate.refs;
  array = gate.array;
  handles = gate.handles;
  answer = gate.answer;
}

abbrev pub is_pass : Answer → Bool
is_pass pass = true
is_pass rejected = false
is_pass unmatched = false

abbrev pub is_rejected : Answer → Bool
is_rejected pass = false
is_rejected rejected = true
is_rejected unmatched = false

abbrev pub is_unmatched : Answer → Bool
is_unmatched pass = false
is_unmatched rejected = false
is_unmatched unmatched = true

-- what it limits token by token: all but the number of bytes
abbrev pub limits_of : Gate → GateLimits
limits_of gate = record {
  depth = gate.depth;
  refs = gate.refs;
  array = gate.array;
  handles = gate.handles;
  passes = λ name. is_pass (gate.answer name);
}
