-- What a gate answers, its limits, and the gate that passes all.
use Rattle.std.specs.Prelude.{◌≡◌}
use Rattle.jser_grammar.specs.Caps.{most_bytes, most_depth, most_refs, most_array, most_handles}
use Rattle.jser_verdict.specs.Gates.{Gate, pass, rejected, unmatched}
use Rattle.jser_verdict.specs.Gates.{Answer as ToldAnswer}
use Rattle.jser_reader.specs.declared.gate.Answer.{Answer}
use Rattle.jser_reader.specs.declared.gate.Answer.TheVariants as answer
use Rattle.jser_reader.specs.declared.gate.Limits.{Limits}

abbrev pub view_answer : Answer → ToldAnswer
view_answer answer.Pass = pass
view_answer answer.Rejected = rejected
view_answer answer.Unmatched = unmatched

-- the limits are those of the gate
pub record AreLimitsOf (gate : Gate) (limits : Limits) : Type 0 where
  pub bytes : limits.bytes ≡ gate.bytes
  pub depth : limits.depth ≡ gate.depth
  pub refs : limits.refs ≡ gate.refs
  pub array : limits.array ≡ gate.array
  pub handles : limits.handles ≡ gate.handles

-- all names pass, and each limit is its cap
abbrev pub open_gate : Gate
open_gate = record { bytes = most_bytes; depth = most_depth; refs = most_refs; array = most_array; handles = most_handles; answer = λ name. pass }
