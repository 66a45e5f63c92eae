-- What is said of what takes a stream in pieces, and has something at its end.
use Rattle.std.specs.Prelude.{ℕ, ◌≤◌, List, ◌++◌, length, take, Result, Ok, Err}
use Rattle.jser_reader.specs.declared.Stop.{Stop}
use Rattle.jser_reader.specs.declared.Stop.TheVariants as stop
use Rattle.jser_reader.specs.Gates.{open_gate}
use Rattle.jser_reader.specs.Streams.{AreRefused, AreTruncated}

-- the piece was taken; or some first bytes of it are refused, with those before
abbrev pub TookCases : (took : List ℕ → Type 0) → (taken piece : List ℕ) → Result (Unit {0}) Stop → Type 0
TookCases took taken piece (Ok _) = took (taken ++ piece)
TookCases took taken piece (Err (stop.Refused refusal)) = (used : ℕ) × (used ≤ length piece) × AreRefused open_gate (taken ++ take used piece) refusal
TookCases took taken piece (Err stop.OutOfMemory) = Unit {0}
TookCases took taken piece (Err stop.Spent) = ⊥

-- the end of these bytes: what there is of them, or they end too early
abbrev pub EndCases : {F : Type 0} → (finds : List ℕ → F → Type 0) → (taken : List ℕ) → Result F Stop → Type 0
EndCases finds taken (Ok found) = finds taken found
EndCases finds taken (Err (stop.Refused refusal)) = AreTruncated open_gate taken refusal
EndCases finds taken (Err stop.OutOfMemory) = Unit {0}
EndCases finds taken (Err stop.Spent) = ⊥
