-- The reader of a check, as proofs see it.
use Rattle.std.proofs.Common.{List, ℕ}
use Rattle.jser_verdict.specs.Gates.{Gate}
use Rattle.jser_reader.specs.ReaderStates.{Reading, StandsFor}
use Rattle.jser_check.specs.Admitted.{FilterWith, gate_of_filter}

-- as contracts see it: a reader under the gate of a filter with its options
abbrev pub Reader : Type 0
Reader = Reading FilterWith

abbrev pub gate_of : Reader → Gate
gate_of check = gate_of_filter check.gate.filter check.gate.options

-- It took these bytes, which decide no refusal. It keeps no history: they are any bytes that lead to what it holds.
abbrev pub HasTaken : Reader → List ℕ → Type 0
HasTaken check bytes = StandsFor (gate_of check) bytes check.machine check.tally
