-- How many of some bytes are whole contents under a filter: the length of their longest front that it admits.
use Rattle.std.specs.Prelude.{◌≡◌, ◌⊎◌, ℕ, ◌<◌, ◌≤◌, List, ◌++◌, length, take, Result, Ok, Err}
use Rattle.jser_grammar.specs.Parts.{IsBytes}
use Rattle.jser_reader.specs.declared.Stop.{Stop}
use Rattle.jser_reader.specs.declared.Stop.TheVariants as stop
use Rattle.jser_reader.specs.Tallies.{whole_of}
use Rattle.jser_filter.specs.Filters.{FilterView}
use Rattle.jser_check.specs.declared.gate.Options.{Options}
use Rattle.jser_check.specs.Admitted.{AreAdmitted, FilterWith}
use Rattle.jser_reader.specs.ReaderStates.{Reading}

-- The filter admits the first n bytes, or n is 0; and it admits no longer front of them. The header alone is a stream of no
-- contents.
pub record IsFront (filter : FilterView) (options : Options) (bytes : List ℕ) (n : ℕ) : Type 0 where
  pub within : n ≤ length bytes
  pub front : (n ≡ 0) ⊎ AreAdmitted filter options (take n bytes)
  pub longest : (m : ℕ) → n < m → m ≤ length bytes → AreAdmitted filter options (take m bytes) → ⊥

-- these are the longest front, whatever bytes come after them
abbrev pub StaysFront : FilterView → Options → List ℕ → ℕ → Type 0
StaysFront filter options bytes n = (after : List ℕ) → IsBytes after → IsFront filter options (bytes ++ after) n

-- how many of the bytes that it took a reader says are whole contents
abbrev pub whole_in : Reading FilterWith → ℕ
whole_in reader = whole_of reader.machine reader.tally

-- what holds where a check was decided: memory did not run out
abbrev pub IfDecided : {X : Type 0} → Type 0 → Result X Stop → Type 0
IfDecided P (Ok x) = P
IfDecided P (Err (stop.Refused refusal)) = P
IfDecided P (Err stop.OutOfMemory) = Unit {0}
IfDecided P (Err stop.Spent) = Unit {0}
