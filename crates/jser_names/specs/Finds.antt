-- What is answered of bytes that are whole in memory.
use Rattle.std.specs.Prelude.{ℕ, List, Result, Ok, Err}
use Rattle.jser_reader.specs.declared.Stop.{Stop}
use Rattle.jser_reader.specs.declared.Stop.TheVariants as stop
use Rattle.jser_names.specs.Found.{HasFound}
use Rattle.jser_names.specs.Sources.{IsRefused}
use Rattle.jser_names.specs.declared.found.Found.{Found}

-- the bytes are a stream, of which this was found; or they are refused, with their first fault; or memory ran out
abbrev pub Finds : List ℕ → Result Found Stop → Type 0
Finds bytes (Ok found) = HasFound bytes found
Finds bytes (Err (stop.Refused refusal)) = IsRefused bytes refusal
Finds bytes (Err stop.OutOfMemory) = Unit {0}
Finds bytes (Err stop.Spent) = ⊥
