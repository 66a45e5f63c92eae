-- The texts of a refusal, and of why a reader stopped.
use Rattle.std.specs.Prelude.{ℕ, List, ◌++◌, codes}
use Rattle.std.specs.Fmt.{decimal}
use Rattle.jser_reader.specs.declared.refusal.Refusal.{Refusal}
use Rattle.jser_reader.specs.declared.refusal.Stop.{Stop}
use Rattle.jser_reader.specs.declared.refusal.Stop.TheVariants as stop
use Rattle.jser_reader.specs.ReasonNames.{reason_name}

-- at A to E: REASON
abbrev pub refusal_text : Refusal → List ℕ
refusal_text refusal =
    codes "at " ++ decimal refusal.from_byte ++ codes " to " ++ decimal refusal.to_byte ++ codes ": " ++ reason_name refusal.reason

abbrev pub stop_text : Stop → List ℕ
stop_text (stop.Refused refusal) = refusal_text refusal
stop_text stop.OutOfMemory = codes "out of memory"
stop_text stop.Spent = codes "stopped before"
