-- The text of why a check that asks about names at any place stopped.
use Rattle.std.specs.Prelude.{ℕ, List, ◌++◌, codes}
use Rattle.std.specs.Fmt.{decimal}
use Rattle.jser_reader.specs.StopTexts.{stop_text}
use Rattle.jser_check.specs.declared.fault.AnywhereFault.{AnywhereFault}
use Rattle.jser_check.specs.declared.fault.AnywhereFault.TheVariants as fault

-- at A to E: HiddenName
abbrev pub hidden_text : (from to : ℕ) → List ℕ
hidden_text from to = codes "at " ++ (decimal from ++ (codes " to " ++ (decimal to ++ codes ": HiddenName")))

abbrev pub anywhere_fault_text : AnywhereFault → List ℕ
anywhere_fault_text (fault.Stop why) = stop_text why
anywhere_fault_text fault.ReadFault = codes "read failed"
anywhere_fault_text (fault.Hidden from to) = hidden_text from to
