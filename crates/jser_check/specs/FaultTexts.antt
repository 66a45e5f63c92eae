-- The text of why the check of a source stopped.
use Rattle.std.specs.Prelude.{ℕ, List, codes}
use Rattle.jser_reader.specs.StopTexts.{stop_text}
use Rattle.jser_check.specs.declared.answer.CheckFault.{CheckFault}
use Rattle.jser_check.specs.declared.answer.CheckFault.TheVariants as fault

abbrev pub check_fault_text : CheckFault → List ℕ
check_fault_text (fault.Stop why) = stop_text why
check_fault_text fault.ReadFault = codes "read failed"
