-- The texts of faults.
use Rattle.std.specs.Prelude.{ℕ, List, ◌++◌, codes}
use Rattle.std.specs.Fmt.{decimal}
use Rattle.jser_filter.specs.declared.fault.FilterCause.{FilterCause}
use Rattle.jser_filter.specs.declared.fault.FilterCause.TheVariants as cause
use Rattle.jser_filter.specs.declared.fault.FilterFault.{FilterFault}
use Rattle.jser_filter.specs.declared.fault.ModulesCause.{ModulesCause}
use Rattle.jser_filter.specs.declared.fault.ModulesCause.TheVariants as line
use Rattle.jser_filter.specs.declared.fault.ModulesFault.{ModulesFault}

abbrev pub cause_text : FilterCause → List ℕ
cause_text cause.UnknownLimit = codes "UnknownLimit"
cause_text cause.BadLimit = codes "BadLimit"
cause_text cause.ModuleMissing = codes "ModuleMissing"
cause_text cause.NameMissing = codes "NameMissing"
cause_text cause.PackageMissing = codes "PackageMissing"
cause_text cause.OutOfMemory = codes "OutOfMemory"

abbrev pub fault_text : FilterFault → List ℕ
fault_text fault = codes "filter pattern " ++ decimal fault.pattern ++ codes ": " ++ cause_text fault.cause

abbrev pub modules_cause_text : ModulesCause → List ℕ
modules_cause_text line.BadLine = codes "BadLine"
modules_cause_text line.PackageTwice = codes "PackageTwice"
modules_cause_text line.OutOfMemory = codes "OutOfMemory"

abbrev pub modules_fault_text : ModulesFault → List ℕ
modules_fault_text fault = codes "modules line " ++ decimal fault.line ++ codes ": " ++ modules_cause_text fault.cause
