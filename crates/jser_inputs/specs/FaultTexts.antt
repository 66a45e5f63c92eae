-- What is told of an input that was not read.
use Rattle.std.specs.Prelude.{ℕ, List, ◌++◌, codes}
use Rattle.std.specs.Fmt.{decimal}
use Rattle.jser_inputs.specs.declared.fault.InputFault.{InputFault}
use Rattle.jser_inputs.specs.declared.fault.InputFault.TheVariants as fault

abbrev pub input_fault_text : InputFault → List ℕ
input_fault_text fault.Failed = codes "read failed"
input_fault_text (fault.NotHexadecimal at) = codes "not hexadecimal at " ++ decimal at
input_fault_text (fault.NotBase64 at) = codes "not base64 at " ++ decimal at
