-- The words of an answer. Each function puts its words before what follows.
use Rattle.std.specs.declared.alloc.Global.{Global}
use Rattle.std.specs.Prelude.{ℕ, List, ◌∷◌, ◌++◌, codes, Option, Some, None, Vec}
use Rattle.std.specs.Fmt.{decimal}
use Rattle.jser_shown.specs.Words.{quoted}
use Rattle.jser_reader.specs.declared.Totals.{Totals}
use Rattle.jser_reader.specs.ReasonNames.{reason_name}
use Rattle.jser_inputs.specs.declared.InputFault.{InputFault}
use Rattle.jser_inputs.specs.declared.InputFault.TheVariants as input_fault
use Rattle.jser_scan.specs.declared.found.Found.{Found}
use Rattle.jser_scan.specs.declared.found.Found.TheVariants as found

abbrev pub count_words : List ℕ → ℕ → List ℕ → List ℕ
count_words words count k = words ++ (decimal count ++ k)

-- yes B bytes, C contents, R refs, depth D
abbrev pub counts_words : Totals → List ℕ → List ℕ
counts_words totals k =
    count_words (codes "yes ") totals.bytes (count_words (codes " bytes, ") totals.contents
    (count_words (codes " contents, ") totals.refs (count_words (codes " refs, depth ") totals.depth k)))

-- no at A to E:
abbrev pub place_words : (from to : ℕ) → List ℕ → List ℕ
place_words from to k = count_words (codes "no at ") from (count_words (codes " to ") to (codes ": " ++ k))

-- the class that was refused, where it is known
abbrev pub class_words : Option (Vec ℕ Global) → List ℕ → List ℕ
class_words None k = k
class_words (Some units) k = 0x20 ∷ quoted units.items k

abbrev pub fault_words : InputFault → List ℕ → List ℕ
fault_words input_fault.Failed k = codes "read failed" ++ k
fault_words (input_fault.NotHexadecimal at) k = count_words (codes "not hexadecimal at ") at k
fault_words (input_fault.NotBase64 at) k = count_words (codes "not base64 at ") at k

abbrev pub answer_words : Found → List ℕ → List ℕ
answer_words (found.Accepted totals) k = counts_words totals k
answer_words (found.Refused refusal class) k =
    place_words refusal.from_byte refusal.to_byte (reason_name refusal.reason ++ class_words class k)
answer_words (found.Hidden from to class) k = place_words from to (codes "HiddenName" ++ class_words class k)
answer_words found.NotOpened k = codes "cannot open" ++ k
answer_words (found.NotRead fault) k = fault_words fault k
answer_words found.OutOfMemory k = codes "out of memory" ++ k
