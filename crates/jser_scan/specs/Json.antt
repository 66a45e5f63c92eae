-- What was found of a file as a JSON object on a line (RFC 8259).
use Rattle.std.specs.declared.alloc.Global.{Global}
use Rattle.std.specs.Prelude.{ℕ, List, ◌∷◌, ◌++◌, codes, Option, Some, None, Vec}
use Rattle.jser_shown.specs.Words.{quoted}
use Rattle.jser_reader.specs.declared.Refusal.{Refusal}
use Rattle.jser_reader.specs.declared.Totals.{Totals}
use Rattle.jser_reader.specs.ReasonNames.{reason_name}
use Rattle.jser_scan.specs.declared.found.Found.{Found}
use Rattle.jser_scan.specs.declared.found.Found.TheVariants as found
use Rattle.jser_scan.specs.declared.path.FilePath.{FilePath}
use Rattle.jser_scan.specs.Answers.{answer_words, count_words}
use Rattle.jser_scan.specs.JsonTexts.{json_text}

-- the counts of a stream
abbrev pub more_report_words : Totals → List ℕ → List ℕ
more_report_words totals k =
    count_words (codes ",\"refs\":") totals.refs (count_words (codes ",\"depth\":") totals.depth
    (count_words (codes ",\"handles\":") totals.handles k))

abbrev pub report_words : Totals → List ℕ → List ℕ
report_words totals k =
    count_words (codes ",\"answer\":\"yes\",\"bytes\":") totals.bytes (count_words (codes ",\"contents\":") totals.contents
    (more_report_words totals k))

-- a refusal, without the class
abbrev pub refusal_words : Refusal → List ℕ → List ℕ
refusal_words refusal k =
    count_words (codes ",\"answer\":\"no\",\"from\":") refusal.from_byte (count_words (codes ",\"to\":") refusal.to_byte
    (codes ",\"reason\":\"" ++ (reason_name refusal.reason ++ (0x22 ∷ k))))

-- the class
abbrev pub class_member : Option (Vec ℕ Global) → List ℕ → List ℕ
class_member None k = k
class_member (Some units) k = codes ",\"class\":" ++ json_text units.items k

-- why a file was not read
abbrev pub error_words : Found → List ℕ → List ℕ
error_words result k = codes ",\"error\":\"" ++ answer_words result (0x22 ∷ k)

abbrev pub found_members : Found → List ℕ → List ℕ
found_members (found.Accepted totals) k = report_words totals k
found_members (found.Refused refusal class) k = refusal_words refusal (class_member class k)
found_members (found.Hidden from to class) k =
    count_words (codes ",\"answer\":\"no\",\"from\":") from (count_words (codes ",\"to\":") to
    (codes ",\"reason\":\"HiddenName\"" ++ class_member class k))
found_members found.NotOpened k = error_words found.NotOpened k
found_members (found.NotRead fault) k = error_words (found.NotRead fault) k
found_members found.OutOfMemory k = error_words found.OutOfMemory k

abbrev pub object_words : FilePath → Found → List ℕ → List ℕ
object_words path result k =
    codes "{\"path\":" ++ quoted path.units.items (found_members result (codes "}\n" ++ k))
