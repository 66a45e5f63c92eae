-- The line of a stream that was found, and its object; and where a search ended. Each function puts its words before what follows.
use Rattle.std.specs.Prelude.{ℕ, Bool, if◌then◌else◌, List, [], ◌∷◌, ◌++◌, codes}
use Rattle.jser_shown.specs.Words.{quoted}
use Rattle.jser_scan.specs.declared.found.Found.{Found}
use Rattle.jser_scan.specs.declared.path.FilePath.{FilePath}
use Rattle.jser_scan.specs.Answers.{answer_words, count_words}
use Rattle.jser_scan.specs.Json.{found_members}
use Rattle.jser_scan.specs.Paths.{path_words}
use Rattle.jser_find.specs.declared.form.Form.{Form}
use Rattle.jser_find.specs.declared.form.Form.TheVariants as form
use Rattle.jser_find.specs.declared.print.Place.{Place}

-- the name of a form, between these words; nothing of bytes that are there
abbrev pub form_words : (before : List ℕ) → Form → (after : List ℕ) → List ℕ → List ℕ
form_words before form.Bytes after k = k
form_words before form.Base64 after k = before ++ (codes "base64" ++ (after ++ k))
form_words before form.Hexadecimal after k = before ++ (codes "hexadecimal" ++ (after ++ k))

-- : FROM to TO, as FORM
abbrev pub place_words : Place → List ℕ → List ℕ
place_words place k = count_words (codes ": ") place.from (count_words (codes " to ") place.to (form_words (codes " as ") place.form [] k))

-- PATH: FROM to TO: ANSWER
abbrev pub line_words : FilePath → Place → Found → List ℕ → List ℕ
line_words path place result k = path_words path (place_words place (codes ": " ++ answer_words result (0x0A ∷ k)))

-- "start" and "end", and "form"
abbrev pub place_members : Place → List ℕ → List ℕ
place_members place k = count_words (codes ",\"start\":") place.from (count_words (codes ",\"end\":") place.to (form_words (codes ",\"form\":\"") place.form (codes "\"") k))

abbrev pub object_words : FilePath → Place → Found → List ℕ → List ℕ
object_words path place result k =
    codes "{\"path\":" ++ quoted path.units.items (place_members place (found_members result (codes "}\n" ++ k)))

abbrev pub find_words : (json : Bool) → FilePath → Place → Found → List ℕ → List ℕ
find_words json path place result k = if json then object_words path place result k else line_words path place result k

-- ---- a search that its budget ends

-- PATH: searched to PLACE of ALL bytes
abbrev pub spent_line : FilePath → (place all : ℕ) → List ℕ → List ℕ
spent_line path place all k =
    path_words path (count_words (codes ": searched to ") place (count_words (codes " of ") all (codes " bytes\n" ++ k)))

-- "searched" and "of"
abbrev pub spent_object : FilePath → (place all : ℕ) → List ℕ → List ℕ
spent_object path place all k =
    codes "{\"path\":" ++ quoted path.units.items (count_words (codes ",\"searched\":") place (count_words (codes ",\"of\":") all (codes "}\n" ++ k)))

abbrev pub spent_words : (json : Bool) → FilePath → (place all : ℕ) → List ℕ → List ℕ
spent_words json path place all k = if json then spent_object path place all k else spent_line path place all k
