-- The line of a file, and what is printed of it.
use Rattle.std.specs.Prelude.{ℕ, Bool, true, false, ◌&&◌, if◌then◌else◌, List, [], ◌∷◌, ◌++◌, codes}
use Rattle.std.specs.Fmt.{decimal}
use Rattle.jser_scan.specs.declared.found.Found.{Found}
use Rattle.jser_scan.specs.declared.found.Found.TheVariants as found
use Rattle.jser_scan.specs.declared.path.FilePath.{FilePath}
use Rattle.jser_scan.specs.declared.scan.How.{How}
use Rattle.jser_scan.specs.declared.tally.Tally.{Tally}
use Rattle.jser_scan.specs.Answers.{answer_words, count_words}
use Rattle.jser_scan.specs.Json.{object_words}
use Rattle.jser_scan.specs.Paths.{path_words}

-- PATH: ANSWER
abbrev pub line_words : FilePath → Found → List ℕ → List ℕ
line_words path result k = path_words path (codes ": " ++ answer_words result (0x0A ∷ k))

abbrev pub is_accepted : Found → Bool
is_accepted (found.Accepted totals) = true
is_accepted (found.Refused refusal class) = false
is_accepted (found.Hidden from to class) = false
is_accepted found.NotOpened = false
is_accepted (found.NotRead fault) = false
is_accepted found.OutOfMemory = false

abbrev pub is_unread : Found → Bool
is_unread (found.Accepted totals) = false
is_unread (found.Refused refusal class) = false
is_unread (found.Hidden from to class) = false
is_unread found.NotOpened = true
is_unread (found.NotRead fault) = true
is_unread found.OutOfMemory = true

-- What is printed of a file: its line, where it was read, or its object; nothing of one that is accepted, where only the
-- others are asked for.
abbrev pub says_found : How → FilePath → Found → List ℕ → List ℕ
says_found how path result k =
    if how.refused && is_accepted result then k
    else (if how.json then object_words path result k
    else (if is_unread result then k else line_words path result k))

abbrev pub printed : How → FilePath → Found → List ℕ
printed how path result = says_found how path result []

-- F files, A accepted, R refused, T not read; in place of files other things may be counted
abbrev pub counted_words : List ℕ → Tally → List ℕ → List ℕ
counted_words things tally k =
    decimal tally.files ++ count_words things tally.accepted
    (count_words (codes " accepted, ") tally.refused (count_words (codes " refused, ") tally.unread (codes " not read\n" ++ k)))

abbrev pub summary_words : Tally → List ℕ → List ℕ
summary_words tally k = counted_words (codes " files, ") tally k
