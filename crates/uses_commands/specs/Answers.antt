-- What a job answers, in words of the list that the bytes spell.
use Rattle.std.specs.Prelude.{ℕ, ◌≤◌, ◌⊎◌, List, ◌++◌, Option, codes, length}
use Rattle.std.specs.Fmt.{decimal}
use Rattle.std.specs.Io.KnownBytes.{Keeps}
use Rattle.jser_grammar.specs.Trees.{ContentTrees}
use Rattle.jser_grammar.specs.Streams.{IsStreamOf}
use Rattle.jser_grammar.specs.Counts.{content_count, refs_of, depth_of}
use Rattle.jser_shown.specs.Shown.{shown}
use Rattle.jser_shown.specs.Listed.{listed}
use Rattle.jser_check.specs.Admitted.{AreAdmitted}
use Rattle.jser_check.specs.Passing.{AreAdmittedAnywhere}
use Rattle.jser_commands.specs.Lines.{CutText, listed_anywhere, options_of, words_on}
use Rattle.jser_commands.specs.declared.Job.{Job}
use Rattle.jser_commands.specs.declared.Job.TheVariants as job

-- the line of a check that says yes
abbrev pub line_of_list : List ℕ → ContentTrees → List ℕ
line_of_list bytes list =
    codes "yes " ++ decimal (length bytes) ++ codes " bytes, " ++ decimal (content_count list) ++ codes " contents, "
    ++ decimal (refs_of list) ++ codes " refs, depth " ++ decimal (depth_of list) ++ codes "\n"

-- the whole text, which a limit allows; or its lines as far as it does, and the line that says so
pub record PrintsCut (limit : ℕ) (text : List ℕ) (Went : List ℕ → Type 0) : Type 0 where
  pub printed : List ℕ
  pub cut : CutText limit text printed
  pub went : Went printed

abbrev pub PrintsLimited : (limit : ℕ) → (text : List ℕ) → (Went : List ℕ → Type 0) → Type 0
PrintsLimited limit text Went = ((length text ≤ limit) × Went text) ⊎ PrintsCut limit text Went

-- what is printed of a list: `Went` says of a text that it went out
abbrev pub Prints : Job → List ℕ → ContentTrees → (Went : List ℕ → Type 0) → Type 0
Prints (job.Check filter strict) bytes list Went = Went (line_of_list bytes list)
Prints (job.CheckAnywhere filter strict) bytes list Went = Went (line_of_list bytes list)
Prints (job.Show values) bytes list Went = Went (shown values list)
Prints (job.ShowLimited values limit) bytes list Went = PrintsLimited limit (shown values list) Went
Prints (job.List filter) bytes list Went = Went (listed (words_on filter) list)
Prints (job.ListAnywhere filter) bytes list Went = Went (listed_anywhere filter bytes list)

-- what is printed of whatever list the bytes spell
abbrev pub EachListPrints : Job → (bytes : List ℕ) → (Went : List ℕ → Type 0) → Type 0
EachListPrints asked bytes Went = (list : ContentTrees) → IsStreamOf bytes list → Prints asked bytes list Went

-- the filter admits the stream; or they are one
abbrev pub IsYes : Job → List ℕ → Type 0
IsYes (job.Check filter strict) bytes = AreAdmitted filter (options_of strict) bytes
IsYes (job.CheckAnywhere filter strict) bytes = AreAdmittedAnywhere filter (options_of strict) bytes
IsYes (job.Show values) bytes = (list : ContentTrees) × IsStreamOf bytes list
IsYes (job.ShowLimited values limit) bytes = (list : ContentTrees) × IsStreamOf bytes list
IsYes (job.List filter) bytes = (list : ContentTrees) × IsStreamOf bytes list
IsYes (job.ListAnywhere filter) bytes = (list : ContentTrees) × IsStreamOf bytes list

-- the filter admits none that they spell
abbrev pub IsNo : Job → List ℕ → Type 0
IsNo (job.Check filter strict) bytes = AreAdmitted filter (options_of strict) bytes → ⊥
IsNo (job.CheckAnywhere filter strict) bytes = AreAdmittedAnywhere filter (options_of strict) bytes → ⊥
IsNo (job.Show values) bytes = Unit {0}
IsNo (job.ShowLimited values limit) bytes = Unit {0}
IsNo (job.List filter) bytes = Unit {0}
IsNo (job.ListAnywhere filter) bytes = Unit {0}

-- nothing was printed, but by a `show`, which prints as it goes
abbrev pub PrintsNothing : Job → (old new : Option (List ℕ)) → Type 0
PrintsNothing (job.Check filter strict) old new = Keeps old new
PrintsNothing (job.CheckAnywhere filter strict) old new = Keeps old new
PrintsNothing (job.Show values) old new = Unit {0}
PrintsNothing (job.ShowLimited values limit) old new = Keeps old new
PrintsNothing (job.List filter) old new = Keeps old new
PrintsNothing (job.ListAnywhere filter) old new = Keeps old new
