-- What the program prints, and its status.
use Rattle.std.specs.Prelude.{ℕ, ◌≡◌, ◌≤◌, ◌⊎◌, Bool, true, List, [], ◌++◌, codes, length, take, Option, IfSome}
use Rattle.std.specs.Fmt.{decimal}
use Rattle.std.specs.Io.KnownBytes.{Appends, Keeps}
use Rattle.jser_prim.specs.Fronts.{CutAt}
use Rattle.jser_grammar.specs.Parts.{IsBytes}
use Rattle.jser_grammar.specs.Trees.{ContentTrees}
use Rattle.jser_verdict.specs.Passing.{Passes}
use Rattle.jser_reader.specs.Gates.{open_gate}
use Rattle.jser_reader.specs.declared.Refusal.{Refusal}
use Rattle.jser_reader.specs.ReasonNames.{reason_name}
use Rattle.jser_filter.specs.declared.Verdict.{Verdict}
use Rattle.jser_filter.specs.declared.Verdict.TheVariants as verdict
use Rattle.jser_filter.specs.Filters.{FilterView, verdict_of}
use Rattle.jser_shown.specs.Shown.{shown}
use Rattle.jser_shown.specs.Counting.{tally_all, tally_lines}
use Rattle.jser_shown.specs.Listed.{listed}
use Rattle.jser_grammar.specs.CheckedNames.{checked_names}
use Rattle.jser_index.specs.Reading.{IsRefused}
use Rattle.jser_check.specs.declared.Options.{Options}
use Rattle.jser_check.specs.declared.Report.{Totals as Report}
use Rattle.jser_check.specs.Admitted.{gate_of_filter}
use Rattle.jser_check.specs.Answers.{Reports, Refuses, CarriesFirst}
use Rattle.jser_check.specs.Passing.{asking}
use Rattle.jser_check.specs.Pieces.{ReportsAnywhere}
use Rattle.jser_check.specs.Reads.{RefusedIn, HiddenIn}
use Rattle.jser_inputs.specs.declared.InputFault.{InputFault}
use Rattle.jser_settings.specs.Settings.{Tells, TellsInputFault, TellsNoMemory}
use Rattle.jser_commands.specs.Hidden.{hidden_in}
use Rattle.jser_commands.specs.declared.job.Job.{Job}
use Rattle.jser_commands.specs.declared.job.Job.TheVariants as job

-- yes B bytes, C contents, R refs, depth D
abbrev pub yes_line : Report → List ℕ
yes_line report =
    codes "yes " ++ decimal report.bytes ++ codes " bytes, " ++ decimal report.contents ++ codes " contents, "
    ++ decimal report.refs ++ codes " refs, depth " ++ decimal report.depth ++ codes "\n"

-- no at A to E: REASON
abbrev pub no_line : Refusal → List ℕ
no_line refusal =
    codes "no at " ++ decimal refusal.from_byte ++ codes " to " ++ decimal refusal.to_byte ++ codes ": "
    ++ reason_name refusal.reason ++ codes "\n"

-- the first bytes of a text went out, and no others
pub record AppendsSome (old new : Option (List ℕ)) (text : List ℕ) : Type 0 where
  pub count : ℕ
  pub within : count ≤ length text
  pub went : Appends old new (take count text)

-- What went out is said of a text by `Went`: the text and nothing else, `Appends`, or its first bytes, `AppendsSome`.

-- the line of a report that is right of the bytes
pub record SaysYes (filter : FilterView) (options : Options) (bytes : List ℕ) (Went : List ℕ → Type 0) : Type 0 where
  pub report : Report
  pub reported : Reports filter options bytes report
  pub printed : Went (yes_line report)

-- the line of a refusal that is right of the bytes, and names their first fault
pub record SaysNo (filter : FilterView) (options : Options) (bytes : List ℕ) (Went : List ℕ → Type 0) : Type 0 where
  pub refusal : Refusal
  pub refused : Refuses filter options bytes refusal
  pub first : IsBytes bytes → CarriesFirst (gate_of_filter filter options) bytes refusal
  pub printed : Went (no_line refusal)

-- no at A to E: HiddenName
abbrev pub hidden_line : (from to : ℕ) → List ℕ
hidden_line from to = codes "no at " ++ decimal from ++ codes " to " ++ decimal to ++ codes ": HiddenName\n"

-- A yes of a check that asks about every class name that can be read at any place: the line of its report.
pub record SaysYesAnywhere (filter : FilterView) (options : Options) (bytes : List ℕ) (Went : List ℕ → Type 0) : Type 0 where
  pub report : Report
  pub reported : ReportsAnywhere filter options bytes report
  pub printed : Went (yes_line report)

pub record SaysNoOf (filter : FilterView) (options : Options) (bytes : List ℕ) (Went : List ℕ → Type 0) : Type 0 where
  pub refusal : Refusal
  pub refused : RefusedIn (asking filter options true) bytes refusal
  pub printed : Went (no_line refusal)

pub record SaysHidden (filter : FilterView) (options : Options) (bytes : List ℕ) (Went : List ℕ → Type 0) : Type 0 where
  pub from : ℕ
  pub to : ℕ
  pub hidden : HiddenIn (asking filter options true) bytes from to
  pub printed : Went (hidden_line from to)

-- the line of its refusal, or that of a hidden name
abbrev pub SaysNoAnywhere : FilterView → Options → (bytes : List ℕ) → (Went : List ℕ → Type 0) → Type 0
SaysNoAnywhere filter options bytes Went = SaysNoOf filter options bytes Went ⊎ SaysHidden filter options bytes Went

-- the words of a verdict, as `list` prints them
abbrev pub verdict_words : Verdict → List ℕ
verdict_words (verdict.Allowed index) = codes "allowed:" ++ decimal index
verdict_words (verdict.Rejected index) = codes "rejected:" ++ decimal index
verdict_words verdict.Undecided = codes "undecided"
verdict_words verdict.NoClass = codes "noclass"

-- what the filter says of a name, in these words
abbrev pub words_on : FilterView → List ℕ → List ℕ
words_on filter name = verdict_words (verdict_of filter name)

-- what the filter says of a name, behind a mark
abbrev pub marked_words : (mark : List ℕ) → FilterView → List ℕ → List ℕ
marked_words mark filter name = mark ++ words_on filter name

-- the lines of names that were counted
abbrev pub hidden_lines : FilterView → List (List ℕ) → List ℕ
hidden_lines filter names = tally_lines (marked_words (codes "hidden ") filter) (tally_all [] names)

-- the text of list, and behind it a line for each of these names
abbrev pub listed_anywhere : FilterView → List ℕ → ContentTrees → List ℕ
listed_anywhere filter bytes list = listed (words_on filter) list ++ hidden_lines filter (hidden_in (checked_names list) bytes)

-- the text of a list that makes the bytes a stream within the greatest limits
pub record SaysText (text : ContentTrees → List ℕ) (bytes : List ℕ) (Went : List ℕ → Type 0) : Type 0 where
  pub list : ContentTrees
  pub passes : Passes open_gate bytes list
  pub printed : Went (text list)

-- the text of such a list, with the names at any place
abbrev pub SaysListedAnywhere : FilterView → List ℕ → (List ℕ → Type 0) → Type 0
SaysListedAnywhere filter bytes Went = SaysText (listed_anywhere filter bytes) bytes Went

-- cut at N bytes
abbrev pub cut_line : ℕ → List ℕ
cut_line limit = codes "cut at " ++ decimal limit ++ codes " bytes\n"

-- what is printed of a text that has more bytes than the limit allows: the most of its lines that it does allow, and a line that says so
pub record CutText (limit : ℕ) (text printed : List ℕ) : Type 0 where
  pub count : ℕ
  pub cut : CutAt limit count text
  pub is : printed ≡ take count text ++ cut_line limit

-- the text of show, where the limit allows all of it
pub record SaysWithin (values : Bool) (limit : ℕ) (bytes : List ℕ) (Went : List ℕ → Type 0) : Type 0 where
  pub list : ContentTrees
  pub passes : Passes open_gate bytes list
  pub fits : length (shown values list) ≤ limit
  pub printed : Went (shown values list)

-- where it does not, what is printed of it
pub record SaysCutShown (values : Bool) (limit : ℕ) (bytes : List ℕ) (Went : List ℕ → Type 0) : Type 0 where
  pub list : ContentTrees
  pub passes : Passes open_gate bytes list
  pub text : List ℕ
  pub cut : CutText limit (shown values list) text
  pub printed : Went text

abbrev pub SaysLimited : (values : Bool) → (limit : ℕ) → (bytes : List ℕ) → (Went : List ℕ → Type 0) → Type 0
SaysLimited values limit bytes Went = SaysWithin values limit bytes Went ⊎ SaysCutShown values limit bytes Went

-- the line of a refusal that is right of the bytes under no filter, with their first fault
pub record SaysRefusal (bytes : List ℕ) (Went : List ℕ → Type 0) : Type 0 where
  pub refusal : Refusal
  pub refused : IsRefused bytes refusal
  pub printed : Went (no_line refusal)

abbrev pub options_of : (strict : Bool) → Options
options_of strict = record { strict = strict }

-- what status 0 says of the bytes, by the job
abbrev pub SaysAccepted : Job → List ℕ → (Went : List ℕ → Type 0) → Type 0
SaysAccepted (job.Check filter strict) bytes Went = SaysYes filter (options_of strict) bytes Went
SaysAccepted (job.CheckAnywhere filter strict) bytes Went = SaysYesAnywhere filter (options_of strict) bytes Went
SaysAccepted (job.Show values) bytes Went = SaysText (shown values) bytes Went
SaysAccepted (job.ShowLimited values limit) bytes Went = SaysWithin values limit bytes Went
SaysAccepted (job.List filter) bytes Went = SaysText (listed (words_on filter)) bytes Went
SaysAccepted (job.ListAnywhere filter) bytes Went = SaysText (listed_anywhere filter bytes) bytes Went

-- what status 1 says of them
abbrev pub SaysRefused : Job → List ℕ → (Went : List ℕ → Type 0) → Type 0
SaysRefused (job.Check filter strict) bytes Went = SaysNo filter (options_of strict) bytes Went
SaysRefused (job.CheckAnywhere filter strict) bytes Went = SaysNoAnywhere filter (options_of strict) bytes Went
SaysRefused (job.Show values) bytes Went = SaysRefusal bytes Went
SaysRefused (job.ShowLimited values limit) bytes Went = SaysRefusal bytes Went
SaysRefused (job.List filter) bytes Went = SaysRefusal bytes Went
SaysRefused (job.ListAnywhere filter) bytes Went = SaysRefusal bytes Went

-- what status 4 says of them
abbrev pub SaysCut : Job → List ℕ → (Went : List ℕ → Type 0) → Type 0
SaysCut (job.Check filter strict) bytes Went = ⊥
SaysCut (job.CheckAnywhere filter strict) bytes Went = ⊥
SaysCut (job.Show values) bytes Went = ⊥
SaysCut (job.ShowLimited values limit) bytes Went = SaysCutShown values limit bytes Went
SaysCut (job.List filter) bytes Went = ⊥
SaysCut (job.ListAnywhere filter) bytes Went = ⊥

-- the jobs that have that status
abbrev pub HasLimit : Job → Type 0
HasLimit (job.Check filter strict) = ⊥
HasLimit (job.CheckAnywhere filter strict) = ⊥
HasLimit (job.Show values) = ⊥
HasLimit (job.ShowLimited values limit) = Unit {0}
HasLimit (job.List filter) = ⊥
HasLimit (job.ListAnywhere filter) = ⊥

-- nothing went out; or the output failed, and the first bytes of a text went out
abbrev pub KeptOrCut : (failed : Bool) → (old new : Option (List ℕ)) → (text : List ℕ) → Type 0
KeptOrCut failed old new text = Keeps old new ⊎ ((failed ≡ true) × AppendsSome old new text)

-- nothing went out, or the first bytes did of the line or text that answers: an accepted stream, or a refused one
abbrev pub KeptOrSaidSome : (failed : Bool) → (old new told : Option (List ℕ))
    → (Yes No : List ℕ → (List ℕ → Type 0) → Type 0) → Type 0
KeptOrSaidSome failed old new told Yes No =
    Keeps old new ⊎ ((failed ≡ true) × IfSome told (λ bytes. Yes bytes (AppendsSome old new) ⊎ No bytes (AppendsSome old new)))

-- Why an answer was not written, and the line that was told of it: the write failed, or memory ran out and it did not.
abbrev pub SaysUnwritten : (write_before write_after : Bool) → (failed : Bool) → (old new : Option (List ℕ)) → Type 0
SaysUnwritten write_before write_after failed old new =
    ((write_after ≡ true) × Tells failed old new (codes "write failed\n")) ⊎ ((write_after ≡ write_before) × TellsNoMemory failed old new)

-- What status 3 says of the output: nothing went out, or it failed and the first bytes of the answer went out. Where memory
-- ran out while a text was shown, its first bytes may have gone out too.
abbrev pub SaysFailed : Job → (told : Option (List ℕ)) → (failed : Bool) → (old new : Option (List ℕ)) → Type 0
SaysFailed (job.Check filter strict) told failed old new = KeptOrSaidSome failed old new told (SaysYes filter (options_of strict)) (SaysNo filter (options_of strict))
SaysFailed (job.CheckAnywhere filter strict) told failed old new =
    KeptOrSaidSome failed old new told (SaysYesAnywhere filter (options_of strict)) (SaysNoAnywhere filter (options_of strict))
SaysFailed (job.Show values) told failed old new =
    KeptOrSaidSome failed old new told (SaysText (shown values)) SaysRefusal ⊎ IfSome told (λ bytes. SaysText (shown values) bytes (AppendsSome old new))
SaysFailed (job.ShowLimited values limit) told failed old new = KeptOrSaidSome failed old new told (SaysLimited values limit) SaysRefusal
SaysFailed (job.List filter) told failed old new = KeptOrSaidSome failed old new told (SaysText (listed (words_on filter))) SaysRefusal
SaysFailed (job.ListAnywhere filter) told failed old new = KeptOrSaidSome failed old new told (SaysListedAnywhere filter) SaysRefusal

-- Why the status is 3, and the line that was told of it: a read failed, which the fault of the input tells, a write failed, or memory ran out and no device failed.
abbrev pub SaysWhy : InputFault → (read_before read_after write_before write_after : Bool) → (failed : Bool) → (old new : Option (List ℕ)) → Type 0
SaysWhy why read_before read_after write_before write_after failed old new =
    ((read_after ≡ true) × (write_after ≡ write_before) × TellsInputFault why failed old new)
    ⊎ ((read_after ≡ read_before) × SaysUnwritten write_before write_after failed old new)
