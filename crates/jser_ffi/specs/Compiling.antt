-- What a filter's text, a table of modules and the flags of a call make, and what the answer says where one is faulty.
use Rattle.std.specs.Prelude.{ℕ, ◌≡◌, ◌≢◌, ◌⊎◌, true, false, List, Some, None}
use Rattle.std.specs.Str.{IsUtf8}
use Rattle.jser_prim.specs.ModifiedUtf8.{utf16_units}
use Rattle.jser_filter.specs.declared.FilterCause.{FilterCause}
use Rattle.jser_filter.specs.declared.FilterCause.TheVariants as cause
use Rattle.jser_filter.specs.declared.FilterFault.{FilterFault}
use Rattle.jser_filter.specs.declared.ModulesCause.{ModulesCause}
use Rattle.jser_filter.specs.declared.ModulesCause.TheVariants as line
use Rattle.jser_filter.specs.declared.ModulesFault.{ModulesFault}
use Rattle.jser_filter.specs.Filters.{AreSound, IsFirstFault}
use Rattle.jser_filter.specs.Pieces.{Piece, pieces_of}
use Rattle.jser_filter.specs.Tables.{ModuleTable, lines_of, table_of, AreSoundLines, IsFirstLineFault}
use Rattle.jser_settings.specs.declared.FileCause.{FileCause}
use Rattle.jser_settings.specs.declared.FileCause.TheVariants as slip
use Rattle.jser_settings.specs.declared.FileFault.{FileFault}
use Rattle.jser_settings.specs.FileFaults.{file_fault}
use Rattle.jser_settings.specs.FilterFiles.{filter_text}
use Rattle.jser_ffi.specs.declared.answer.Answer.{Answer}
use Rattle.jser_ffi.specs.declared.compiled.Compiled.{Compiled}
use Rattle.jser_settings.specs.NoPatterns.{has_pattern}
use Rattle.jser_ffi.specs.Ways.{needs_pattern, way_of}

-- ---- what is made

-- the bytes are a text of these pieces, none of them faulty
pub record IsFilterOf (text : List ℕ) (pieces : List Piece) : Type 0 where
  pub is_text : IsUtf8 text
  pub pieces_are : pieces ≡ pieces_of (utf16_units text)
  pub sound : AreSound pieces

-- the bytes are a text of lines with this table, none of them faulty
pub record IsTableOf (text : List ℕ) (table : ModuleTable) : Type 0 where
  pub is_text : IsUtf8 text
  pub lines : table ≡ table_of (lines_of (utf16_units text))
  pub sound : AreSoundLines (lines_of (utf16_units text))

pub record IsCompiled (flags : ℕ) (text modules : List ℕ) (compiled : Compiled) : Type 0 where
  pub way : way_of flags ≡ Some (record { options = compiled.applied.options; anywhere = compiled.anywhere; needs_pattern = needs_pattern flags })
  pub has : needs_pattern flags ≡ true → has_pattern text ≡ true
  pub filter : IsFilterOf text compiled.applied.filter.pieces
  pub table : IsTableOf modules compiled.applied.filter.modules

-- of the text of the lines of a file
pub record IsCompiledFile (flags : ℕ) (file modules : List ℕ) (compiled : Compiled) : Type 0 where
  pub is_text : IsUtf8 file
  pub lines : file_fault file ≡ None
  pub is : IsCompiled flags (filter_text file) modules compiled

-- ---- the causes of a misuse: 1 to 6 of the filter's text, 7 to 9 of the table of modules, 10 of the flags, 11 to 14 of a
-- filter's file, 15 of a filter that wants a pattern

abbrev pub filter_cause_number : FilterCause → ℕ
filter_cause_number cause.UnknownLimit = 1
filter_cause_number cause.BadLimit = 2
filter_cause_number cause.ModuleMissing = 3
filter_cause_number cause.NameMissing = 4
filter_cause_number cause.PackageMissing = 5
filter_cause_number cause.OutOfMemory = 0

abbrev pub file_cause_number : FileCause → ℕ
file_cause_number slip.ByteOrderMark = 11
file_cause_number slip.NumberSign = 12
file_cause_number slip.WhiteSpace = 13

abbrev pub modules_cause_number : ModulesCause → ℕ
modules_cause_number line.BadLine = 7
modules_cause_number line.PackageTwice = 8
modules_cause_number line.OutOfMemory = 0

-- the bytes are no text
pub record IsNoText (number : ℕ) (text : List ℕ) (answer : Answer) : Type 0 where
  pub no_text : IsUtf8 text → ⊥
  pub reason : answer.reason ≡ number

-- the first faulty piece of the filter's text, with its cause
pub record PieceIsFaulty (text : List ℕ) (answer : Answer) : Type 0 where
  pub fault : FilterFault
  pub first : IsFirstFault (pieces_of (utf16_units text)) fault
  pub decided : fault.cause ≢ cause.OutOfMemory
  pub reason : answer.reason ≡ filter_cause_number fault.cause
  pub place : answer.from_byte ≡ fault.pattern

abbrev pub TextIsFaulty : List ℕ → Answer → Type 0
TextIsFaulty text answer = IsNoText 6 text answer ⊎ PieceIsFaulty text answer

-- the first faulty line of the table of modules, with its cause
pub record LineIsFaulty (text : List ℕ) (answer : Answer) : Type 0 where
  pub fault : ModulesFault
  pub first : IsFirstLineFault (lines_of (utf16_units text)) fault
  pub decided : fault.cause ≢ line.OutOfMemory
  pub reason : answer.reason ≡ modules_cause_number fault.cause
  pub place : answer.from_byte ≡ fault.line

abbrev pub ModulesAreFaulty : List ℕ → Answer → Type 0
ModulesAreFaulty text answer = IsNoText 9 text answer ⊎ LineIsFaulty text answer

-- a flag is set that there is not
abbrev pub FlagsAreUnknown : (flags : ℕ) → Answer → Type 0
FlagsAreUnknown flags answer = (way_of flags ≡ None) × (answer.reason ≡ 10)

abbrev pub TextsAreFaulty : (text modules : List ℕ) → Answer → Type 0
TextsAreFaulty text modules answer = TextIsFaulty text answer ⊎ ModulesAreFaulty modules answer

-- the filter must have a pattern, and has none
pub record LacksPattern (flags : ℕ) (text : List ℕ) (answer : Answer) : Type 0 where
  pub needs : needs_pattern flags ≡ true
  pub none : has_pattern text ≡ false
  pub reason : answer.reason ≡ 15

abbrev pub SaysMisuse : (flags : ℕ) → (text modules : List ℕ) → Answer → Type 0
SaysMisuse flags text modules answer = FlagsAreUnknown flags answer ⊎ (LacksPattern flags text answer ⊎ TextsAreFaulty text modules answer)

-- the first faulty line of a filter's file, with its cause
pub record FileIsFaulty (file : List ℕ) (answer : Answer) : Type 0 where
  pub fault : FileFault
  pub first : file_fault file ≡ Some fault
  pub reason : answer.reason ≡ file_cause_number fault.cause
  pub place : answer.from_byte ≡ fault.line

-- the file is no text, or a line of it is faulty, or else what is wrong with the text of its lines, the table or the flags
unfoldable pub SaysFileMisuse : (flags : ℕ) → (file modules : List ℕ) → Answer → Type 0
SaysFileMisuse flags file modules answer = (IsNoText 14 file answer ⊎ FileIsFaulty file answer) ⊎ SaysMisuse flags (filter_text file) modules answer
