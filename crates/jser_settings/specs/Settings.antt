-- What the filter's text and the file of modules of a command line say, and what is told where one is at fault.
-- `failed` is whether the writer of faults has failed; `old` and `new` are what it had written before and after.
use Rattle.std.specs.Prelude.{◌≡◌, ◌≢◌, ◌≤◌, ◌<◌, ◌^◌, ◌⊎◌, ℕ, Bool, true, List, [], ◌++◌, length, codes, Option, Some, None, Result, IfSome, false}
use Rattle.std.specs.Str.{IsUtf8}
use Rattle.std.specs.Str.Parse.{ParsesUnsigned}
use Rattle.std.specs.Io.KnownBytes.{Appends}
use Rattle.jser_prim.specs.ModifiedUtf8.{utf16_units}
use Rattle.jser_filter.specs.declared.FilterCause.TheVariants as cause
use Rattle.jser_filter.specs.declared.FilterFault.{FilterFault}
use Rattle.jser_filter.specs.declared.ModulesCause.TheVariants as line
use Rattle.jser_filter.specs.declared.ModulesFault.{ModulesFault}
use Rattle.jser_filter.specs.Faults.{fault_text, modules_fault_text}
use Rattle.jser_inputs.specs.declared.InputFault.{InputFault}
use Rattle.jser_inputs.specs.declared.InputFault.TheVariants as input_fault
use Rattle.jser_inputs.specs.FaultTexts.{input_fault_text}
use Rattle.jser_filter.specs.Filters.{FilterView, AreSound, IsFirstFault}
use Rattle.jser_filter.specs.Pieces.{Piece, pieces_of}
use Rattle.jser_settings.specs.FilterFiles.{filter_text}
use Rattle.jser_settings.specs.FileFaults.{file_fault, file_fault_text}
use Rattle.jser_settings.specs.declared.file_fault.FileFault.{FileFault}
use Rattle.jser_filter.specs.Tables.{ModuleTable, lines_of, table_of, AreSoundLines, IsFirstLineFault}

-- the most bytes of a file of modules, and of a file of a filter
abbrev pub most_modules_bytes : ℕ
most_modules_bytes = 2 ^ 24

-- the line went out, or the writer has failed
abbrev pub Tells : (failed : Bool) → (old new : Option (List ℕ)) → (text : List ℕ) → Type 0
Tells failed old new text = (failed ≡ true) ⊎ Appends old new text

-- a text of decimal digits, behind a `+` or none, is read as its number, which is below 2^64, and no other text is
abbrev pub ReadsLimit : {E : Type 0} → (text : List ℕ) → Result ℕ E → Type 0
ReadsLimit text read = ParsesUnsigned 64 10 text read

-- that there is no such number is told
abbrev pub TellsNoLimit : (failed : Bool) → (old new : Option (List ℕ)) → Type 0
TellsNoLimit failed old new = Tells failed old new (codes "--limit is not a number of bytes\n")

-- that memory ran out is told
abbrev pub TellsNoMemory : (failed : Bool) → (old new : Option (List ℕ)) → Type 0
TellsNoMemory failed old new = Tells failed old new (codes "out of memory\n")

-- Why an input was not read is told: by the line of a failed read; or by that of a text which is not of its form, or, where
-- there is no memory for it, that memory ran out.
abbrev pub TellsInputFault : InputFault → (failed : Bool) → (old new : Option (List ℕ)) → Type 0
TellsInputFault input_fault.Failed failed old new = Tells failed old new (codes "read failed\n")
TellsInputFault (input_fault.NotHexadecimal at) failed old new =
    Tells failed old new (input_fault_text (input_fault.NotHexadecimal at) ++ codes "\n") ⊎ TellsNoMemory failed old new
TellsInputFault (input_fault.NotBase64 at) failed old new =
    Tells failed old new (input_fault_text (input_fault.NotBase64 at) ++ codes "\n") ⊎ TellsNoMemory failed old new

-- a fault that is told by its line, and not that memory ran out
pub record TellsFilterFault (failed : Bool) (old new : Option (List ℕ)) (fault : FilterFault) : Type 0 where
  pub decided : fault.cause ≢ cause.OutOfMemory
  pub told : Tells failed old new (fault_text fault ++ codes "\n")

pub record TellsModulesFault (failed : Bool) (old new : Option (List ℕ)) (fault : ModulesFault) : Type 0 where
  pub decided : fault.cause ≢ line.OutOfMemory
  pub told : Tells failed old new (modules_fault_text fault ++ codes "\n")

-- the first fault of a filter's text is told
pub record FilterIsFaulty (pieces : List Piece) (failed : Bool) (old new : Option (List ℕ)) : Type 0 where
  pub fault : FilterFault
  pub first : IsFirstFault pieces fault
  pub tells : TellsFilterFault failed old new fault

-- a file with these bytes has this text of a filter
pub record IsTextOf (bytes text : List ℕ) : Type 0 where
  pub size : length bytes ≤ most_modules_bytes
  pub utf8 : IsUtf8 bytes
  pub lines : file_fault bytes ≡ None
  pub is : text ≡ filter_text bytes

-- a file with these bytes has this filter, that of the text of its lines, with no table of modules
pub record IsFilterOf (bytes : List ℕ) (filter : FilterView) : Type 0 where
  pub size : length bytes ≤ most_modules_bytes
  pub text : IsUtf8 bytes
  pub lines : file_fault bytes ≡ None
  pub sound : AreSound (pieces_of (utf16_units (filter_text bytes)))
  pub pieces : filter.pieces ≡ pieces_of (utf16_units (filter_text bytes))
  pub modules : filter.modules ≡ []

-- it is no text, or the text has a faulty line, the first of which is told
pub record IsNoUtf8 (bytes : List ℕ) (failed : Bool) (old new : Option (List ℕ)) : Type 0 where
  pub none : IsUtf8 bytes → ⊥
  pub told : Tells failed old new (codes "filter file is not text\n")

pub record HasFaultyLine (bytes : List ℕ) (failed : Bool) (old new : Option (List ℕ)) : Type 0 where
  pub fault : FileFault
  pub first : file_fault bytes ≡ Some fault
  pub told : Tells failed old new (file_fault_text fault ++ codes "\n")

abbrev pub IsNoFilterText : List ℕ → (failed : Bool) → (old new : Option (List ℕ)) → Type 0
IsNoFilterText bytes failed old new = IsNoUtf8 bytes failed old new ⊎ HasFaultyLine bytes failed old new

-- or the text of its lines has a fault
abbrev pub FilterFileIsFaulty : List ℕ → (failed : Bool) → (old new : Option (List ℕ)) → Type 0
FilterFileIsFaulty bytes failed old new =
    IsNoFilterText bytes failed old new ⊎ FilterIsFaulty (pieces_of (utf16_units (filter_text bytes))) failed old new

-- a file of modules with these bytes has this table
pub record IsTable (bytes : List ℕ) (table : ModuleTable) : Type 0 where
  pub size : length bytes ≤ most_modules_bytes
  pub text : IsUtf8 bytes
  pub sound : AreSoundLines (lines_of (utf16_units bytes))
  pub lines : table ≡ table_of (lines_of (utf16_units bytes))

-- it is no text, or has a faulty line
pub record IsNoText (bytes : List ℕ) (failed : Bool) (old new : Option (List ℕ)) : Type 0 where
  pub none : IsUtf8 bytes → ⊥
  pub told : Tells failed old new (codes "modules file is not text\n")

pub record LineIsFaulty (bytes : List ℕ) (failed : Bool) (old new : Option (List ℕ)) : Type 0 where
  pub fault : ModulesFault
  pub first : IsFirstLineFault (lines_of (utf16_units bytes)) fault
  pub tells : TellsModulesFault failed old new fault

abbrev pub ModulesAreFaulty : List ℕ → (failed : Bool) → (old new : Option (List ℕ)) → Type 0
ModulesAreFaulty bytes failed old new = IsNoText bytes failed old new ⊎ LineIsFaulty bytes failed old new

-- A file was not read to its end, and that is told: a read failed, or it has too many bytes. `broken` is
-- whether its source has failed, and `to_come` the bytes of the file.
pub record IsNotRead (broken : Bool) (to_come : Option (List ℕ)) (failed : Bool) (old new : Option (List ℕ)) : Type 0 where
  pub why : (broken ≡ true) ⊎ IfSome to_come (λ bytes. most_modules_bytes < length bytes)
  pub told : Tells failed old new (codes "read failed\n")

-- memory ran out, no read failed, and that is told
abbrev pub RanOut : (broken_before broken_after : Bool) → (failed : Bool) → (old new : Option (List ℕ)) → Type 0
RanOut broken_before broken_after failed old new = (broken_after ≡ broken_before) × TellsNoMemory failed old new

-- what a file lacks is told in this line, and nothing of one that lacks nothing
pub record Notes {S : Type 0} (has_some : Bool) (line : List ℕ) (failed : Bool) (old new : S) (gone_before gone_after : Option (List ℕ)) : Type 0 where
  pub some : has_some ≡ true → new ≡ old
  pub none : has_some ≡ false → Tells failed gone_before gone_after line
