-- The text of a filter's file of these bytes, and why there is none.
use Rattle.std.specs.Prelude.{ℕ, ◌≡◌, List, Some, None}
use Rattle.std.specs.Str.{IsUtf8}
use Rattle.jser_settings.specs.FilterFiles.{filter_text}
use Rattle.jser_settings.specs.FileFaults.{file_fault}
use Rattle.jser_settings.specs.declared.file_text.FileTextFault.{FileTextFault}
use Rattle.jser_settings.specs.declared.file_text.FileTextFault.TheVariants as fault

pub record IsFileText (bytes text : List ℕ) : Type 0 where
  pub utf8 : IsUtf8 bytes
  pub lines : file_fault bytes ≡ None
  pub is : text ≡ filter_text bytes

abbrev pub IsFileTextFault : List ℕ → FileTextFault → Type 0
IsFileTextFault bytes fault.NoText = IsUtf8 bytes → ⊥
IsFileTextFault bytes (fault.Faulty first) = file_fault bytes ≡ Some first
IsFileTextFault bytes fault.OutOfMemory = Unit {0}
