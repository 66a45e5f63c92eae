-- What is printed of good files, for which a filter is suggested.
use Rattle.std.specs.Prelude.{◌≡◌, ◌≤◌, ◌⊎◌, ℕ, Bool, true, List, ◌∷◌, ◌++◌, codes, length, take, None, Option}
use Rattle.std.specs.Io.KnownBytes.{Appends, Keeps}
use Rattle.jser_prim.specs.ModifiedUtf8.{utf16_units}
use Rattle.jser_filter.specs.Pieces.{pieces_of}
use Rattle.jser_shown.specs.Words.{quoted}
use Rattle.jser_reader.specs.declared.Stop.TheVariants as stop
use Rattle.jser_settings.specs.Settings.{Tells, TellsNoMemory}
use Rattle.jser_suggest.specs.Suggested.{Known, suggested, suggested_text}
use Rattle.jser_suggest.specs.declared.SampleFault.{SampleFault}
use Rattle.jser_suggest.specs.declared.SampleFault.TheVariants as fault
use Rattle.jser_scan.specs.declared.found.Found.TheVariants as found
use Rattle.jser_scan.specs.declared.path.FilePath.{FilePath}
use Rattle.jser_scan.specs.Lines.{line_words}
use Rattle.jser_scan.specs.Paths.{path_words}

-- the line of the suggested text, which a filter reads as the suggested pieces
pub record SpellsSuggested (known : Known) (line : List ℕ) : Type 0 where
  pub text : List ℕ
  pub units : utf16_units text ≡ suggested_text known
  pub pieces : pieces_of (utf16_units text) ≡ suggested known
  pub line_is : line ≡ text ++ codes "\n"

-- such a line went out
pub record SaysSuggested (known : Known) (old new : Option (List ℕ)) : Type 0 where
  pub line : List ℕ
  pub spells : SpellsSuggested known line
  pub printed : Appends old new line

-- the first bytes of such a line went out, and no others
pub record SaysSomeSuggested (known : Known) (old new : Option (List ℕ)) : Type 0 where
  pub line : List ℕ
  pub spells : SpellsSuggested known line
  pub count : ℕ
  pub within : count ≤ length line
  pub printed : Appends old new (take count line)

-- nothing went out; or the output failed, and the first bytes of the line went out
abbrev pub LeavesSuggested : Known → (failed : Bool) → (old new : Option (List ℕ)) → Type 0
LeavesSuggested known failed old new = Keeps old new ⊎ ((failed ≡ true) × SaysSomeSuggested known old new)

-- why it did not go out, and the line that was told of it: the write failed, or memory ran out and it did not
abbrev pub TellsUnprinted : (write_before write_after : Bool) → (failed : Bool) → (old new : Option (List ℕ)) → Type 0
TellsUnprinted write_before write_after failed old new =
    ((write_after ≡ true) × Tells failed old new (codes "write failed\n")) ⊎ ((write_after ≡ write_before) × TellsNoMemory failed old new)

-- PATH: no pattern can safely name NAME
abbrev pub unwritable_words : FilePath → List ℕ → List ℕ → List ℕ
unwritable_words path name k = path_words path (codes ": no pattern can safely name " ++ quoted name (0x0A ∷ k))

-- that, or the line of a refusal
abbrev pub no_sample_words : FilePath → SampleFault → List ℕ → List ℕ
no_sample_words path (fault.Unwritable name) k = unwritable_words path name.items k
no_sample_words path (fault.Stop (stop.Refused refusal)) k = line_words path (found.Refused refusal None) k
no_sample_words path (fault.Stop stop.OutOfMemory) k = line_words path found.OutOfMemory k
no_sample_words path (fault.Stop stop.Spent) k = line_words path found.OutOfMemory k

abbrev pub no_sample_status : SampleFault → ℕ
no_sample_status (fault.Unwritable name) = 1
no_sample_status (fault.Stop (stop.Refused refusal)) = 1
no_sample_status (fault.Stop stop.OutOfMemory) = 3
no_sample_status (fault.Stop stop.Spent) = 3
