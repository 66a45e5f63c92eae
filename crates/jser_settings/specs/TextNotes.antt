-- What is told of a filter's text that is given: that it has no pattern, or else which piece first begins or ends with a sign
-- that nobody sees.
use Rattle.std.specs.Prelude.{ℕ, ◌≡◌, ◌⊎◌, Bool, if◌then◌else◌, List, ◌++◌, codes, Option, Some, None, option_map}
use Rattle.std.specs.Fmt.{decimal}
use Rattle.std.specs.Str.{chars}
use Rattle.jser_settings.specs.NoPatterns.{has_pattern}
use Rattle.jser_settings.specs.Settings.{Tells, TellsNoMemory}
use Rattle.jser_settings.specs.Unseen.{first_unseen}

abbrev pub unseen_line : ℕ → List ℕ
unseen_line piece = codes "filter pattern " ++ decimal piece ++ codes " begins or ends with a blank or an unseen character\n"

abbrev pub text_note : List ℕ → Option (List ℕ)
text_note text = if has_pattern text then option_map unseen_line (first_unseen (chars text)) else Some (codes "filter has no pattern\n")

-- the line went out, or the writer has failed, or there was no memory for the line and that is told; where there is no line,
-- nothing was told
abbrev pub NotesText : {S : Type 0} → Option (List ℕ) → (failed : Bool) → (old new : S) → (gone_before gone_after : Option (List ℕ)) → Type 0
NotesText None failed old new gone_before gone_after = new ≡ old
NotesText (Some line) failed old new gone_before gone_after = Tells failed gone_before gone_after line ⊎ TellsNoMemory failed gone_before gone_after
