-- The line of a filter that is suggested.
use Rattle.std.proofs.Common.{◌≡◌, ℕ, ◌≤◌, Bool, true, List, ◌++◌, codes, length, take, Option, None, Some, refl, inl, inr}
use Rattle.std.specs.Io.KnownBytes.{Appends, Keeps}
use Rattle.jser_prim.specs.ModifiedUtf8.{utf16_units}
use Rattle.jser_filter.specs.Pieces.{pieces_of}
use Rattle.jser_suggest.specs.Suggested.{Known, suggested, suggested_text}
use Rattle.jser_scan.specs.Samples.{LeavesSuggested, SaysSuggested, SpellsSuggested}

pub line_says : (known : Known) (text line : List ℕ) → utf16_units text ≡ suggested_text known → pieces_of (utf16_units text) ≡ suggested known → line ≡ text ++ codes "\n"
    → SpellsSuggested known line
line_says known text line units pieces is = record { text = text; units = units; pieces = pieces; line_is = is }

-- ---- what went out of it

pub says_suggested : (known : Known) (line : List ℕ) (old new : Option (List ℕ)) → SpellsSuggested known line → Appends old new line → SaysSuggested known old new
says_suggested known line old new spells printed = record { line = line; spells = spells; printed = printed }

pub leaves_some : (known : Known) (line : List ℕ) (count : ℕ) (failed : Bool) (old new : Option (List ℕ)) → SpellsSuggested known line → failed ≡ true → count ≤ length line
    → Appends old new (take count line) → LeavesSuggested known failed old new
leaves_some known line count failed old new spells off within printed =
    inr (off, record { line = line; spells = spells; count = count; within = within; printed = printed })

keeps : (told : Option (List ℕ)) → Keeps told told
keeps None = tt
keeps (Some bytes) = refl

pub leaves_none : (known : Known) (failed : Bool) (told : Option (List ℕ)) → LeavesSuggested known failed told told
leaves_none known failed told = inl (keeps told)
