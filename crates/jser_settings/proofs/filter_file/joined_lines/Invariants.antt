use Rattle.std.proofs.Common.{◌≡◌, string_bytes, ◌++◌, length}
use denote.Text.{Utf8}
use denote.Shadow.{shadow}
use Rattle.jser_settings.specs.FilterFiles.{filter_text}
use Rattle.jser_settings.proofs.filter_file.joined_lines.Given as goal

-- what was joined and what is left give the text of all
abbrev pub invariant-lines : goal.invariant-lines
invariant-lines l = shadow (Utf8 l.rest) × (string_bytes l.joined ++ filter_text l.rest ≡ filter_text l.text)

abbrev pub decreases-lines : goal.decreases-lines
decreases-lines l = length l.rest
