use Rattle.std.proofs.Common.{◌≡◌, ◌+◌, ◌≤◌, length}
use denote.Text.{Utf8}
use denote.Shadow.{shadow}
use Rattle.jser_filter.specs.Cuts.{split_at_each}
use Rattle.jser_settings.specs.FileFaults.{fault_from}
use Rattle.jser_settings.proofs.faulty_line.first_fault.Given as goal

-- the first fault of the lines that are left is that of all
abbrev pub invariant-lines : goal.invariant-lines
invariant-lines l =
    shadow (Utf8 l.rest) × (fault_from l.number (split_at_each 0x0A l.rest) ≡ fault_from 0 (split_at_each 0x0A l.text)) × (l.number + length l.rest ≤ length l.text)

abbrev pub decreases-lines : goal.decreases-lines
decreases-lines l = length l.rest
