-- How four bytes keep an entry: 0, 1 and 2 for the entries that are no closed descriptor, and 3 and the number
-- of its chain for one that is.
use Rattle.std.specs.Prelude.{ℕ, ◌-◌, ◌==◌, if◌then◌else◌}
use Rattle.jser_table.specs.declared.entry.Kept.{Kept}
use Rattle.jser_table.specs.declared.entry.Kept.TheVariants as kept

abbrev pub kept_of : ℕ → Kept
kept_of code =
    if code == 0 then kept.Text
    else (if code == 1 then kept.Other
    else (if code == 2 then kept.Pending
    else kept.Closed (code - 3)))
