-- The counts of files. A count stops at 2^64 - 1.
use Rattle.std.specs.Prelude.{ℕ, ◌+◌, ◌-◌, ◌^◌, min, nat_lt, if◌then◌else◌}
use Rattle.jser_scan.specs.declared.found.Found.{Found}
use Rattle.jser_scan.specs.declared.found.Found.TheVariants as found
use Rattle.jser_scan.specs.declared.tally.Tally.{Tally}

abbrev pub no_files : Tally
no_files = record { files = 0; accepted = 0; refused = 0; unread = 0 }

abbrev pub one_more : ℕ → ℕ
one_more n = min (n + 1) (2 ^ 64 - 1)

abbrev pub one_accepted : Tally → Tally
one_accepted tally = record tally { files = one_more tally.files; accepted = one_more tally.accepted }

abbrev pub one_refused : Tally → Tally
one_refused tally = record tally { files = one_more tally.files; refused = one_more tally.refused }

abbrev pub one_unread : Tally → Tally
one_unread tally = record tally { files = one_more tally.files; unread = one_more tally.unread }

abbrev pub noted : Tally → Found → Tally
noted tally (found.Accepted totals) = one_accepted tally
noted tally (found.Refused refusal class) = one_refused tally
noted tally (found.Hidden from to class) = one_refused tally
noted tally found.NotOpened = one_unread tally
noted tally (found.NotRead fault) = one_unread tally
noted tally found.OutOfMemory = one_unread tally

-- a file that could not be read is worse than one that is refused
abbrev pub status_of : Tally → ℕ
status_of tally = if nat_lt 0 tally.unread then 3 else (if nat_lt 0 tally.refused then 1 else 0)
