-- The verdict again, which besides looks at what the format takes at the position, and compares the bytes. It meets the
-- premise of the laws of the walk for every label and all lists of numbers; the verdict of `specs/Verdicts`, which only
-- counts bytes, says the same of all bytes that a walk asks about.
use Rattle.jser_reading.specs.GateLimits.{gate_of}
use Rattle.jser_reading.specs.Scanner.{VerdictOn}
use Rattle.jser_reading.proofs.PlainVerdict.{plain_verdict}
use Rattle.jser_verdict.specs.Gates.{Gate, limits_of}
use Rattle.jser_verdict.specs.Verdicts.{reason_at, by_reason}

abbrev pub scanning_verdict : Gate → VerdictOn
scanning_verdict gate label bytes =
    by_reason (reason_at gate label label.position bytes) (plain_verdict (gate_of (limits_of gate)) label bytes)
