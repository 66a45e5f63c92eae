use Rattle.std.proofs.Common.{◌≡◌, drop}
use Rattle.jser_scan.specs.Paths.{is_unbroken, is_unbroken_behind}
use Rattle.jser_scan.proofs.path.is_unbroken.Given as goal

-- what is left decides as all does
abbrev pub invariant-bytes : goal.invariant-bytes
invariant-bytes l = is_unbroken_behind l.before (drop l.byte-index l.bytes) ≡ is_unbroken l.bytes
