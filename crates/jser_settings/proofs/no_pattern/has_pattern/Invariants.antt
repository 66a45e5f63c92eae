use Rattle.std.proofs.Common.{◌≡◌, drop}
use Rattle.jser_settings.specs.NoPatterns.{has_pattern, has_pattern_behind}
use Rattle.jser_settings.proofs.no_pattern.has_pattern.Given as goal

-- what is left decides as all does
abbrev pub invariant-bytes : goal.invariant-bytes
invariant-bytes l = has_pattern_behind l.before (drop l.byte-index l.text) ≡ has_pattern l.text
