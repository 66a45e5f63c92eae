use Rattle.std.proofs.Common.{◌≡◌, ℕ, List, drop}
use Rattle.std.specs.List.{flat_map}
use Rattle.jser_shown.specs.Words.{quoted_unit}
use Rattle.jser_explain.proofs.short.behind_letters.Given as goal

abbrev pub invariant-loop-letter : goal.invariant-loop-letter
invariant-loop-letter l = (units : List ℕ) → l.quoted ≡ flat_map quoted_unit units → l.rest ≡ flat_map quoted_unit (drop l.letter units)
