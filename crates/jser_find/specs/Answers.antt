-- The answer for a stream that was found.
use Rattle.std.specs.Prelude.{ℕ, List}
use Rattle.jser_scan.specs.declared.check.Rules.{Rules}
use Rattle.jser_scan.specs.declared.found.Found.{Found}
use Rattle.jser_scan.specs.declared.found.Found.TheVariants as found
use Rattle.jser_scan.specs.Founds.{IsFoundBy}

-- what the check says of the bytes, or that memory ran out
abbrev pub IsJudged : Rules → List ℕ → Found → Type 0
IsJudged rules bytes (found.Accepted totals) = IsFoundBy rules bytes (found.Accepted totals)
IsJudged rules bytes (found.Refused refusal class) = IsFoundBy rules bytes (found.Refused refusal class)
IsJudged rules bytes (found.Hidden from to class) = ⊥
IsJudged rules bytes found.NotOpened = ⊥
IsJudged rules bytes (found.NotRead fault) = ⊥
IsJudged rules bytes found.OutOfMemory = Unit {0}
