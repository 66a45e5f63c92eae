use Rattle.std.proofs.Common.{◌≡◌, ◌++◌, ◌-◌, ◌≤◌, length, take, drop}
use Rattle.jser_records.specs.Texts.{blanked}
use Rattle.jser_records.proofs.current.blank_line_feeds.Given as goal

-- the text so far is as it will be
abbrev pub invariant-marks : goal.invariant-marks
invariant-marks l = record {
  done : blanked l.fn.text ≡ take l.at l.text ++ blanked (drop l.at l.text);
  within : l.at ≤ length l.text;
}

abbrev pub decreases-marks : goal.decreases-marks
decreases-marks l = length l.text - l.at
