use Rattle.std.proofs.Common.{◌≡◌, take, length}
use Rattle.std.specs.List.{flat_map}
use Rattle.jser_shown.specs.Words.{quoted_unit}
use Rattle.jser_printer.proofs.words.quote.plain_run.Given as goal

abbrev pub invariant-loop-unit : goal.invariant-loop-unit
invariant-loop-unit l = record {
  many : length l.run.items ≡ l.unit-index;
  plain : l.run.items ≡ flat_map quoted_unit (take l.unit-index l.units);
}
