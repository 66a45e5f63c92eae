-- The check finds this with no answer too; with one, it refuses a wrong body sooner.
use Rattle.std.proofs.Common.{rules}
use Rattle.jser_printer.proofs.LayerLemmas.{no_value, value_found, value_passed}
use Rattle.jser_printer.proofs.layer.next_value.Goals as goal

pub returns-then-not-is_raw : goal.returns-then-not-is_raw
returns-then-not-is_raw c = search (rules, value_found)

pub fields-preserved : goal.fields-preserved
fields-preserved c = search (rules, value_passed)

pub returns : goal.returns
returns c = search (rules, no_value)
