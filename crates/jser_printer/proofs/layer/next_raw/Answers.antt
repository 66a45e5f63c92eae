-- The check finds this with no answer too; with one, it refuses a wrong body sooner.
use Rattle.std.proofs.Common.{rules}
use Rattle.jser_printer.proofs.LayerLemmas.{no_raw, raw_found, raw_passed}
use Rattle.jser_printer.proofs.layer.next_raw.Goals as goal

pub returns-then-is_raw : goal.returns-then-is_raw
returns-then-is_raw c = search (rules, raw_found)

pub fields-preserved : goal.fields-preserved
fields-preserved c = search (rules, raw_passed)

pub returns : goal.returns
returns c = search (rules, no_raw)
