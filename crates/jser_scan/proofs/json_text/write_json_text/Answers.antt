use Rattle.jser_printer.proofs.SaysLemmas.{says_quoted}
use Rattle.jser_scan.specs.JsonTexts.{whole_units}
use Rattle.jser_scan.proofs.json_text.write_json_text.Goals as goal

pub returns : goal.returns
returns g c = says_quoted _ _ _ _ _ _ _ _ (whole_units c.args.units.now) c.write.ensures c.write_whole_units.ensures c.write-2.ensures
