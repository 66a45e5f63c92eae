use Rattle.jser_explain.proofs.ShortLemmas.{says_units}
use Rattle.jser_explain.proofs.short.write_class_name.Goals as goal

pub returns : goal.returns
returns g c = says_units _ _ _ _ _ _ c.args.units.now c.first_letters.result.now c.first_letters.ensures c.write_quoted.ensures c.write_cut.ensures
