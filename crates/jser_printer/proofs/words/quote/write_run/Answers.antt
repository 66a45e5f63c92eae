use Rattle.std.proofs.Common.{rules, length, ◌∙◌}
use Rattle.jser_printer.proofs.SaysLemmas.{says_units}
use Rattle.jser_printer.proofs.words.quote.write_run.Goals as goal

pub returns-clause-said : goal.returns-clause-said
returns-clause-said g c =
    says_units _ _ _ _ c.args.units.now c.as_slice.result.now c.split_at.result.1.now (length c.plain_run-run.result.items) c.write.ensures
    (c.as_slice.ensures.value ∙ c.plain_run-run.ensures.plain) (search rules)
