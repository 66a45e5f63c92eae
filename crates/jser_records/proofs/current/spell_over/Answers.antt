use Rattle.std.proofs.Common.{◌++◌, subst}
use Rattle.jser_records.specs.Readings.{HasSpelled}
use Rattle.jser_records.proofs.TextLemmas.{few_marked}
use Rattle.jser_records.proofs.current.spell_over.Goals as goal

pub returns-clause-spelled : goal.returns-clause-spelled
returns-clause-spelled c = λ mark before digits few had.
    let marked = c.write_over.new.text in
    subst (λ xs. HasSpelled c.spell.new.self c.args.spelling.form mark (before ++ xs)) c.write_over.ensures
    (c.spell.ensures.spelled c.args.spelling.form mark before digits (few_marked c.args.spelling.copy before c.args.text.now marked c.write_over.ensures few) had)
