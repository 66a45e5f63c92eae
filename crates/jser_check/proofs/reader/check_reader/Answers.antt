use Rattle.std.proofs.Common.{false, ap, ◌∙◌}
use Rattle.jser_filter.specs.Filters.{FilterView}
use Rattle.jser_check.specs.declared.gate.Options.{Options}
use Rattle.jser_check.specs.Passing.{asking}
use Rattle.jser_check.specs.Pieces.{asked_by}
use Rattle.jser_check.proofs.FaceLemmas.{answers_made, source_undecided}
use Rattle.jser_check.proofs.reader.check_reader.Goals as goal

pub returns-clause-undecided : goal.returns-clause-undecided
returns-clause-undecided g c =
    source_undecided (asking c.args.filter.now c.args.options false) _ _ c.plain_of.result
    (answers_made (asking c.args.filter.now c.args.options false) (asked_by c.plain-check.result) _ _ c.plain_of.result c.answer_of.result c.plain_of.ensures
    (c.plain-check.ensures.asks ∙ ap (λ (f : FilterView). asking f c.new.result.options false) c.new.ensures.filter ∙ ap (λ (o : Options). asking c.args.filter.now o false) c.new.ensures.options)
    c.answer_of.ensures.answers)
