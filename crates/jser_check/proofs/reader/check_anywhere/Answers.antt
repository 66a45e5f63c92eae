use Rattle.std.proofs.Common.{◌∙◌, true}
use Rattle.jser_check.specs.Passing.{asking}
use Rattle.jser_check.proofs.PieceLemmas.{asks_made}
use Rattle.jser_check.proofs.SourceLemmas.{as_made}
use Rattle.jser_check.proofs.reader.check_anywhere.Goals as goal

pub returns-clause-tells : goal.returns-clause-tells
returns-clause-tells g c =
    (as_made (asking c.args.filter.now c.args.options true) c.in-Ok.check _ (g.R.Source.to_come c.answer_of.new.source) c.answer_of.result
    (c.in-Ok.ensures.asks ∙ asks_made c.new.result c.args.filter.now c.args.options true c.new.ensures.filter c.new.ensures.options) c.answer_of.ensures.answers).tells

pub returns-clause-undecided : goal.returns-clause-undecided
returns-clause-undecided g c =
    (as_made (asking c.args.filter.now c.args.options true) c.in-Ok.check _ (g.R.Source.to_come c.answer_of.new.source) c.answer_of.result
    (c.in-Ok.ensures.asks ∙ asks_made c.new.result c.args.filter.now c.args.options true c.new.ensures.filter c.new.ensures.options) c.answer_of.ensures.answers).undecided

pub returns-clause-never_spent : goal.returns-clause-never_spent
returns-clause-never_spent g c = c.answer_of.ensures.answers.unspent

pub returns-clause-within : goal.returns-clause-within
returns-clause-within g c = c.answer_of.ensures.answers.within

pub returns-clause-prompt : goal.returns-clause-prompt
returns-clause-prompt g c = c.answer_of.ensures.answers.prompt
