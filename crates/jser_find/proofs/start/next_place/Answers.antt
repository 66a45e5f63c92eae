use Rattle.jser_find.proofs.MarkLemmas.{none_before}
use Rattle.jser_find.proofs.start.next_place.Goals as goal

pub returns-then-end-at-gt2-clause-none : goal.returns-then-end-at-gt2-clause-none
returns-then-end-at-gt2-clause-none c = none_before c.args.text.now c.args.at c.unmarked_until-end.result c.unmarked_until-end.ensures
