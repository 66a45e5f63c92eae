use Rattle.jser_records.proofs.WordLemmas.{says_cut, says_longer}
use Rattle.jser_records.proofs.words.write_words.Goals as goal

pub returns-in-Longer : goal.returns-in-Longer
returns-in-Longer g c =
    says_longer _ _ _ _ _ _ c.args.answer.now c.in-Longer.most c.in-Longer.is c.write_count.ensures c.write-in-Longer.ensures

pub returns-in-Cut : goal.returns-in-Cut
returns-in-Cut g c =
    says_cut _ _ _ _ _ _ _ _ c.args.answer.now c.in-Cut.at c.in-Cut.of c.in-Cut.is c.write_count-in-Cut.ensures c.write_count-in-Cut-2.ensures c.write-in-Cut.ensures
