use Rattle.uses_anywhere.proofs.PlaceLemmas.{hidden_for_good}
use Rattle.uses_anywhere.proofs.places.is_lost.Goals as goal

pub returns-in-Some : goal.returns-in-Some
returns-in-Some g c = λ is more all.
    hidden_for_good (g.J.Judge.passes c.args.judge.now) c.args.bytes.now c.in-Some.field-0.from c.in-Some.field-0.to c.stands_for_good.ensures c.in-Some.ensures more all
