use Rattle.std.proofs.Common.{rules}
use Rattle.jser_find.proofs.StartLemmas.{found_behind, none_at_all, none_here, none_passed}
use Rattle.jser_find.proofs.start.first_start.Goals as goal

pub returns-clause-first : goal.returns-clause-first
returns-clause-first c = none_at_all c.args.text.now c.args.from c.places.at (search rules) c.places.invariant

pub places-preserved : goal.places-preserved
places-preserved c =
    let place = c.next_place-here in
    none_here c.args.text.now c.args.from place.result place.ensures.inside c.in-None.ensures.starts
    (none_passed c.args.text.now c.args.from c.places.at place.result c.places.invariant place.ensures.low place.ensures.inside place.ensures.none)

pub returns-in-Some-clause-first : goal.returns-in-Some-clause-first
returns-in-Some-clause-first c =
    let place = c.next_place-here in
    found_behind c.args.text.now c.args.from c.places.at place.result _ place.ensures.low place.ensures.inside place.ensures.none c.in-Some.ensures.starts c.places.invariant
