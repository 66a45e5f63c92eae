use Rattle.jser_shown.proofs.PlaceLemmas.{places_are_counted_law}
use Rattle.jser_shown.proofs.laws.places_are_counted.Goals as goal

pub returns : goal.returns
returns c = places_are_counted_law
