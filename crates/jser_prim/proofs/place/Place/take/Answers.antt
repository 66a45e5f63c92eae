use Rattle.std.proofs.Common.{sym, subst}
use Rattle.jser_prim.specs.Places.{TakesByte, cut_at}
use Rattle.jser_prim.proofs.place.Place.take.Goals as goal

pub returns-in-Last-clause-takes : goal.returns-in-Last-clause-takes
returns-in-Last-clause-takes c = λ _. subst (λ at. TakesByte c.args.room (cut_at at) c.args.byte c.take_last.result) (sym c.in-Last.is) (c.take_last.ensures c.args.room)
