use Rattle.std.proofs.Common.{length, sym, ap, ◌∙◌, arith}
use Rattle.jser_anywhere.proofs.NamesLemmas.{none_untold}
use Rattle.jser_anywhere.proofs.names.Names.next.Goals as goal

pub returns-clause-tells : goal.returns-clause-tells
returns-clause-tells c =
    sym c.places.invariant.0
    ∙ none_untold c.places.self c.places.invariant.1 (omega (arith, c.places-test.false, ap (λ t. t.next) c.self.view_is, ap (λ t. length t.bytes) c.self.view_is))
