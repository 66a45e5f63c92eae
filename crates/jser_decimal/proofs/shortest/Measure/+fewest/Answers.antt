use Rattle.std.proofs.Common.{◌∙◌, sym, arith}
use Rattle.jser_decimal.proofs.ShortestLemmas.{fewest_found, fewest_next}
use Rattle.jser_decimal.proofs.shortest.Measure.+fewest.Goals as goal

pub returns-in-Some : goal.returns-in-Some
returns-in-Some t c = fewest_found _ _ _ _ c.ten_to-step.ensures.power (sym c.best.ensures ∙ c.in-Some.is)

pub returns-in-None-2 : goal.returns-in-None-2
returns-in-None-2 t c =
    let some = c.if-more-eq0.false in
    c.fewest.ensures ∙ fewest_next _ _ _ (omega (arith, some)) c.ten_to-step.ensures.power (sym c.best.ensures ∙ c.in-None-2.is)
