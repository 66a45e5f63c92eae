use Rattle.std.proofs.Common.{rules, [], ◌∷◌, ◌++◌, ◌∙◌, ap}
use Rattle.jser_index.proofs.KeptLemmas.{extends_far, kept_far}
use Rattle.jser_index.proofs.strings.Strings.add.Goals as goal

pub returns-clause-kept : goal.returns-clause-kept
returns-clause-kept c =
    extends_far c.args.self.now _ c.args.units.now (ap (λ x. x.near) c.self.view_is)
    (c.in_ok-add-2.ensures.added ∙ ap (λ x. x.far ++ (c.args.units.now ∷ [])) c.self.view_is)

pub returns-clause-units : goal.returns-clause-units
returns-clause-units c =
    kept_far c.args.units.now c.in_ok-number.number c.args.self.now _ (search rules)
    (c.in_ok-add-2.ensures.added ∙ ap (λ x. x.far ++ (c.args.units.now ∷ [])) c.self.view_is)
