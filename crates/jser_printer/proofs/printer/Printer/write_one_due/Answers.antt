use Rattle.std.proofs.Common.{ap, sym, refl, ◌∙◌}
use Rattle.jser_printer.specs.Steps.{due}
use Rattle.jser_printer.specs.declared.phase.Over.TheVariants as over
use Rattle.jser_printer.specs.declared.phase.Phase.TheVariants as phase
use Rattle.jser_printer.proofs.PassLemmas.{end_quiet, none_in_phase, none_said, quiet_phase}
use Rattle.jser_printer.proofs.printer.Printer.write_one_due.Goals as goal

pub returns-then-left-gt0-clause-said : goal.returns-then-left-gt0-clause-said
returns-then-left-gt0-clause-said g c = quiet_phase _ _ _ _ (phase.Fields c.in-Fields.head c.in-Fields.flags c.in-Fields.left over.Nothing) _ _ _ c.self.view_is (c.in-Fields.is ∙ ap (λ o. phase.Fields c.in-Fields.head c.in-Fields.flags c.in-Fields.left o) c.in-Nothing.is) (λ k. end_quiet c.in-Fields.left k)

pub returns-in-Place-clause-said : goal.returns-in-Place-clause-said
returns-in-Place-clause-said g c = quiet_phase _ _ _ _ (phase.Fields c.in-Fields.head c.in-Fields.flags c.in-Fields.left over.Place) _ _ _ c.self.view_is (c.in-Fields.is ∙ ap (λ o. phase.Fields c.in-Fields.head c.in-Fields.flags c.in-Fields.left o) c.in-Place.is) (λ k. refl)

pub returns-in-Text-clause-said : goal.returns-in-Text-clause-said
returns-in-Text-clause-said g c = quiet_phase _ _ _ _ (phase.Fields c.in-Fields.head c.in-Fields.flags c.in-Fields.left over.Text) _ _ _ c.self.view_is (c.in-Fields.is ∙ ap (λ o. phase.Fields c.in-Fields.head c.in-Fields.flags c.in-Fields.left o) c.in-Text.is) (λ k. refl)

pub returns-in-Handle-clause-said : goal.returns-in-Handle-clause-said
returns-in-Handle-clause-said g c = quiet_phase _ _ _ _ (phase.Fields c.in-Fields.head c.in-Fields.flags c.in-Fields.left over.Handle) _ _ _ c.self.view_is (c.in-Fields.is ∙ ap (λ o. phase.Fields c.in-Fields.head c.in-Fields.flags c.in-Fields.left o) c.in-Handle.is) (λ k. refl)

pub returns-then-left-gt0-2-clause-said : goal.returns-then-left-gt0-2-clause-said
returns-then-left-gt0-2-clause-said g c = quiet_phase _ _ _ _ (phase.Interfaces c.in-Interfaces.head c.in-Interfaces.left) _ _ _ c.self.view_is c.in-Interfaces.is (λ k. end_quiet c.in-Interfaces.left k)

pub returns-in_err-end_proxy-in-Interfaces-clause-said : goal.returns-in_err-end_proxy-in-Interfaces-clause-said
returns-in_err-end_proxy-in-Interfaces-clause-said g c = quiet_phase _ _ _ _ (phase.Interfaces c.in-Interfaces.head c.in-Interfaces.left) _ _ _ c.self.view_is c.in-Interfaces.is (λ k. end_quiet c.in-Interfaces.left k)

pub returns-in_ok-end_proxy-in-Interfaces-clause-said : goal.returns-in_ok-end_proxy-in-Interfaces-clause-said
returns-in_ok-end_proxy-in-Interfaces-clause-said g c = quiet_phase _ _ _ _ (phase.Interfaces c.in-Interfaces.head c.in-Interfaces.left) _ _ _ c.self.view_is c.in-Interfaces.is (λ k. end_quiet c.in-Interfaces.left k)

pub returns-in_default : goal.returns-in_default
returns-in_default g c =
    let none = ap due (sym c.self.view_is) ∙ none_in_phase c.self.inside.phase c.self.inside.draft.name c.self.inside.draft.done c.self.inside.standing c.in_default.not-Frames c.in_default.not-Fields c.in_default.not-Interfaces in
    record { said = none_said _ _ _ none; passed = (none, refl) }

pub returns-in_err-end_class-in-Nothing-clause-said : goal.returns-in_err-end_class-in-Nothing-clause-said
returns-in_err-end_class-in-Nothing-clause-said g c = quiet_phase _ _ _ _ (phase.Fields c.in-Fields.head c.in-Fields.flags c.in-Fields.left over.Nothing) _ _ _ c.self.view_is (c.in-Fields.is ∙ ap (λ o. phase.Fields c.in-Fields.head c.in-Fields.flags c.in-Fields.left o) c.in-Nothing.is) (λ k. end_quiet c.in-Fields.left k)

pub returns-in_ok-end_class-in-Nothing-clause-said : goal.returns-in_ok-end_class-in-Nothing-clause-said
returns-in_ok-end_class-in-Nothing-clause-said g c = quiet_phase _ _ _ _ (phase.Fields c.in-Fields.head c.in-Fields.flags c.in-Fields.left over.Nothing) _ _ _ c.self.view_is (c.in-Fields.is ∙ ap (λ o. phase.Fields c.in-Fields.head c.in-Fields.flags c.in-Fields.left o) c.in-Nothing.is) (λ k. end_quiet c.in-Fields.left k)
