use Rattle.std.proofs.Common.{ap, sym, refl, ◌∙◌, ◌∷◌}
use Rattle.jser_shown.specs.Cues.{teller}
use Rattle.jser_printer.specs.Given.{view_nodes, view_owner}
use Rattle.jser_printer.specs.Steps.{due, due_in, pass, made_due, quiet_due}
use Rattle.jser_printer.specs.Frames.{cues_of, tail_of}
use Rattle.jser_printer.specs.declared.frame.Frame.TheVariants as frame
use Rattle.jser_printer.proofs.PassLemmas.{close_passed, due_first, end_quiet, none_said, pass_first, quiet_frame}
use Rattle.jser_printer.proofs.standing.Standing.write_due.Goals as goal

pub returns-in_err-inner-in-Some-ExternalNotes-clause-said : goal.returns-in_err-inner-in-Some-ExternalNotes-clause-said
returns-in_err-inner-in-Some-ExternalNotes-clause-said g c = quiet_frame _ _ _ _ _ _ _ _ _ _ _ c.self.view_is c.in-Some-ExternalNotes.ensures c.in-Some-ExternalNotes.field-0-is (λ k. refl)

pub returns-in_err-push-in-Some-ExternalNotes-clause-said : goal.returns-in_err-push-in-Some-ExternalNotes-clause-said
returns-in_err-push-in-Some-ExternalNotes-clause-said g c = quiet_frame _ _ _ _ _ _ _ _ _ _ _ c.self.view_is c.in-Some-ExternalNotes.ensures c.in-Some-ExternalNotes.field-0-is (λ k. refl)

pub returns-in_ok-push-in-Some-ExternalNotes-clause-said : goal.returns-in_ok-push-in-Some-ExternalNotes-clause-said
returns-in_ok-push-in-Some-ExternalNotes-clause-said g c = quiet_frame _ _ _ _ _ _ _ _ _ _ _ c.self.view_is c.in-Some-ExternalNotes.ensures c.in-Some-ExternalNotes.field-0-is (λ k. refl)

pub returns-then-at-gt0-clause-said : goal.returns-then-at-gt0-clause-said
returns-then-at-gt0-clause-said g c = quiet_frame _ _ _ _ _ _ _ _ _ _ _ c.self.view_is c.in-Some-Elements.ensures c.in-Some-Elements.field-0-is (λ k. end_quiet c.in-Some-Elements.at.left k)

pub returns-else-at-gt0-clause-said : goal.returns-else-at-gt0-clause-said
returns-else-at-gt0-clause-said g c = quiet_frame _ _ _ _ _ _ _ _ _ _ _ c.self.view_is c.in-Some-Elements.ensures c.in-Some-Elements.field-0-is (λ k. end_quiet c.in-Some-Elements.at.left k)

pub returns-in_err-make-in-Some-Made-clause-said : goal.returns-in_err-make-in-Some-Made-clause-said
returns-in_err-make-in-Some-Made-clause-said g c = quiet_frame _ _ _ _ _ _ _ _ _ _ _ c.self.view_is c.in-Some-Made.ensures c.in-Some-Made.field-0-is (λ k. refl)

pub returns-in_ok-make-in-Some-Made-clause-said : goal.returns-in_ok-make-in-Some-Made-clause-said
returns-in_ok-make-in-Some-Made-clause-said g c = quiet_frame _ _ _ _ _ _ _ _ _ _ _ c.self.view_is c.in-Some-Made.ensures c.in-Some-Made.field-0-is (λ k. refl)

pub returns-in_err-close-in-Some-Close-clause-said : goal.returns-in_err-close-in-Some-Close-clause-said
returns-in_err-close-in-Some-Close-clause-said g c = quiet_frame _ _ _ _ _ _ _ _ _ _ _ c.self.view_is c.in-Some-Close.ensures c.in-Some-Close.field-0-is (λ k. refl)

pub returns-in_ok-close-in-Some-Close-clause-said : goal.returns-in_ok-close-in-Some-Close-clause-said
returns-in_ok-close-in-Some-Close-clause-said g c = quiet_frame _ _ _ _ _ _ _ _ _ _ _ c.self.view_is c.in-Some-Close.ensures c.in-Some-Close.field-0-is (λ k. refl)

pub returns-in-Some-ExternalEnd-clause-said : goal.returns-in-Some-ExternalEnd-clause-said
returns-in-Some-ExternalEnd-clause-said g c = quiet_frame _ _ _ _ _ _ _ _ _ _ _ c.self.view_is c.in-Some-ExternalEnd.ensures c.in-Some-ExternalEnd.field-0-is (λ k. refl)

pub returns-in-Some-End-clause-said : goal.returns-in-Some-End-clause-said
returns-in-Some-End-clause-said g c = quiet_frame _ _ _ _ _ _ _ _ _ _ _ c.self.view_is c.in-Some-End.ensures c.in-Some-End.field-0-is (λ k. refl)

pub returns-in-Some-Notes-clause-said : goal.returns-in-Some-Notes-clause-said
returns-in-Some-Notes-clause-said g c = quiet_frame _ _ _ _ _ _ _ _ _ _ _ c.self.view_is c.in-Some-Notes.ensures c.in-Some-Notes.field-0-is (λ k. refl)

pub returns-in-Some-Super-clause-said : goal.returns-in-Some-Super-clause-said
returns-in-Some-Super-clause-said g c = quiet_frame _ _ _ _ _ _ _ _ _ _ _ c.self.view_is c.in-Some-Super.ensures c.in-Some-Super.field-0-is (λ k. refl)

pub returns-in-Some-SuperHandle-clause-said : goal.returns-in-Some-SuperHandle-clause-said
returns-in-Some-SuperHandle-clause-said g c = quiet_frame _ _ _ _ _ _ _ _ _ _ _ c.self.view_is c.in-Some-SuperHandle.ensures c.in-Some-SuperHandle.field-0-is (λ k. refl)

pub returns-in-None-clause-said : goal.returns-in-None-clause-said
returns-in-None-clause-said g c = none_said _ _ _ (ap due (sym c.self.view_is) ∙ ap (λ fs. due_in (cues_of c.self.inside.table.layers c.self.inside.table.chains fs)) c.in-None.ensures)

pub returns-in_ok-close-in-Some-Close-clause-passed : goal.returns-in_ok-close-in-Some-Close-clause-passed
returns-in_ok-close-in-Some-Close-clause-passed g c =
    let top = c.in-Some-Close.ensures ∙ ap (λ f. f ∷ tail_of c.self.inside.frames) c.in-Some-Close.field-0-is in (
      (quiet_due, ap due (sym c.self.view_is) ∙ due_first c.self.inside.table.layers c.self.inside.table.chains c.self.inside.frames (frame.Close c.in-Some-Close.number c.in-Some-Close.parent c.in-Some-Close.layer) top),
      λ name done. ap pass (sym c.self.view_is)
          ∙ sym (close_passed c.self.inside.table.layers c.close.new.self.layers c.self.inside.table.chains c.close.new.self.chains _
          c.self.inside.frames c.pop-in-Some-Close.new.self c.in-Some-Close.number c.in-Some-Close.parent c.in-Some-Close.layer
          (record { number = c.self.inside.epoch; values = c.self.inside.values }) c.self.inside.table.known c.close.new.self.known _ c.self.invariant
          c.in_ok-close-in-Some-Close.ensures.layers c.in_ok-close-in-Some-Close.ensures.chains c.pop-in-Some-Close.ensures
          top c.in_ok-close-in-Some-Close.ensures.known),
    )

pub returns-in_ok-make-in-Some-Made-clause-passed : goal.returns-in_ok-make-in-Some-Made-clause-passed
returns-in_ok-make-in-Some-Made-clause-passed g c =
    let top = c.in-Some-Made.ensures ∙ ap (λ f. f ∷ tail_of c.self.inside.frames) c.in-Some-Made.field-0-is in (
      (made_due (view_owner c.in-Some-Made.owner), ap due (sym c.self.view_is) ∙ due_first c.self.inside.table.layers c.self.inside.table.chains c.self.inside.frames (frame.Made c.in-Some-Made.owner c.in-Some-Made.level c.in-Some-Made.number) top),
      c.in_ok-make-in-Some-Made.ensures,
    )

pub returns-in-Some-External-clause-passed : goal.returns-in-Some-External-clause-passed
returns-in-Some-External-clause-passed g c =
    let layers = c.self.inside.table.layers in
    let chains = c.self.inside.table.chains in
    let top = c.in-Some-External.ensures ∙ ap (λ f. f ∷ tail_of c.self.inside.frames) c.in-Some-External.field-0-is in
    let external = frame.External c.in-Some-External.level c.in-Some-External.chain in (
      (_, ap due (sym c.self.view_is) ∙ due_first layers chains c.self.inside.frames external top),
      λ name done. ap pass (sym c.self.view_is)
          ∙ pass_first layers chains c.self.inside.frames external (record { number = c.self.inside.epoch; values = c.self.inside.values }) c.self.inside.table.known (view_nodes c.self.inside.owners.now) top
          ∙ sym (ap (λ fs. teller (record { number = c.self.inside.epoch; values = c.self.inside.values }) c.self.inside.table.known (view_nodes c.self.inside.owners.now) (cues_of layers chains fs)) c.set_top.ensures),
    )
