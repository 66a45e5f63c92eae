use Rattle.std.proofs.Common.{◌∷◌, ◌∙◌, ap, refl, subst}
use Rattle.jser_printer.specs.declared.frame.Frame.TheVariants as frame
use Rattle.jser_printer.specs.Frames.{BeginsWith, go_on, parts_of, tail_of}
use Rattle.jser_printer.proofs.PassLemmas.{quiet_part, section_is_due, section_passed}
use Rattle.jser_printer.proofs.standing.passing.write_sections.Goals as goal

pub returns-in_err-inner-in-Notes-clause-said : goal.returns-in_err-inner-in-Notes-clause-said
returns-in_err-inner-in-Notes-clause-said g c = quiet_part _ _ c.args.table.now.layers c.args.table.now.chains c.args.frames.now c.args.at _ c.requires.top (subst (λ p. BeginsWith (parts_of c.args.table.now.chains c.args.at) p (parts_of c.args.table.now.chains (go_on c.args.at c.next_part-next.result.index c.next_part-next.result.stage))) c.in-Notes.is c.next_part-next.ensures.next) (λ k. refl)

pub returns-in_err-push-in-Notes-clause-said : goal.returns-in_err-push-in-Notes-clause-said
returns-in_err-push-in-Notes-clause-said g c = quiet_part _ _ c.args.table.now.layers c.args.table.now.chains c.args.frames.now c.args.at _ c.requires.top (subst (λ p. BeginsWith (parts_of c.args.table.now.chains c.args.at) p (parts_of c.args.table.now.chains (go_on c.args.at c.next_part-next.result.index c.next_part-next.result.stage))) c.in-Notes.is c.next_part-next.ensures.next) (λ k. refl)

pub returns-in_ok-push-in-Notes-clause-said : goal.returns-in_ok-push-in-Notes-clause-said
returns-in_ok-push-in-Notes-clause-said g c = quiet_part _ _ c.args.table.now.layers c.args.table.now.chains c.args.frames.now c.args.at _ c.requires.top (subst (λ p. BeginsWith (parts_of c.args.table.now.chains c.args.at) p (parts_of c.args.table.now.chains (go_on c.args.at c.next_part-next.result.index c.next_part-next.result.stage))) c.in-Notes.is c.next_part-next.ensures.next) (λ k. refl)

pub returns-in-End-clause-said : goal.returns-in-End-clause-said
returns-in-End-clause-said g c = quiet_part _ _ c.args.table.now.layers c.args.table.now.chains c.args.frames.now c.args.at _ c.requires.top (subst (λ p. BeginsWith (parts_of c.args.table.now.chains c.args.at) p (parts_of c.args.table.now.chains (go_on c.args.at c.next_part-next.result.index c.next_part-next.result.stage))) c.in-End.is c.next_part-next.ensures.next) (λ k. refl)

pub returns-in-Raw-clause-said : goal.returns-in-Raw-clause-said
returns-in-Raw-clause-said g c = quiet_part _ _ c.args.table.now.layers c.args.table.now.chains c.args.frames.now c.args.at _ c.requires.top (subst (λ p. BeginsWith (parts_of c.args.table.now.chains c.args.at) p (parts_of c.args.table.now.chains (go_on c.args.at c.next_part-next.result.index c.next_part-next.result.stage))) c.in-Raw.is c.next_part-next.ensures.next) (λ k. refl)

pub returns-in-Value-clause-said : goal.returns-in-Value-clause-said
returns-in-Value-clause-said g c = quiet_part _ _ c.args.table.now.layers c.args.table.now.chains c.args.frames.now c.args.at _ c.requires.top (subst (λ p. BeginsWith (parts_of c.args.table.now.chains c.args.at) p (parts_of c.args.table.now.chains (go_on c.args.at c.next_part-next.result.index c.next_part-next.result.stage))) c.in-Value.is c.next_part-next.ensures.next) (λ k. refl)

pub returns-in-Section-clause-passed : goal.returns-in-Section-clause-passed
returns-in-Section-clause-passed g c =
    let begins = (subst (λ p. BeginsWith (parts_of c.args.table.now.chains c.args.at) p (parts_of c.args.table.now.chains (go_on c.args.at c.next_part-next.result.index c.next_part-next.result.stage))) c.in-Section.is c.next_part-next.ensures.next) in (
      (_, section_is_due c.args.table.now.layers c.args.table.now.chains c.args.frames.now c.args.at _ _ c.requires.top begins),
      λ e known os. section_passed c.args.table.now.layers c.args.table.now.chains c.args.frames.now c.set_top.new.self c.args.at c.next_part-next.result.index c.next_part-next.result.stage _ e known os c.requires.top (c.set_top.ensures ∙ ap (λ x. frame.Sections x ∷ tail_of c.args.frames.now) c.go_on.ensures) begins,
    )
