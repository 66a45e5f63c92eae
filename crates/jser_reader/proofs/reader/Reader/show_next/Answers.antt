use Rattle.std.proofs.Common.{rules, ◌∙◌, ap, subst, sym, refl, Ok, Err}
use Rattle.jser_reader.specs.declared.reader.feed.Showing.TheVariants as showing
use Rattle.jser_reader.specs.ReaderStates.{NextTells}
use Rattle.jser_reader.specs.States.{AnswersStop}
use Rattle.jser_reader.proofs.FurtherLemmas.{whole_steps, whole_within}
use Rattle.jser_reader.proofs.PassLemmas.{halts_next}
use Rattle.jser_reader.proofs.ShowingLemmas.{field_shown, shown_after}
use Rattle.jser_reader.proofs.reader.Reader.show_next.Goals as goal

pub returns-in-Some-clause-tells : goal.returns-in-Some-clause-tells
returns-in-Some-clause-tells g c =
    field_shown (g.G.Gate.told c.args.self.now.gate) c.args.piece.now c.in-Some.field _ _ _ _ c.in-Some.ensures.tells c.next_field.ensures.tally

pub returns-in-Value-clause-tells : goal.returns-in-Value-clause-tells
returns-in-Value-clause-tells g c =
    shown_after (g.G.Gate.told c.args.self.now.gate) _ refl c.args.piece.now (Ok (showing.Whole c.in-Value.whole)) _ _ _ _ _ _ c.in-None.ensures.tells c.next_field.ensures.tally
    (whole_steps (g.G.Gate.told c.args.self.now.gate) c.args.piece.now c.in-Value.whole _ _ _ _ (c.in-Value.ensures.tells (g.G.Gate.told c.args.self.now.gate) (search rules)))

pub returns-in-Value-clause-progress : goal.returns-in-Value-clause-progress
returns-in-Value-clause-progress g c =
    whole_within (g.G.Gate.told c.args.self.now.gate) c.args.piece.now c.in-Value.whole _ _ _ _ (c.in-Value.ensures.tells (g.G.Gate.told c.args.self.now.gate) (search rules))

pub returns-in-Stopped-clause-tells : goal.returns-in-Stopped-clause-tells
returns-in-Stopped-clause-tells g c =
    shown_after (g.G.Gate.told c.args.self.now.gate) _ refl c.args.piece.now (Err c.answer.result) _ _ _ _ _ _ c.in-None.ensures.tells c.next_field.ensures.tally
    (subst (λ r. NextTells (g.G.Gate.told c.args.self.now.gate) c.args.piece.now (Err c.answer.result) c.next_field.new.self.machine c.next_field.new.self.tally c.answer.new.self r.tally) (sym c.self.view_is)
    (halts_next (g.G.Gate.told c.args.self.now.gate) c.args.piece.now c.answer.result _ _ _ _ _
    (c.in-Stopped.ensures.tells (g.G.Gate.told c.args.self.now.gate) (search rules)) (subst (λ r. AnswersStop c.answer.result r.machine c.answer.new.self) c.self.view_is c.answer.ensures)))

pub returns-in-Nothing-clause-tells : goal.returns-in-Nothing-clause-tells
returns-in-Nothing-clause-tells g c =
    let same = c.in-Nothing.ensures.tells (g.G.Gate.told c.args.self.now.gate) (search rules) in
    shown_after (g.G.Gate.told c.args.self.now.gate) _ (ap g.G.Gate.told (c.lend_whole.ensures.gate ∙ c.next_field.ensures.gate)) c.args.piece.now _ _ _ _ _ _ _
    (same.0 ∙ c.in-None.ensures.tells) (same.1 ∙ c.next_field.ensures.tally) c.show_item.ensures.tells
