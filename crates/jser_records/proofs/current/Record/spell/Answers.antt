use Rattle.std.proofs.Common.{rules, ◌≡◌, ◌++◌, ◌<◌, ◌^◌, length, sym, subst, ◌∙◌}
use Rattle.jser_records.specs.Readings.{HasSpelled}
use Rattle.jser_records.specs.Texts.{characters_in}
use Rattle.jser_records.proofs.ReadingLemmas.{spells_answered, spells_stopped}
use Rattle.jser_records.proofs.current.Record.spell.Goals as goal

pub returns-then-is_answered-clause-spelled : goal.returns-then-is_answered-clause-spelled
returns-then-is_answered-clause-spelled c = λ mark before digits few had.
    let r = c.args.self.now.reading in
    spells_stopped r.judge r.most r.room r.answer r.decoder r.decoder c.args.spelling.form mark before (characters_in c.args.spelling.copy c.args.text.now)
    (sym c.is_answered.ensures ∙ c.if-is_answered.true) had

pub returns-then-is_err-clause-spelled : goal.returns-then-is_err-clause-spelled
returns-then-is_err-clause-spelled c = λ mark before digits few had.
    let r = c.args.self.now.reading in
    let more = characters_in c.args.spelling.copy c.args.text.now in
    subst (λ x. HasSpelled x c.args.spelling.form mark (before ++ more)) (sym c.decide.ensures)
    (spells_answered r.judge r.most r.room r.answer r.decoder c.args.spelling.form mark before more had)

pub returns-clause-spelled : goal.returns-clause-spelled
returns-clause-spelled c = λ mark before digits few had.
    let room : c.as_mut_slice.result.now ≡ c.args.text.now = search rules in
    subst (λ xs. HasSpelled c.spell_over.new.reading c.args.spelling.form mark (before ++ characters_in c.args.spelling.copy xs)) room
    (c.spell_over.ensures.spelled mark before digits (subst (λ xs. length (before ++ xs) < 2 ^ 63) (sym room) few) had)
