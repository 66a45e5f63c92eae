use Rattle.std.proofs.Common.{refl, sym, ap, ◌∙◌}
use Rattle.jser_records.specs.Held.{may_pass}
use Rattle.jser_records.proofs.HeldLemmas.{holds_on}
use Rattle.jser_records.proofs.lines.take_value_front.Goals as goal

pub returns-clause-held : goal.returns-clause-held
returns-clause-held c = λ raw had.
    let was = c.args.current.now in
    c.spell.ensures.held raw
    (holds_on was (record was { reading = c.skip.new.self }) refl refl (λ may. sym (ap (λ r. may_pass r.answer) c.skip.ensures.rest) ∙ may) raw had)
