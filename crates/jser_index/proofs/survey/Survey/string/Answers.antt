use Rattle.std.proofs.Common.{rules, ◌∙◌, subst}
use Rattle.std.proofs.lemmas.Result.{on_ok_weaker}
use Rattle.jser_index.specs.Surveying.{AddsString}
use Rattle.jser_index.proofs.StringLemmas.{string_made, string_unmade}
use Rattle.jser_index.proofs.survey.Survey.string.Goals as goal
use Rattle.jser_index.proofs.survey.Survey.string.Goals.{then-is_due+in_ok-make_plain, else-is_due}

pub returns : goal.returns
returns c =
    on_ok_weaker c.add_string.result (λ adds.
    elim c.if-is_due.branch [
      | then-is_due+in_ok-make_plain w ↦
          string_made c.args.text.now c.args.assigned c.args.end c.args.self.now c.if-is_due.self c.add_string.new.self (c.is_due.ensures.due w.if-is_due.true)
          (λ told plain. w.self-is ∙ w.in_ok-make_plain.ensures told plain) adds
      | else-is_due w ↦
          string_unmade c.args.text.now c.args.assigned c.args.end c.args.self.now c.add_string.new.self (c.is_due.ensures.made w.if-is_due.false) (search rules)
          (subst (λ x. AddsString c.args.text.now c.args.end x c.add_string.new.self) w.self-is adds)
    ]) c.add_string.ensures
