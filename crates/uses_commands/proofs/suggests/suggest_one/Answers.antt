use Rattle.std.proofs.Common.{[], ◌∷◌}
use Rattle.jser_suggest.specs.Suggested.{widened}
use Rattle.uses_commands.proofs.SuggestLemmas.{left_nothing, prints_filter, same_kept}
use Rattle.uses_commands.proofs.suggests.suggest_one.Goals as goal

pub returns-in-Ok-clause-admits : goal.returns-in-Ok-clause-admits
returns-in-Ok-clause-admits g c = λ one zero.
    prints_filter c.args.slack c.args.bytes.now c.in-Ok.samples (g.W.Sink.gone_out c.args.output.now) (g.W.Sink.gone_out c.print_suggested.new.output) c.admits_widened.ensures one c.in-Ok.ensures
    (c.print_suggested.ensures.printed (c.args.bytes.now ∷ []) c.in-Ok.ensures zero)

pub returns-in-Ok-clause-nothing : goal.returns-in-Ok-clause-nothing
returns-in-Ok-clause-nothing g c = λ three good.
    left_nothing (widened c.args.slack c.in-Ok.samples) _ _ _ (c.print_suggested.ensures.failed (c.args.bytes.now ∷ []) c.in-Ok.ensures three) good

pub returns-in-Err-clause-nothing : goal.returns-in-Err-clause-nothing
returns-in-Err-clause-nothing g c = λ three good. same_kept _
