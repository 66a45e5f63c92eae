use Rattle.std.proofs.Common.{◌∙◌}
use Rattle.jser_line.proofs.WordLemmas.{matched, mistaken}
use Rattle.jser_line.proofs.line.matches_of.Goals as goal

pub returns-clause-mistake : goal.returns-clause-mistake
returns-clause-mistake c =
    mistaken _ c.in-Ok.command c.in-Err.error c.in-Ok.ensures c.in-Err.ensures.passes (λ same. c.in_default-kind.not-OutOfMemory (c.kind.ensures ∙ same))

pub returns-in-Ok-try_get_matches_from-clause-matches : goal.returns-in-Ok-try_get_matches_from-clause-matches
returns-in-Ok-try_get_matches_from-clause-matches c =
    matched _ c.in-Ok.command c.in-Ok-try_get_matches_from.matches c.in-Ok.ensures c.in-Ok-try_get_matches_from.ensures.matches
