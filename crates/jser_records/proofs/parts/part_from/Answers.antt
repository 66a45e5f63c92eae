use Rattle.std.proofs.Common.{List, ℕ, None, Some, drop, subst}
use Rattle.memchr.specs.Find.{IsFirstByte, is_byte}
use Rattle.jser_records.proofs.FieldLemmas.{first_tab, no_tab, numbered_before, numbered_last}
use Rattle.jser_records.proofs.parts.part_from.Goals as goal

pub returns-in-Some-clause-value : goal.returns-in-Some-clause-value
returns-in-Some-clause-value c = λ number starts.
    let rest : List ℕ = drop c.args.from c.args.line.now in
    let at = c.in-Some.at in
    numbered_before c.args.line.now number _ c.args.from at starts
    (first_tab rest at (subst (λ xs. IsFirstByte (is_byte 0x09) xs (Some at)) c.split_at.ensures.back c.in-Some.ensures)) c.saturating_sub.ensures

pub returns-in-None-clause-value : goal.returns-in-None-clause-value
returns-in-None-clause-value c = λ number starts.
    let rest : List ℕ = drop c.args.from c.args.line.now in
    numbered_last c.args.line.now number _ c.args.from starts
    (no_tab rest (subst (λ xs. IsFirstByte (is_byte 0x09) xs None) c.split_at.ensures.back c.in-None.ensures)) c.saturating_sub-in-None.ensures
