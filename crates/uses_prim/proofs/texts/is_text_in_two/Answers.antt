use Rattle.std.proofs.Common.{[], subst, false}
use Rattle.std.specs.Prelude.{IsTrue}
use Rattle.jser_prim.proofs.TextLemmas.{begins_front}
use Rattle.uses_prim.proofs.Scans.{ok_if, on_ok}
use Rattle.uses_prim.proofs.texts.is_text_in_two.Goals as goal

pub returns-then-is_ok : goal.returns-then-is_ok
returns-then-is_ok c =
    let after = on_ok c.push_all.result _ c.if-is_ok.ensures.value (c.push_all.ensures.units _ [] [] c.new-scan.ensures.accepted) in
    ok_if c.push_all-then-is_ok.result c.is_ok-then-is_ok.result _ c.is_ok-then-is_ok.ensures.value
    (c.push_all-then-is_ok.ensures.accepts _ _ _ after.accepted)

pub returns-else-is_ok : goal.returns-else-is_ok
returns-else-is_ok c =
    let first = ok_if c.push_all.result c.is_ok.result _ c.is_ok.ensures.value (c.push_all.ensures.accepts _ [] [] c.new-scan.ensures.accepted) in
    (λ told. let refused : IsTrue false = subst IsTrue c.if-is_ok.false told in absurd (cc), λ begins. first.1 (begins_front _ c.args.first.now c.args.second.now begins))
