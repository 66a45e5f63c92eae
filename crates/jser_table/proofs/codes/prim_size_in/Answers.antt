use Rattle.std.proofs.Common.{◌∙◌, sym}
use Rattle.jser_table.proofs.CodeLemmas.{after_prim}
use Rattle.jser_table.proofs.codes.prim_size_in.Goals as goal

pub loop-code-preserved : goal.loop-code-preserved
loop-code-preserved c =
    let after = after_prim c.args.codes.now c.loop-code.code-index c.in-Some.size c.loop-code.left c.loop-code-test.true (sym c.size_of_code.ensures ∙ c.in-Some.is) c.if-left-eq0.false in
    record {
      there = after.there ∙ c.loop-code.invariant.there;
      inside = after.inside c.loop-code.invariant.inside;
    }
