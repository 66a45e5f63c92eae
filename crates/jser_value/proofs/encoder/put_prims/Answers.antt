use Rattle.std.proofs.lemmas.List.{get_or_default}
use Rattle.jser_grammar.specs.Spelling.{prim_spelling}
use Rattle.jser_value.specs.View.{view_prim}
use Rattle.jser_value.proofs.EncodeLemmas.{puts_next, puts_all, prims_flat}
use Rattle.jser_value.proofs.encoder.put_prims.Goals as goal

pub loop-prim-preserved : goal.loop-prim-preserved
loop-prim-preserved g c =
    puts_next (λ prim. prim_spelling (view_prim prim)) _ _ _ _ _ _ c.args.prims.now c.loop-prim.prim-index _ c.loop-prim-test.true (get_or_default c.args.prims.now c.loop-prim.prim-index _ _ c.loop-prim-test.true) c.loop-prim.invariant c.put_prim.ensures

pub returns : goal.returns
returns g c =
    puts_all (λ prim. prim_spelling (view_prim prim)) _ _ _ _ c.args.prims.now c.loop-prim.prim-index _ c.loop-prim-test.false (prims_flat c.args.prims.now) c.loop-prim.invariant
