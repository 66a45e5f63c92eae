use Rattle.std.proofs.Common.{cond, eqb, get_or, replicate, sym, subst, w8}
use Rattle.std.proofs.lemmas.Simd.{length-chunk, tops_compared}
use Rattle.std.specs.Simd.Lanes.{sel_l}
use lib.Lanes.{chunk}
use Rattle.memchr.proofs.lemmas.LaneLemmas.{HasLanes-select}
use Rattle.memchr.specs.Lanes.{HasLanes}
use Rattle.jser_find.proofs.MarkLemmas.{load_test}
use Rattle.jser_find.proofs.lanes.are.Goals as goal

pub returns : goal.returns
returns c =
    let v = chunk c.args.at 32 c.args.bytes.now in
    let b = c.args.byte in
    load_test c.args.bytes.now c.args.at b _ c.requires
    (subst (λ ms. HasLanes (sel_l ms (replicate 32 255) (replicate 32 0)) (λ k. cond (eqb (get_or v k 0) b) 255 0))
    (sym (tops_compared w8 eqb v (replicate 32 b))) (HasLanes-select eqb v b 255 0 (length-chunk c.args.at 32 c.args.bytes.now c.requires)))
