use Rattle.std.proofs.Common.{ℕ, leb, cond, refl, sym, arith}
use Rattle.std.proofs.lemmas.Bool.{cond-true}
use Rattle.std.proofs.lemmas.Simd.{length-chunk, splat_is_map, zip2_of_maps, zip2_splat}
use lib.Lanes.{chunk}
use Rattle.jser_prim.proofs.LaneLemmas.{run_is_ascii}
use Rattle.jser_prim.proofs.lanes.is_ascii_block.Goals as goal

pub returns : goal.returns
returns c = λ none.
    let v = chunk c.args.at 64 c.args.bytes.now in
    let long = length-chunk c.args.at 64 c.args.bytes.now c.requires in
    run_is_ascii c.args.bytes.now c.args.at 64 64 _ c.requires (omega arith) c.type_inv.bytes (sym (cond-true _ _ _ none)) _
    (zip2_of_maps (λ a b. cond (leb a b) 255 0) _ _ v (splat_is_map v 64 127 long) (zip2_splat {Y = ℕ} _ v 64 1 long)) refl
