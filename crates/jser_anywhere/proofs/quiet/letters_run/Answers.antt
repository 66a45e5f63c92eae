use Rattle.std.proofs.Common.{ℕ, leb, cond, refl, arith}
use Rattle.std.proofs.lemmas.Simd.{length-chunk, splat_is_map, zip2_of_maps, zip2_splat}
use lib.Lanes.{chunk}
use Rattle.jser_anywhere.proofs.ReadLemmas.{letters_within, run_of_letters}
use Rattle.jser_anywhere.proofs.quiet.letters_run.Goals as goal

pub returns-clause-within : goal.returns-clause-within
returns-clause-within c =
    let v = chunk c.args.at 16 c.args.piece.now in
    let long = length-chunk c.args.at 16 c.args.piece.now c.requires in
    letters_within c.args.piece.now c.args.at _ _ c.requires c.type_inv.piece c.first_set.ensures _
    (zip2_of_maps (λ a b. cond (leb a b) 255 0) _ _ v (splat_is_map v 16 92 long) (zip2_splat {Y = ℕ} _ v 16 36 long))

pub returns-clause-text : goal.returns-clause-text
returns-clause-text c =
    let v = chunk c.args.at 16 c.args.piece.now in
    let long = length-chunk c.args.at 16 c.args.piece.now c.requires in
    run_of_letters c.args.piece.now c.args.at _ _ c.requires c.type_inv.piece c.first_set.ensures _
    (zip2_of_maps (λ a b. cond (leb a b) 255 0) _ _ v (splat_is_map v 16 92 long) (zip2_splat {Y = ℕ} _ v 16 36 long)) refl
