use Rattle.std.proofs.Common.{◌++◌, ◌∷◌}
use Rattle.std.specs.List.{flat_map}
use Rattle.jser_printer.proofs.SaysLemmas.{says_three}
use Rattle.jser_records.specs.Signs.{sign_words}
use Rattle.jser_records.proofs.sign.write_signs.Goals as goal

pub returns : goal.returns
returns g c =
    says_three _ _ _ _ _ _ _ _ (λ k. 0x22 ∷ k) (λ k. flat_map (sign_words c.args.json) c.args.signs.now ++ k) (λ k. 0x22 ∷ k) c.write.ensures c.write_all.ensures c.write-2.ensures
