use Rattle.std.proofs.Common.{◌≡◌, length, arith}
use Rattle.jser_table.proofs.NameLemmas.{long_values}
use Rattle.jser_table.proofs.name.array_kind.Goals as goal

pub returns-in_default : goal.returns-in_default
returns-in_default c =
    let long : length c.args.units.now ≡ 1 → ⊥ = λ one. omega (arith, c.in-len2-up.len_at_least) in
    long_values _ _ long c.array_element.ensures c.in_default.not-Malformed
