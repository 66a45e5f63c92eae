use Rattle.std.proofs.Common.{◌≤◌, length, subst, arith, rules}
use Rattle.std.proofs.lemmas.Bool.Decides.{nat_tests}
use Rattle.jser_reader.specs.Passes.{CanPass}
use Rattle.jser_reader.proofs.ReaderLemmas.{all_bytes}
use Rattle.jser_reader.proofs.PassLemmas.{can_pass}
use Rattle.jser_reader.proofs.machine.Machine.has_room.Goals as goal

pub returns : goal.returns
returns c = λ room.
    let le : length c.args.piece.now ≤ c.saturating_sub.result = grind (arith, nat_tests) in
    let is = c.saturating_sub.ensures in
    subst (λ r. CanPass r c.args.piece.now) c.self.view_is
    (can_pass c.args.piece.now _ (omega arith) (search rules) (all_bytes c.args.piece.now (λ k. omega (arith, c.type_inv.piece k))))
