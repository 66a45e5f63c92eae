use Rattle.std.proofs.Common.{◌∙◌, drop, ap, subst, refl, arith}
use Rattle.std.proofs.lemmas.List.{drop-drop}
use Rattle.jser_reader.specs.Passes.{CanPass}
use Rattle.jser_reader.proofs.PassLemmas.{pass_none, then_passes}
use Rattle.jser_reader.proofs.machine.Machine.pass_members.Goals as goal

pub members-init : goal.members-init
members-init c = record {
  within = omega arith;
  can = c.requires.can;
  nothing = λ none. refl;
  passes = λ gate tally. pass_none gate c.args.piece.now c.args.self.now tally;
}

pub members-preserved : goal.members-preserved
members-preserved c =
    let piece = c.args.piece.now in
    let used = c.members.used in
    let more = c.in-Some.more in
    let some = c.in-Some.ensures.some in
    let le = c.in-Some.ensures.within in
    let left = c.split_at.ensures.back_len in
    let within = c.members.invariant.within in
    record {
      within = omega arith;
      can = subst (CanPass _) (ap (drop more) c.split_at.ensures.back ∙ drop-drop more used piece) c.in-Some.ensures.can;
      nothing = λ none. absurd (omega arith);
      passes = λ gate tally.
          then_passes gate piece _ used more _ _ _ tally tally tally (c.members.invariant.passes gate tally) (c.in-Some.ensures.passes gate tally) c.split_at.ensures.back;
    }
