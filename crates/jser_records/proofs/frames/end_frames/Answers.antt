use Rattle.std.proofs.Common.{rules, ◌≡◌, ◌≤◌, ◌<◌, length, Some, refl, sym, ap, subst, arith}
use Rattle.std.proofs.lemmas.List.{take_all}
use Rattle.jser_records.specs.declared.answer.Answer.TheVariants as answer
use Rattle.jser_records.specs.Arriving.{IsOver, Took}
use Rattle.jser_records.specs.Keys.{HasNoKey}
use Rattle.jser_records.proofs.HeldLemmas.{keeps_both, keeps_rules}
use Rattle.jser_records.proofs.FrameLemmas.{length_cut}
use Rattle.jser_records.proofs.RoomLemmas.{all_passed, took_first}
use Rattle.jser_records.proofs.ToldLemmas.{quiet_changed}
use Rattle.jser_records.proofs.frames.end_frames.Goals as goal

pub returns-clause-frames : goal.returns-clause-frames
returns-clause-frames g c =
    let from = c.args.inbox.now in
    let at = length from.waiting in
    let last = record c.args.clerk.now { current = record c.begin.new.self { reading = c.decide.new.self } } in
    let size : length c.waiting-at.result.now ≡ at = search rules in
    let cut : c.decide.new.self.answer ≡ Some (answer.Cut at 4) = search rules in
    let some : 0 < at = search rules in
    let all : at ≤ length c.waiting-at.result.now = omega (arith, size) in
    let over : IsOver c.pass.new.self = all_passed from c.pass.new.self _ c.pass.ensures all c.requires.ends in
    length_cut c.args.clerk.now last c.close.new.self from c.pass.new.self _ _ _ _ _ _ c.close.result at
    (quiet_changed c.args.clerk.now last.current _ _
    (keeps_both c.args.clerk.now.current c.begin.new.self last.current c.begin.ensures.keeps
    (keeps_rules c.begin.new.self last.current (record { rules = ap (λ r. r.judge.rules) c.decide.ensures; most = ap (λ r. r.most) c.decide.ensures }) refl)))
    (subst (λ r. HasNoKey r.key) (sym c.decide.ensures) c.begin.ensures.key) cut
    (subst (λ xs. Took from c.pass.new.self xs) (take_all _ from.waiting all) (took_first from c.pass.new.self _ c.pass.ensures)) over refl some c.requires.few c.close.ensures.closes
