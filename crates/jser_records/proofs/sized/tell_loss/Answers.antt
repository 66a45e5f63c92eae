use Rattle.std.proofs.Common.{refl, sym, ap, subst}
use Rattle.jser_records.specs.Keys.{HasNoKey}
use Rattle.jser_records.proofs.HeldLemmas.{keeps_both, keeps_rules}
use Rattle.jser_records.proofs.SizedLemmas.{loss_told}
use Rattle.jser_records.proofs.ToldLemmas.{quiet_changed}
use Rattle.jser_records.proofs.sized.tell_loss.Goals as goal

pub returns : goal.returns
returns g c = λ value loss.
    let was = c.args.clerk.now in
    let last = record c.begin.new.self { reading = c.decide.new.self } in
    loss_told value c.args.answer was (record was { current = last }) c.close.new.self _ _ _ _ _ _ c.close.result loss
    (quiet_changed was last _ _
    (keeps_both was.current c.begin.new.self last c.begin.ensures.keeps
    (keeps_rules c.begin.new.self last (record { rules = ap (λ r. r.judge.rules) c.decide.ensures; most = ap (λ r. r.most) c.decide.ensures }) refl)))
    (ap (λ r. r.answer) c.decide.ensures) (subst (λ r. HasNoKey r.key) (sym c.decide.ensures) c.begin.ensures.key) c.close.ensures.closes
