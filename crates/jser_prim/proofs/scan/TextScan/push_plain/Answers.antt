use Rattle.std.proofs.Common.{◌≤◌, length, subst, sym}
use Rattle.jser_prim.specs.Texts.{HasAccepted}
use Rattle.jser_prim.proofs.PushLemmas.{pushes_plain}
use Rattle.jser_prim.proofs.scan.TextScan.push_plain.Goals as goal

pub returns-clause-units : goal.returns-clause-units
returns-clause-units c = λ plain len before units accepted.
    let held = subst (HasAccepted len before units) (sym c.self.view_is) accepted in
    let room = subst (λ scan. length c.args.bytes.now ≤ scan.left) (sym c.self.view_is) c.requires in
    pushes_plain c.self.inside.left c.ascii_len.result c.self.inside.place c.args.bytes.now c.in-First.is room c.if-ascii_len-bytes.false c.ascii_len.ensures.ascii
    len before units held
