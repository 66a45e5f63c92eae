use Rattle.std.proofs.Common.{arith, rules, subst, sym}
use Rattle.jser_reader.specs.declared.item.Whole.TheVariants as whole
use Rattle.jser_reader.specs.declared.reader.lent.Lent.TheVariants as lent
use Rattle.jser_reader.specs.Passes.{CanPass}
use Rattle.jser_reader.specs.Wholes.{IsPlace}
use Rattle.jser_reader.specs.WholesTold.{LentCases}
use Rattle.jser_reader.proofs.LentLemmas.{reference_tells}
use Rattle.jser_reader.proofs.RuleLemmas.{assigned}
use Rattle.jser_reader.proofs.reader.Reader.lend_reference.Goals as goal

pub returns-clause-tells : goal.returns-clause-tells
returns-clause-tells g c = λ gate is_gate.
    subst (λ r. LentCases gate c.args.piece.now (lent.Value (whole.Reference c.in-Some.n)) r.machine r.tally c.ended_in_line.new.self c.count.new.tally) c.self.view_is
    (reference_tells gate c.in-Some.n c.args.piece.now _ _ _ _ _ is_gate (subst (λ r. CanPass r.machine c.args.piece.now) (sym c.self.view_is) c.requires.can)
    (subst (λ r. IsPlace r.machine.phase) (sym c.self.view_is) c.requires.place) c.requires.tag c.in-Some.ensures (omega arith) (search rules)
    (assigned _ _ c.is_assigned.ensures (search rules)) c.begin_place.ensures c.ended_in_line.ensures.comes c.count.ensures.next)
