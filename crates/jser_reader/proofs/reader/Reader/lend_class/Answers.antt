use Rattle.std.proofs.Common.{get_or, arith, rules, subst, sym}
use Rattle.jser_reader.specs.Passes.{CanPass}
use Rattle.jser_reader.specs.Tallies.{CountsNext}
use Rattle.jser_reader.specs.Wholes.{IsPlace, HasPlace}
use Rattle.jser_reader.specs.WholesTold.{OwnerCases}
use Rattle.jser_reader.proofs.LentLemmas.{owner_told}
use Rattle.jser_reader.proofs.reader.Reader.lend_class.Goals as goal

pub returns-clause-tells : goal.returns-clause-tells
returns-clause-tells g c = λ gate is_gate.
    subst (λ r. OwnerCases gate c.args.piece.now (get_or c.args.piece.now 0 0) c.args.n c.class_handle.result r.machine r.tally c.class_handle.new.self c.count.new.tally) c.self.view_is
    (owner_told gate c.args.owner c.args.n _ c.args.piece.now _ _ _ _ _ is_gate (subst (λ r. CanPass r.machine c.args.piece.now) (sym c.self.view_is) c.requires.can)
    (subst (λ r. IsPlace r.machine.phase) (sym c.self.view_is) c.requires.place) c.requires.tag c.requires.class (omega (arith, c.ranges.n.fits))
    (subst (λ r. HasPlace r.machine) (sym c.self.view_is) c.requires.room) (search rules) c.class_handle.ensures
    (subst (λ b. CountsNext c.self.inside.machine b c.self.inside.tally c.count.new.tally) (sym c.requires.tag) c.count.ensures.next))
