use Rattle.std.proofs.Common.{subst, sym}
use Rattle.jser_reader.specs.Passes.{Passes, CanPass, bytes_passed}
use Rattle.jser_reader.specs.Takes.{IsOne}
use Rattle.jser_reader.proofs.PassLemmas.{tag_ends, tag_stops}
use Rattle.jser_reader.proofs.reader.Reader.pass_tag.Goals.{in-On, in-Stopped}
use Rattle.jser_reader.proofs.reader.Reader.pass_tag.Goals as goal

pub returns-clause-passes : goal.returns-clause-passes
returns-clause-passes g c = λ gate is_gate.
    let one : IsOne c.self.inside.machine.phase = subst (λ r. IsOne r.machine.phase) (sym c.self.view_is) c.requires.one in
    let can : CanPass c.self.inside.machine c.args.piece.now = subst (λ r. CanPass r.machine c.args.piece.now) (sym c.self.view_is) c.requires.can in
    subst (λ r. Passes gate c.args.piece.now (bytes_passed c.match-end_one.result) r.machine r.tally c.end_one.new.self c.count.new.tally) c.self.view_is
    (elim c.match-end_one.branch [
      | in-On w ↦
          subst (λ p. Passes gate c.args.piece.now (bytes_passed p) c.self.inside.machine c.self.inside.tally c.end_one.new.self c.count.new.tally) (sym w.result-is)
          (tag_ends gate c.end_one.result c.args.piece.now _ _ _ _ c.end_one.ensures w.in-On.is one c.requires.some c.count.ensures.next is_gate can)
      | in-Stopped w ↦
          subst (λ p. Passes gate c.args.piece.now (bytes_passed p) c.self.inside.machine c.self.inside.tally c.end_one.new.self c.count.new.tally) (sym w.result-is)
          (tag_stops gate c.end_one.result c.args.piece.now _ _ _ _ c.end_one.ensures w.in-Stopped.is one c.requires.some c.count.ensures.begun can)
    ])
