use Rattle.std.proofs.Common.{◌+◌, take, drop, refl, subst, sym, ◌∙◌, arith}
use Rattle.std.proofs.lemmas.List.{length-set}
use Rattle.jser_inputs.specs.Places.{FitsMove}
use Rattle.jser_inputs.specs.Spelled.{Reads}
use Rattle.jser_inputs.proofs.ReadLemmas.{reads_wrong, next_character, goes_on, gives_on, passed_over, written_over}
use Rattle.jser_inputs.proofs.decode.decode_text.Goals as goal

pub characters-preserved-in-Goes : goal.characters-preserved-in-Goes
characters-preserved-in-Goes c =
    let i = c.characters.invariant in
    let run = c.take_run-run in
    let t = run.ensures.turns c.args.start c.args.buf.now c.requires.inside (record { reads = i.reads; left = i.left; size = i.size }) in
    let fits = subst (FitsMove run.result.spot.spare) c.in-Goes.is c.move_of.ensures.fits in
    record {
      reads = goes_on c.args.start run.result.spot c.in-Goes.next c.in-Goes.next c.args.buf.now run.new.buf run.new.buf c.args.count run.result.taken run.result.given
          run.result.given _ (omega (arith, c.if-taken-count.false)) c.requires.inside t.left t.reads (sym c.in-Goes.is ∙ c.move_of.ensures.is) refl refl refl;
      left = passed_over c.args.buf.now run.new.buf run.result.taken t.left;
      few = omega (arith, run.ensures.few.0);
      within = omega (arith, c.if-taken-count.false);
      fits = fits.0;
      room = omega (arith, fits.1, i.room, run.ensures.room);
      size = t.size;
    }

pub characters-preserved : goal.characters-preserved
characters-preserved c =
    let i = c.characters.invariant in
    let run = c.take_run-run in
    let t = run.ensures.turns c.args.start c.args.buf.now c.requires.inside (record { reads = i.reads; left = i.left; size = i.size }) in
    let fits = subst (FitsMove run.result.spot.spare) c.in-Gives.is c.move_of.ensures.fits in
    record {
      reads = gives_on c.args.start run.result.spot c.in-Gives.next c.in-Gives.next c.args.buf.now run.new.buf _ c.args.count run.result.taken run.result.given _ c.in-Gives.byte _
          (omega (arith, c.if-taken-count.false)) c.requires.inside t.left run.ensures.few.0 t.size t.reads (sym c.in-Gives.is ∙ c.move_of.ensures.is) refl refl refl;
      left = written_over c.args.buf.now run.new.buf run.result.given run.result.taken c.in-Gives.byte run.ensures.few.0 t.left;
      few = omega (arith, run.ensures.few.0);
      within = omega (arith, c.if-taken-count.false);
      fits = fits.0;
      room = omega (arith, fits.1, i.room, run.ensures.room);
      size = length-set run.new.buf run.result.given c.in-Gives.byte ∙ t.size;
    }

pub returns-in-Wrong-clause-reads : goal.returns-in-Wrong-clause-reads
returns-in-Wrong-clause-reads c =
    let i = c.characters.invariant in
    let run = c.take_run-run in
    let t = run.ensures.turns c.args.start c.args.buf.now c.requires.inside (record { reads = i.reads; left = i.left; size = i.size }) in
    reads_wrong c.args.start run.result.spot run.result.spot.spare (take c.args.count c.args.buf.now) (drop (run.result.taken + 1) (take c.args.count c.args.buf.now))
    (take run.result.given run.new.buf) _ run.result.taken
    (subst (λ rest. Reads c.args.start run.result.spot (take c.args.count c.args.buf.now) rest (take run.result.given run.new.buf) run.result.taken)
    (next_character c.args.buf.now run.new.buf c.args.count run.result.taken _ (omega (arith, c.if-taken-count.false)) c.requires.inside t.left)
    t.reads)
    (sym c.in-Wrong.is ∙ c.move_of.ensures.is)
