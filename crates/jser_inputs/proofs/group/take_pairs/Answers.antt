use Rattle.std.proofs.Common.{◌∙◌, arith}
use Rattle.std.proofs.lemmas.List.{length-set}
use Rattle.jser_inputs.proofs.RunLemmas.{pair_step}
use Rattle.jser_inputs.proofs.group.take_pairs.Goals as goal

pub pairs-preserved : goal.pairs-preserved
pairs-preserved c =
    let i = c.pairs.invariant in
    let bits = c.pair_bits-bits.result in
    record {
      turns = pair_step c.args.from.spot c.args.buf.now c.pairs.buf c.args.count c.args.from.taken c.args.from.given c.pairs.taken c.pairs.given bits i.few i.more
          (omega (arith, c.pairs-test.true)) (c.pair_bits-bits.ensures (omega (arith, c.if-bits-ge-NO_PAIR.false))) i.turns;
      few = omega (arith, i.few);
      within = omega (arith, c.pairs-test.true);
      ahead = omega (arith, i.ahead);
      more = omega (arith, i.more);
      slow = omega (arith, i.slow);
      size = length-set c.pairs.buf c.pairs.given bits ∙ i.size;
    }
