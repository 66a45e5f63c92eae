use Rattle.std.proofs.Common.{◌+◌, ◌/◌, ◌%◌, ◌∙◌, arith, set}
use Rattle.std.proofs.lemmas.List.{length-set}
use Rattle.jser_inputs.proofs.BitStepLemmas.{bits_step}
use Rattle.jser_inputs.proofs.group.take_groups.Goals as goal

pub groups-preserved : goal.groups-preserved
groups-preserved c =
    let i = c.groups.invariant in
    let bits = c.group_bits-bits.result in
    let buf1 = set c.groups.buf c.groups.given (bits / 65536) in
    let buf2 = set buf1 (c.groups.given + 1) (bits / 256 % 256) in
    record {
      turns = bits_step c.args.alphabet c.args.from.spot c.args.buf.now c.groups.buf c.args.count c.args.from.taken c.args.from.given c.groups.taken c.groups.given
          bits i.few i.more (omega (arith, c.groups-test.true)) (c.group_bits-bits.ensures (omega (arith, c.if-bits-ge-NO_GROUP.false))) i.turns;
      few = omega (arith, i.few);
      within = omega (arith, c.groups-test.true);
      ahead = omega (arith, i.ahead);
      more = omega (arith, i.more);
      slow = omega (arith, i.slow);
      size = length-set buf2 (c.groups.given + 2) (bits % 256) ∙ length-set buf1 (c.groups.given + 1) (bits / 256 % 256)
          ∙ length-set c.groups.buf c.groups.given (bits / 65536) ∙ i.size;
    }
