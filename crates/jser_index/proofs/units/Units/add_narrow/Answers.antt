use Rattle.std.proofs.Common.{rules}
use Rattle.jser_index.proofs.KeptLemmas.{narrow_added}
use Rattle.jser_index.proofs.units.Units.add_narrow.Goals as goal

pub returns : goal.returns
returns c =
    record {
      adds = narrow_added c.args.bytes.now c.args.self.now c.self.inside.room.items c.make_room.new.room.items c.widen_behind.new.room.items c.self.inside.used
          c.widen_behind.result (search rules) (search rules) c.in_ok-make_room.ensures.same c.widen_behind.ensures (search rules);
    }
