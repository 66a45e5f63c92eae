use Rattle.std.proofs.Common.{rules}
use Rattle.jser_index.proofs.KeptLemmas.{units_added}
use Rattle.jser_index.proofs.units.Units.add.Goals as goal

pub returns : goal.returns
returns c =
    record {
      adds =
          units_added c.args.units.now c.args.self.now c.self.inside.room.items c.make_room.new.room.items c.put_behind.new.room.items c.self.inside.used (search rules)
          (search rules) c.in_ok-make_room.ensures.same c.put_behind.ensures;
      unchanged = (search rules);
    }
