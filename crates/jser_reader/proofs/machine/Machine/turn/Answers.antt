use Rattle.std.proofs.Common.{rules}
use Rattle.jser_reader.proofs.ManyPasses.{turn_settles, turn_holds}
use Rattle.jser_reader.proofs.machine.Machine.turn.Goals as goal

pub end_value-requires : goal.end_value-requires
end_value-requires c = turn_holds c.args.piece.now _ _ _ _ c.value_at.result c.value_at.ensures (search rules)

pub returns-in-Ended : goal.returns-in-Ended
returns-in-Ended c = turn_settles c.args.piece.now _ _ _ _ _ _ c.value_at.result c.end_value.result c.value_at.ensures (search rules) c.end_value.ensures
