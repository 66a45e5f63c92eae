use Rattle.std.proofs.Common.{rules, ◌≡◌, length}
use Rattle.jser_records.specs.Arriving.{room_size}
use Rattle.jser_records.proofs.RoomLemmas.{room_empty}
use Rattle.jser_records.proofs.inbox.Inbox.new.Goals as goal

pub invariant_of-result : goal.invariant_of-result
invariant_of-result g c =
    let size : length c.in_ok-room.room.items ≡ room_size = search rules in
    room_empty (g.R.Source.to_come c.args.source.now) c.in_ok-room.room.items c.args.sought size
