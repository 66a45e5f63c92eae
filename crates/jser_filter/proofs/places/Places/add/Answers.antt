use Rattle.std.proofs.Common.{◌≡◌, rules}
use Rattle.jser_filter.proofs.PlaceLemmas.{put_first}
use Rattle.jser_filter.proofs.places.Places.add.Goals as goal

pub returns-in_ok-insert-in-None : goal.returns-in_ok-insert-in-None
returns-in_ok-insert-in-None c =
    let same : c.in_ok-key-in-None.key.items ≡ c.args.name.now = search rules in
    record { ok = put_first c.args.self.now.map c.insert.new.self c.in_ok-key-in-None.key c.args.name.now c.args.place c.in_ok-insert-in-None.ensures.updates same c.in-None.ensures; err = tt }
