use Rattle.std.proofs.Common.{rules, ◌≡◌, ◌++◌, length, ap, refl, ◌∙◌, arith, length-append}
use Rattle.jser_records.proofs.key.Key.add.Goals as goal

pub returns-clause-added : goal.returns-clause-added
returns-clause-added c = λ is.
    let old = c.args.self.now.bytes.items in
    let more = c.args.bytes.now in
    let both : c.extend_from_slice.new.self.items ≡ old ++ more = search rules in
    let size = ap length both ∙ length-append old more in
    let room = c.saturating_sub-room.ensures in
    let fits = c.if-bytes-room.false in
    let had = c.len.ensures in
    record { kept = c.if-self.false; both = both; few = λ short. omega (arith, size, room, fits, had, short); there = refl; on = c.if-self.false }
