use Rattle.jser_names.proofs.PieceLemmas.{fed_stops}
use Rattle.jser_names.proofs.found.NamingTaker.take.Goals as goal

pub returns-in-Err-Reader : goal.returns-in-Err-Reader
returns-in-Err-Reader c = λ taken st.
    fed_stops c.in-Err-Reader.field-0 taken c.args.piece.now c.in-Err-Reader.stop _ _ _ c.feed.new.self.machine c.feed.new.self.tally c.feed.new.visitor
    c.in-Err-Reader.field-0-is c.in-Err-Reader.ensures.tells st
