use Rattle.std.proofs.Common.{◌≡◌, length}
use Rattle.jser_reader.proofs.FeedLemmas.{Feeding}
use Rattle.jser_reader.proofs.reader.Reader.feed_on.Given as goal

abbrev pub invariant-items : goal.invariant-items
invariant-items g l = record {
  gate : l.self.gate ≡ l.fn.self.gate;
  feeding : Feeding g.V.Visit.takes (g.G.Gate.told l.fn.self.gate) l.fn.piece l.rest l.fn.self.machine l.fn.self.tally l.fn.visitor l.self.machine l.self.tally l.visitor;
}

abbrev pub decreases-items : goal.decreases-items
decreases-items g l = length l.rest
