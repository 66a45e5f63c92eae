use Rattle.std.proofs.Common.{◌≡◌, ◌≤◌, ◌+◌, ◌-◌, ℕ, List, [], vec_len}
use Rattle.jser_grammar.specs.Caps.{most_bytes}
use Rattle.jser_check.specs.Sources.{IsRoom}
use Rattle.jser_check.specs.Reads.{Came}
use Rattle.jser_check.specs.Pieces.{asked_by}
use Rattle.jser_check.proofs.reader.read_whole.Given as goal

-- what was read came off the source and was taken, and no read has failed
abbrev pub invariant-reads : goal.invariant-reads
invariant-reads g l = record {
  came : Came l.check [] (g.R.Source.to_come l.fn.source) (g.R.Source.to_come l.source) l.taken;
  short : l.taken ≤ most_bytes;
  asks : asked_by l.check ≡ asked_by l.fn.check;
  room : IsRoom (vec_len l.buffer);
  failed : g.R.Source.has_failed l.source ≡ g.R.Source.has_failed l.fn.source;
  remembers : (all : List ℕ) → g.R.Source.remembers l.fn.source all → g.R.Source.remembers l.source all;
}

abbrev pub decreases-reads : goal.decreases-reads
decreases-reads g l = most_bytes + 1 - l.taken
