use Rattle.std.proofs.Common.{take}
use Rattle.jser_filter.specs.Words.{letters}
use Rattle.jser_filter.proofs.WordLemmas.{HasGone}
use Rattle.jser_filter.proofs.words.extend_along.Given as goal

abbrev pub invariant-units : goal.invariant-units
invariant-units l = HasGone l.fn.trie l.trie l.fn.node (letters (take l.unit-index l.units)) l.at
