use Rattle.std.proofs.Common.{◌≡◌, drop}
use Rattle.jser_filter.specs.Trie.{edge_of, mark_of, walk_along}
use Rattle.jser_filter.specs.Words.{letters}
use Rattle.jser_filter.proofs.trie.Trie.along.Given as goal

-- the units that are left lead on to where all of them lead
abbrev pub invariant-units : goal.invariant-units
invariant-units l =
    walk_along (edge_of l.self) (mark_of l.self) l.walk (letters (drop l.unit-index l.units)) ≡ walk_along (edge_of l.self) (mark_of l.self) l.fn.walk (letters l.units)
