use Rattle.std.proofs.Common.{◌≡◌, ◌+◌, ◌++◌, ◌≤◌, length}
use Rattle.jser_anywhere.proofs.letters.push_letters.Given as goal

abbrev pub invariant-loads : goal.invariant-loads
invariant-loads l = length l.fn.kept + length l.fn.bytes ≤ 9217 → l.fn.kept ++ l.fn.bytes ≡ l.kept ++ l.rest

abbrev pub decreases-loads : goal.decreases-loads
decreases-loads l = length l.rest
