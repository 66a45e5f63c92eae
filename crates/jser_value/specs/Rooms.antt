-- What is left of a number of levels, or of bytes, for a part of a tree.
use Rattle.std.specs.Prelude.{ℕ, suc, ◌≡◌, ◌+◌, ◌<◌, ◌≤◌, Bool, true, false, List, length, Option, Some, None}
use Rattle.jser_grammar.specs.TableAfter.{Entries}
use Rattle.jser_grammar.specs.Caps.{most_tree_bytes}

-- a part so deep fits into `room` levels, or it does not
abbrev pub FitsRoom : ℕ → ℕ → Bool → Type 0
FitsRoom depth room true = depth ≤ room
FitsRoom depth room false = room < depth

-- Of `room` bytes so many are left behind `taken` bytes, or they have no room.
abbrev pub Leaves : ℕ → ℕ → Option ℕ → Type 0
Leaves room taken (Some left) = taken + left ≡ room
Leaves room taken None = room < taken

-- That a table of handles has room for a part of a tree: each handle has a byte of its own, and a list has at most
-- 2^31 - 1 bytes.

-- each of the bytes could be a handle's
abbrev pub HasRoom : Entries → List ℕ → Type 0
HasRoom T bytes = length T + length bytes ≤ most_tree_bytes

-- and one more handle
abbrev pub HasRoomForOneMore : Entries → List ℕ → Type 0
HasRoomForOneMore T bytes = length T + length bytes < most_tree_bytes

-- Of the bytes those before `rest` were gone through, and no more handles added than that.
abbrev pub Spends : Entries → List ℕ → Entries → List ℕ → Type 0
Spends T bytes U rest = length U + length rest ≤ length T + length bytes

-- and one more handle
abbrev pub SpendsOneMore : Entries → List ℕ → Entries → List ℕ → Type 0
SpendsOneMore T bytes U rest = length U + length rest ≤ suc (length T + length bytes)
