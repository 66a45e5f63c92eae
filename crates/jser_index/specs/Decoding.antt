-- Reading the units of a text, all bytes at once where each is a unit.
use Rattle.std.specs.Prelude.{ℕ, ◌≡◌, ◌+◌, ◌<◌, ◌≤◌, Bool, true, List, length, slice_index, take, drop}

-- the bytes stand as units at the front of the room, and each of them is below 0x80
pub record AreNarrow (bytes room : List ℕ) : Type 0 where
  pub units : take (length bytes) room ≡ bytes
  pub narrow : (k : ℕ) → k < length bytes → slice_index bytes k < 0x80

-- so many bytes from this place on stand as units at the same place of the room, and the others are as they were; where
-- they are narrow, each of them is below 0x80
pub record Widens (lanes : ℕ) (bytes : List ℕ) (at : ℕ) (narrow : Bool) (old new : List ℕ) : Type 0 where
  pub size : length new ≡ length old
  pub before : (k : ℕ) → k < at → slice_index new k ≡ slice_index old k
  pub units : (k : ℕ) → at ≤ k → k < at + lanes → slice_index new k ≡ slice_index bytes k
  pub below : narrow ≡ true → (k : ℕ) → at ≤ k → k < at + lanes → slice_index bytes k < 0x80

-- the first of these bytes stand as units at the front of the room, and each of them is below 0x80
pub record Widened (bytes room : List ℕ) (count : ℕ) : Type 0 where
  pub units : (k : ℕ) → k < count → slice_index room k ≡ slice_index bytes k
  pub below : (k : ℕ) → k < count → slice_index bytes k < 0x80

-- what is used of the room is as it was; and where the bytes are narrow, they stand as units behind it
pub record PutsNarrow (bytes : List ℕ) (used : ℕ) (narrow : Bool) (old new : List ℕ) : Type 0 where
  pub size : length new ≡ length old
  pub front : take used new ≡ take used old
  pub back : narrow ≡ true → AreNarrow bytes (drop used new)
