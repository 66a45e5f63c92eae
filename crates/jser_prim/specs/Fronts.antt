-- The first bytes of a text, and those that are whole lines.
use Rattle.std.specs.Prelude.{ℕ, ◌≡◌, ◌<◌, ◌≤◌, ◌-◌, ◌⊎◌, Bool, List, length, slice_get, Some}

-- as contracts see a sink that keeps the first bytes
pub record Kept : Type 0 where
  pub bytes : List ℕ
  pub has_failed : Bool

-- the first `count` bytes of a text are whole lines: there are none, or the last of them is a line feed
abbrev pub AreLines : (text : List ℕ) → (count : ℕ) → Type 0
AreLines text count = (count ≡ 0) ⊎ (slice_get text (count - 1) ≡ Some 0x0A)

-- The text has more bytes than the limit allows, and the most of its lines that it does allow have `count` bytes.
pub record CutAt (limit count : ℕ) (text : List ℕ) : Type 0 where
  pub over : limit < length text
  pub within : count ≤ limit
  pub lines : AreLines text count
  pub longest : (more : ℕ) → more ≤ limit → AreLines text more → more ≤ count
