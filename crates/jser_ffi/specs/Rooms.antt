-- A text in a room that C brings: all of it, or its first bytes.
use Rattle.std.specs.Prelude.{ℕ, ◌≡◌, ◌⊎◌, ◌<◌, ◌≤◌, min, Bool, true, false, List, ◌++◌, length, take, drop}
use Rattle.jser_ffi.specs.declared.answer.Answer.{Answer}

-- The room begins with the text, and what is behind it is as it was; or the text is longer than the room, and its first bytes
-- fill it.
abbrev pub Holds : (whole : Bool) → (text old new : List ℕ) → Type 0
Holds true text old new = new ≡ text ++ drop (length text) old
Holds false text old new = (length old < length text) × (length new ≡ length old) × (new ≡ take (length old) text)

-- the text is in the room, or its first bytes fill it; the answer has its length
pub record Puts (text old new : List ℕ) (answer : Answer) : Type 0 where
  pub length_is : answer.bytes ≡ length text
  pub whole : answer.status ≡ 0 → Holds true text old new
  pub front : answer.status ≡ 6 → Holds false text old new
  pub known : (answer.status ≡ 0) ⊎ (answer.status ≡ 6)

-- The text has more bytes than are made of it, and the room begins with the first of these, as many as it has.
pub record PutsFront (most : ℕ) (text old new : List ℕ) : Type 0 where
  pub over : most < length text
  pub front : new ≡ take (min most (length old)) text ++ drop (min most (length old)) old

-- Of a text of at most so many bytes that, with its length; of a longer one its first bytes, with no length.
pub record PutsUpTo (most : ℕ) (text old new : List ℕ) (answer : Answer) : Type 0 where
  pub within : length text ≤ most → Puts text old new answer
  pub beyond : most < length text → (answer.status ≡ 6) × (answer.bytes ≡ 0) × PutsFront most text old new
