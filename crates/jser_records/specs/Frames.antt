-- Records that are frames: a length in four bytes, highest first, and so many bytes. The greatest length is that of a null.
use Rattle.std.specs.Prelude.{ℕ, ◌≡◌, ◌⊎◌, ◌-◌, ◌^◌, ◌<◌, false, List, [], ◌++◌, length, Option, Some, None}
use Rattle.jser_prim.specs.Bytes.{big_bytes}
use Rattle.jser_scan.specs.declared.Found.TheVariants as found
use Rattle.jser_records.specs.declared.answer.Answer.TheVariants as answer
use Rattle.jser_records.specs.declared.current.Record.{Record}
use Rattle.jser_records.specs.declared.reading.Reading.{Reading}
use Rattle.jser_records.specs.Arriving.{Arriving, IsOver, Took}
use Rattle.jser_records.specs.Held.{HoldsMore, Terms}
use Rattle.jser_records.specs.Readings.{Came, Counts, HasPlain, IsFor, Value, none, plain, text_of, cut_at, unknown, parted, failed}
use Rattle.jser_records.specs.Told.{Entry, HandsOn}

abbrev pub null_length : ℕ
null_length = 2 ^ 32 - 1

-- the input ends in these bytes: in the length of a frame, or in its bytes
pub record IsCutLength (frame : List ℕ) (at total : ℕ) : Type 0 where
  pub some : 0 < at
  pub few : at < 4
  pub size : length frame ≡ at
  pub four : total ≡ 4

pub record IsCutFrame (frame : List ℕ) (at total : ℕ) : Type 0 where
  pub bytes : List ℕ
  pub split : frame ≡ big_bytes 4 total ++ bytes
  pub size : length bytes ≡ at
  pub fewer : at < total
  pub no_null : total < null_length

-- These bytes are the frame of a value, and `rest` is what is behind it.
abbrev pub IsFrame : (frame : List ℕ) → Value → (rest : List ℕ) → Type 0
IsFrame frame none rest = frame ≡ big_bytes 4 null_length
IsFrame frame (plain bytes) rest = (frame ≡ big_bytes 4 (length bytes) ++ bytes) × (length bytes < null_length)
IsFrame frame (text_of form mark text) rest = ⊥
IsFrame frame unknown rest = ⊥
IsFrame frame parted rest = ⊥
IsFrame frame failed rest = ⊥
IsFrame frame (cut_at at total) rest = (IsCutLength frame at total ⊎ IsCutFrame frame at total) × (rest ≡ [])

-- The record of the frame at the front of these bytes: its answer is right of its value, it has no KEY, and the frame is what is
-- handed on of it.
pub record FrameOf (terms : Terms) (bytes : List ℕ) (entry : Entry) (rest : List ℕ) : Type 0 where
  pub frame : List ℕ
  pub value : Value
  pub split : bytes ≡ frame ++ rest
  pub is : IsFrame frame value rest
  pub right : IsFor terms.rules terms.most entry.key.is_lost value entry.answer
  pub held : HandsOn terms entry frame
  pub no_key : entry.key.is_there ≡ false
  pub not_lost : entry.key.is_lost ≡ false

-- ---- as they are read

-- so many bytes were taken, which come behind others
pub record TakesSome (total : ℕ) (before : List ℕ) (from now : Arriving) (old new : Record) (count : ℕ) : Type 0 where
  pub bytes : List ℕ
  pub took : Took from now bytes
  pub size : length bytes ≡ count
  pub counts : Counts new.reading total (before ++ bytes)
  pub held : HoldsMore old new bytes

-- so many of all were taken
pub record TakesOn (count taken : ℕ) (from now : Arriving) (old new : Record) : Type 0 where
  pub bytes : List ℕ
  pub took : Took from now bytes
  pub size : length bytes ≡ taken
  pub counts : Counts new.reading count bytes
  pub held : HoldsMore old new bytes

-- a piece of so many bytes at most, or the input ended
abbrev pub PieceTakes : (total : ℕ) → (before : List ℕ) → (from now : Arriving) → (old new : Record) → Option ℕ → Type 0
PieceTakes total before from now old new (Some size) = TakesSome total before from now old new size
PieceTakes total before from now old new None = TakesSome total before from now old new 0 × IsOver now

-- no byte of a value came so far
pub record Begun (r : Reading) : Type 0 where
  pub plain : HasPlain r []
  pub open_so_far : (r.answer ≡ None) ⊎ (r.answer ≡ Some (answer.Checked found.OutOfMemory))

-- The input ended before all were taken, and that is the answer.
pub record IsCut (count : ℕ) (bytes : List ℕ) (now : Arriving) (r : Reading) : Type 0 where
  pub fewer : length bytes < count
  pub cut : r.answer ≡ Some (answer.Cut (length bytes) count)
  pub over : IsOver now

-- All were taken, or the input ended before.
pub record Takes (count : ℕ) (from now : Arriving) (old new : Record) : Type 0 where
  pub bytes : List ℕ
  pub took : Took from now bytes
  pub whole : ((length bytes ≡ count) × Came new.reading (plain bytes)) ⊎ IsCut count bytes now new.reading
  pub held : HoldsMore old new bytes

-- the value behind a length: of so many bytes, or a null
abbrev pub IsBehind : (count : ℕ) → Value → List ℕ → (now : Arriving) → Type 0
IsBehind count none bytes now = (count ≡ null_length) × (bytes ≡ [])
IsBehind count (plain value) bytes now = (count < null_length) × (value ≡ bytes) × (length bytes ≡ count)
IsBehind count (text_of form mark text) bytes now = ⊥
IsBehind count unknown bytes now = ⊥
IsBehind count parted bytes now = ⊥
IsBehind count failed bytes now = ⊥
IsBehind count (cut_at at total) bytes now = (count < null_length) × (length bytes ≡ at) × (at < count) × (total ≡ count) × IsOver now

pub record TakesValue (count : ℕ) (from now : Arriving) (old new : Record) : Type 0 where
  pub value : Value
  pub bytes : List ℕ
  pub took : Took from now bytes
  pub is : IsBehind count value bytes now
  pub came : Came new.reading value
  pub held : HoldsMore old new bytes
