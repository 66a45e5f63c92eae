-- What the functions that take bytes do: the bytes are counted, and the token that they end is judged.
use Rattle.std.specs.Prelude.{◌≡◌, ℕ, ◌+◌, ◌<◌, ◌≤◌, false, List, [], ◌∷◌, ◌++◌, length, take}
use Rattle.jser_prim.specs.Bytes.{big_bytes}
use Rattle.jser_verdict.specs.BytesSoFar.{differs}
use Rattle.jser_verdict.specs.Gates.{Gate}
use Rattle.jser_reader.specs.declared.machine.flow.Flow.{Flow}
use Rattle.jser_reader.specs.declared.machine.flow.Flow.TheVariants as flow
use Rattle.jser_reader.specs.declared.machine.take.taken.Taken.{Taken}
use Rattle.jser_reader.specs.declared.machine.take.taken.Taken.TheVariants as taken
use Rattle.jser_reader.specs.declared.phase.Phase.{Phase}
use Rattle.jser_reader.specs.declared.phase.Phase.TheVariants as phase
use Rattle.jser_reader.specs.Readers.{Meter, Seen}
use Rattle.jser_reader.specs.Steps.{after_value}
use Rattle.jser_reader.specs.Handlers.{Comes}
use Rattle.jser_reader.specs.Walks.{size_of_phase, header_bytes, Takes, Keeps, Counts, open_phase, cut_of}

-- so many bytes more were counted
abbrev pub counted_on : Meter → ℕ → Meter
counted_on m k = record { at = m.at + k; from = m.from; limits = m.limits; stop = m.stop; cut_phase = m.cut_phase; kept = m.kept }

abbrev pub farther : Seen → ℕ → Seen
farther r k = record { meter = counted_on r.meter k; phase = r.phase; frames = r.frames; layers = r.layers; table = r.table; refs = r.refs; owner = r.owner; elements = r.elements; header = r.header; text = r.text; left = r.left; scan = r.scan; name = r.name }

-- this byte ends the open token, or the machine stops at it
unfoldable pub TakesByte : ℕ → Flow → Seen → Seen → Type 0
TakesByte byte result old new = (gate : Gate) → Takes gate (byte ∷ []) result old new

-- a token of one byte
abbrev pub IsOne : Phase → Type 0
IsOne phase.Top = Unit {0}
IsOne phase.Note = Unit {0}
IsOne phase.Value = Unit {0}
IsOne phase.ClassTag = Unit {0}
IsOne phase.SuperTag = Unit {0}
IsOne phase.TextTag = Unit {0}
IsOne phase.Flags = Unit {0}
IsOne phase.TypeCode = Unit {0}
IsOne phase.BlockLength1 = Unit {0}
IsOne _ = ⊥

-- The last bytes of the number `n` of `size` bytes, so many, end the open token, or the machine stops at them: as one
-- gate judges it, and as any does.
unfoldable pub TakesNumberFor : Gate → (size n count : ℕ) → Flow → Seen → Seen → Type 0
TakesNumberFor gate size n count result old new =
    (taken : List ℕ) → length taken ≡ count → big_bytes size n ≡ cut_of old ++ taken → Takes gate taken result old new

unfoldable pub TakesNumber : (size n count : ℕ) → Flow → Seen → Seen → Type 0
TakesNumber size n count result old new = (gate : Gate) → TakesNumberFor gate size n count result old new

-- these bytes of the open token were kept, which is cut after them
pub record CutsOff (piece : List ℕ) (old new : Seen) : Type 0 where
  pub phase_is : new.phase ≡ phase.Cut
  pub cut_phase : new.meter.cut_phase ≡ open_phase old
  pub kept : new.meter.kept ≡ cut_of old ++ piece
  pub counts : Counts piece old new

-- where the length of a text is open, these are its bytes, and no more
abbrev pub IsWholeLength : Phase → (bytes : List ℕ) → Type 0
IsWholeLength phase.Length2 bytes = length bytes ≡ 2
IsWholeLength phase.Length8 bytes = length bytes ≡ 8
IsWholeLength _ bytes = Unit {0}

-- what is taken of a token that stays open, and lent: the length of a text, or all of the piece
abbrev pub IsPart : Phase → (kept piece : List ℕ) → (count : ℕ) → Type 0
IsPart phase.Length2 kept piece count = length (kept ++ take count piece) ≡ 2
IsPart phase.Length8 kept piece count = length (kept ++ take count piece) ≡ 8
IsPart phase.Text kept piece count = count ≡ length piece
IsPart phase.Prims kept piece count = count ≡ length piece
IsPart phase.Bytes kept piece count = count ≡ length piece
IsPart _ kept piece count = ⊥

-- the same number is open still, or the header
pub record StillOpen (old new : Seen) : Type 0 where
  pub same : open_phase new ≡ open_phase old
  pub some : 1 < size_of_phase (open_phase old)

-- The first bytes of the piece, so many, end the open token, or the machine stops at the last of them; or they are
-- lent of the token, which stays open; or the whole piece is of the header or a number, which stays open: as one gate
-- judges it, and as any does.
abbrev pub TakenCases : Gate → Taken → List ℕ → Seen → Seen → Type 0
TakenCases gate (taken.Ended count) piece old new = (0 < count) × (count ≤ length piece) × Takes gate (take count piece) flow.On old new
    × IsWholeLength (open_phase old) (cut_of old ++ take count piece)
TakenCases gate (taken.Stopped count) piece old new = (0 < count) × (count ≤ length piece) × Takes gate (take count piece) flow.Stopped old new
TakenCases gate (taken.Part count) piece old new = (0 < count) × (count ≤ length piece) × Keeps gate (take count piece) old new
    × IsPart (open_phase old) (cut_of old) piece count
TakenCases gate taken.Open piece old new = Keeps gate piece old new × StillOpen old new

unfoldable pub TakesFromFor : Gate → Taken → List ℕ → Seen → Seen → Type 0
TakesFromFor gate result piece old new = TakenCases gate result piece old new

abbrev pub TakesFrom : Taken → List ℕ → Seen → Seen → Type 0
TakesFrom result piece old new = (gate : Gate) → TakesFromFor gate result piece old new

-- After so many bytes of the header, all of them right, so many at the front of the piece are right too.
pub record AreRight (place : ℕ) (piece : List ℕ) (count : ℕ) : Type 0 where
  pub within : count ≤ length piece
  pub most : place + count ≤ 4
  pub right : (kept : List ℕ) → length kept ≡ place → differs header_bytes kept ≡ false → differs header_bytes (kept ++ take count piece) ≡ false

-- what came of a handler's answer
abbrev pub taken_by : ℕ → Flow → Taken
taken_by count flow.On = taken.Ended count
taken_by count flow.Stopped = taken.Stopped count

-- Bytes of a raw token: it ends, with as many as were left of it, or all are of it and others are still to come. (While it
-- is open at least one is left.)
abbrev pub RawCases : Taken → List ℕ → Seen → Seen → Type 0
RawCases (taken.Ended count) piece old new =
    (0 < count) × (count ≤ length piece) × (0 < old.left → count ≡ old.left)
    × Comes (farther old count) new (after_value (farther old count))
RawCases (taken.Stopped count) piece old new = ⊥
RawCases taken.Open piece old new = ⊥
RawCases (taken.Part count) piece old new =
    (count ≡ length piece) × (new.phase ≡ old.phase) × (length piece < old.left) × (new.left + length piece ≡ old.left) × Counts piece old new

unfoldable pub TakesRaw : Taken → List ℕ → Seen → Seen → Type 0
TakesRaw result piece old new = RawCases result piece old new
