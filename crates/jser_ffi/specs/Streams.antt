-- A stream behind a handle: what it has taken, what its filter is asked, and what its calls answer.
use Rattle.std.specs.Prelude.{ℕ, ◌≡◌, ◌⊎◌, false, List, [], ◌++◌, Option, Some, None}
use Rattle.jser_check.specs.Passing.{Asked, passes_name}
use Rattle.jser_check.specs.Pieces.{HasTaken, asked_by}
use Rattle.jser_ffi.specs.declared.answer.Answer.{Answer}
use Rattle.jser_ffi.specs.declared.compiled.Compiled.{Compiled}
use Rattle.jser_ffi.specs.declared.stream.Stream.{Stream}
use Rattle.jser_ffi.specs.declared.stream.Stream.TheVariants as stream
use Rattle.jser_shown.specs.Words.{quoted}
use Rattle.jser_ffi.specs.Compiling.{IsCompiled}
use Rattle.jser_ffi.specs.Rooms.{Puts}
use Rattle.jser_ffi.specs.Told.{RefusesNow, SaysOf, SaysWhole, Zeros, asked_in}

-- it took these bytes, which decide nothing
abbrev pub Taken : Stream → List ℕ → Type 0
Taken (stream.Open check) taken = HasTaken check taken
Taken (stream.Over answer) taken = ⊥
Taken (stream.Refused answer check) taken = ⊥

-- it is over, and each call answers this
abbrev pub IsOver : Answer → Stream → Type 0
IsOver answer (stream.Open check) = ⊥
IsOver answer (stream.Over before) = before ≡ answer
IsOver answer (stream.Refused before check) = before ≡ answer

abbrev pub IsOpen : Stream → Type 0
IsOpen (stream.Open check) = Unit {0}
IsOpen (stream.Over before) = ⊥
IsOpen (stream.Refused before check) = ⊥

-- it is over, and its filter does not let this class name pass
abbrev pub HasNotPassed : Stream → (units : List ℕ) → Type 0
HasNotPassed (stream.Open check) units = ⊥
HasNotPassed (stream.Over before) units = ⊥
HasNotPassed (stream.Refused before check) units = passes_name check.reader.gate.filter check.reader.gate.options units ≡ false

-- that class name is in the room, quoted
pub record PutsRefused (now : Stream) (old new : List ℕ) (told : Answer) : Type 0 where
  pub units : List ℕ
  pub refused : HasNotPassed now units
  pub puts : Puts (quoted units []) old new told

-- the filter that it is under, and what that is asked
abbrev pub under : Stream → Option Asked
under (stream.Open check) = Some (asked_by check)
under (stream.Over answer) = None
under (stream.Refused answer check) = None

-- the answer that it keeps has zeros where its status does not speak of a number
abbrev pub KeepsZeros : Stream → Type 0
KeepsZeros (stream.Open check) = Unit {0}
KeepsZeros (stream.Over answer) = Zeros answer
KeepsZeros (stream.Refused answer check) = Zeros answer

-- the stream of a handle, where it has one, keeps such zeros
abbrev pub HoldsZeros : Option Stream → Type 0
HoldsZeros None = Unit {0}
HoldsZeros (Some now) = KeepsZeros now

-- nothing has come yet
pub record Begins (compiled : Compiled) (now : Stream) : Type 0 where
  pub taken : Taken now []
  pub filter : under now ≡ Some (asked_in compiled)

pub record BeginsUnder (flags : ℕ) (text modules : List ℕ) (now : Stream) : Type 0 where
  pub compiled : Compiled
  pub is : IsCompiled flags text modules compiled
  pub begins : Begins compiled now

abbrev pub RefusesIn : Stream → (taken piece : List ℕ) → Answer → Type 0
RefusesIn (stream.Open check) taken piece answer = RefusesNow (asked_by check) taken piece answer
RefusesIn (stream.Over before) taken piece answer = ⊥
RefusesIn (stream.Refused before check) taken piece answer = ⊥

-- how many bytes are whole contents, under its filter
abbrev pub SaysWholeOf : Stream → List ℕ → Answer → Type 0
SaysWholeOf (stream.Open check) bytes answer = SaysWhole check.reader.gate.filter check.reader.gate.options bytes answer
SaysWholeOf (stream.Over before) bytes answer = Unit {0}
SaysWholeOf (stream.Refused before check) bytes answer = Unit {0}

-- what the next bytes decide
pub record NextSays (old new : Stream) (taken piece : List ℕ) (answer : Answer) : Type 0 where
  pub more : answer.status ≡ 4 → Taken new (taken ++ piece)
  pub filter : under new ≡ under old
  pub refused : answer.status ≡ 1 → RefusesIn old taken piece answer
  pub whole : SaysWholeOf old (taken ++ piece) answer
  pub known : (answer.status ≡ 4) ⊎ ((answer.status ≡ 1) ⊎ (answer.status ≡ 3))

-- what the next bytes decide, of a stream that ends with every answer but that more bytes are wanted
pub record FeedSays (old new : Stream) (taken piece : List ℕ) (answer : Answer) : Type 0 where
  pub more : answer.status ≡ 4 → Taken new (taken ++ piece) × (under new ≡ under old)
  pub refused : answer.status ≡ 1 → RefusesIn old taken piece answer
  pub whole : SaysWholeOf old (taken ++ piece) answer
  pub known : (answer.status ≡ 4) ⊎ ((answer.status ≡ 1) ⊎ (answer.status ≡ 3))

-- the end says of what was taken what a check of it all at once says
abbrev pub EndSays : Stream → (taken : List ℕ) → Answer → Type 0
EndSays (stream.Open check) taken answer = SaysOf (asked_by check) taken answer × SaysWhole check.reader.gate.filter check.reader.gate.options taken answer
EndSays (stream.Over before) taken answer = answer ≡ before
EndSays (stream.Refused before check) taken answer = answer ≡ before
