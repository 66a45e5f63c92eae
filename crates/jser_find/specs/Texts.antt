-- The next stream that a text spells.
use Rattle.std.specs.Prelude.{ℕ, ◌≡◌, ◌+◌, ◌-◌, ◌%◌, ◌<◌, ◌≤◌, ◌==◌, max, Bool, true, if◌then◌else◌, List, length, take, Option, None, Some}
use Rattle.memchr.specs.Find.{Nowhere}
use Rattle.jser_reader.specs.Gates.{open_gate}
use Rattle.jser_reader.specs.WholeContents.{IsWhole}
use Rattle.jser_find.specs.declared.spot.Digit.{Digit}
use Rattle.jser_find.specs.declared.spot.Digit.TheVariants as digit
use Rattle.jser_find.specs.declared.spelled.Reading.{Reading}
use Rattle.jser_find.specs.declared.start.Start.{Start}
use Rattle.jser_find.specs.declared.finder.Whole.{Whole}
use Rattle.jser_find.specs.declared.longest.Decoded.{Decoded}
use Rattle.jser_find.specs.declared.longest.Turn.{Turn}
use Rattle.jser_find.specs.declared.longest.Turn.TheVariants as turn
use Rattle.jser_find.specs.declared.next.Next.{Next}
use Rattle.jser_find.specs.declared.next.Next.TheVariants as next
use Rattle.jser_find.specs.declared.texts.TextFind.{TextFind}
use Rattle.jser_find.specs.declared.form.Form.{Form}
use Rattle.jser_find.specs.declared.form.Form.TheVariants as form
use Rattle.jser_find.specs.Budgets.{deciding}
use Rattle.jser_find.specs.Spelled.{bytes_from, place_until}
use Rattle.jser_find.specs.Starts.{HasHeaderTextAt, IsFirstStart}

-- Of these bytes, at most so many, the stream is the longest front that is one.
pub record IsLongest (most : ℕ) (bytes stream : List ℕ) : Type 0 where
  pub whole : IsWhole open_gate (take most bytes) (length stream)
  pub is : stream ≡ take (length stream) bytes

-- that stream, where no more than so many of the bytes decide; or that more do
abbrev pub IsLongestIn : (most left : ℕ) → List ℕ → Option Decoded → Type 0
IsLongestIn most left bytes None = left < deciding (take most bytes)
IsLongestIn most left bytes (Some longest) =
    IsLongest most bytes longest.stream.items × (longest.read ≡ deciding (take most bytes)) × (longest.read ≤ left)

-- the same of the first fronts that were read; or they do not decide
abbrev pub IsTurn : (most left : ℕ) → List ℕ → Turn → Type 0
IsTurn most left bytes (turn.Found longest) = IsLongestIn most left bytes (Some longest)
IsTurn most left bytes turn.Over = IsLongestIn most left bytes None
IsTurn most left bytes turn.More = Unit {0}

-- the stream at the beginning of a front, where no more than so many of its bytes decide
abbrev pub IsCut : (front : List ℕ) → Whole → (left : ℕ) → Turn → Type 0
IsCut front whole left (turn.Found longest) = (longest.stream.items ≡ take whole.len front) × (longest.read ≡ whole.read) × (whole.read ≤ left)
IsCut front whole left turn.Over = left < whole.read
IsCut front whole left turn.More = ⊥

-- the form of a text of which this digit comes next
abbrev pub form_of : Digit → Form
form_of digit.High = form.Hexadecimal
form_of (digit.Low bits) = form.Hexadecimal
form_of digit.First = form.Base64
form_of (digit.Second bits) = form.Base64
form_of (digit.Third bits) = form.Base64
form_of (digit.Fourth bits) = form.Base64

-- Whether so many bytes of a text end with a whole digit, where their first begins before this one. Three bytes are four digits of
-- base64, so behind any other number of bytes the last digit has bits of the next byte too.
abbrev pub ends_group : Digit → (count : ℕ) → Bool
ends_group digit.High count = true
ends_group (digit.Low bits) count = true
ends_group digit.First count = count % 3 == 0
ends_group (digit.Second bits) count = count % 3 == 0
ends_group (digit.Third bits) count = count % 3 == 2
ends_group (digit.Fourth bits) count = count % 3 == 1

-- the first digit that has bits behind the first so many bytes
abbrev pub place_after : List ℕ → Reading → (count : ℕ) → ℕ
place_after text reading count =
    if ends_group reading.spot.next count then place_until text reading count else place_until text reading count - 1

-- The first header that the text spells from a place on, with the longest stream that it spells there; the stream ends behind the
-- digit that completes its last byte. The search goes on at the first digit that has bits of what comes behind; where `most` leaves
-- no byte, behind the first digit of the header.
pub record IsTextFindAt (most : ℕ) (text : List ℕ) (place after : ℕ) (start : Start) (find : TextFind) : Type 0 where
  pub first : IsFirstStart text place (Some start)
  pub from : find.from ≡ start.from
  pub form : find.form ≡ form_of start.reading.spot.next
  pub longest : IsLongest most (bytes_from text start.reading) find.stream.items
  pub to : find.to ≡ place_until text start.reading (length find.stream.items)
  pub goes_on : after ≡ max (place_after text start.reading (length find.stream.items)) (start.from + 1)

-- how many bytes are read at a header
abbrev pub reading_of : (most : ℕ) → List ℕ → Start → ℕ
reading_of most text start = deciding (take most (bytes_from text start.reading))

-- What is left of a budget, before and after, pays what is read there.
abbrev pub Pays : (most : ℕ) → List ℕ → Start → (before after : ℕ) → Type 0
Pays most text start before after = before ≡ reading_of most text start + after

-- The first header is at this place, and of it more is to be read than is left.
pub record IsSpentAt (most : ℕ) (text : List ℕ) (place at before : ℕ) : Type 0 where
  pub start : Start
  pub first : IsFirstStart text place (Some start)
  pub from : at ≡ start.from
  pub over : before < reading_of most text start

-- Such a stream, and where the search goes on; or the budget is spent; or there is no header.
abbrev pub FindsText : (most : ℕ) → List ℕ → (from to : ℕ) → (before after : ℕ) → Next TextFind → Type 0
FindsText most text from to before after (next.Found find) =
    (start : Start) × IsTextFindAt most text from to start find × Pays most text start before after
FindsText most text from to before after (next.Spent at) = IsSpentAt most text from at before × (to ≡ from) × (after ≡ 0)
FindsText most text from to before after next.End = Nowhere (HasHeaderTextAt text) from (length text) × (to ≡ from) × (after ≡ before)

-- a search: the text, how many bytes are read at most from a header on, and where it goes on
pub record TextSearch : Type 0 where
  pub text : List ℕ
  pub most : ℕ
  pub place : ℕ
