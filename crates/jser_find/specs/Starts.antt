-- Where the header of a stream begins in a text.
use Rattle.std.specs.Prelude.{ℕ, ◌≡◌, ◌+◌, ◌%◌, ◌⊎◌, ◌==◌, Bool, true, List, length, take, get_or, Option, None, Some}
use Rattle.memchr.specs.Find.{NoneBefore, Nowhere}
use Rattle.jser_grammar.specs.Wire.{stream_header}
use Rattle.jser_find.specs.declared.spot.Digit.{Digit}
use Rattle.jser_find.specs.declared.spot.Digit.TheVariants as digit
use Rattle.jser_find.specs.declared.spelled.Reading.{Reading}
use Rattle.jser_find.specs.declared.start.Start.{Start}
use Rattle.hex.specs.Hex.{hex_digit_value}
use Rattle.jser_digits.specs.Digits.{either_value}
use Rattle.jser_find.specs.Spelled.{bytes_from}
use Rattle.jser_find.specs.Spots.{before}

abbrev pub SpellsHeader : List ℕ → Reading → Type 0
SpellsHeader text reading = take 4 (bytes_from text reading) ≡ stream_header

-- Whether the bits that the digits before this one leave can begin a header, whose first byte is AC.
abbrev pub leads : Digit → Bool
leads digit.High = true
leads (digit.Low bits) = bits == 10
leads digit.First = true
leads (digit.Second bits) = bits == 43
leads (digit.Third bits) = bits == 10
leads (digit.Fourth bits) = bits == 2

-- before a digit at this place
abbrev pub reading_before : ℕ → Digit → Reading
reading_before at next = record { at = at; spot = before next }

-- A text is read from a digit on in one of four ways: as hexadecimal pairs; as base64 of which a group begins there; or as base64
-- whose digit there has the first four or two bits of the first byte, behind bits of a byte before it. Each is read behind the digit.
abbrev pub ReadsPair : (at : ℕ) → Option ℕ → Reading → Type 0
ReadsPair at None reading = ⊥
ReadsPair at (Some value) reading = reading ≡ reading_before (at + 1) (digit.Low value)

abbrev pub ReadsGroup : (at : ℕ) → Option ℕ → Reading → Type 0
ReadsGroup at None reading = ⊥
ReadsGroup at (Some value) reading =
    (reading ≡ reading_before (at + 1) (digit.Second value))
    ⊎ ((reading ≡ reading_before (at + 1) (digit.Third (value % 16))) ⊎ (reading ≡ reading_before (at + 1) (digit.Fourth (value % 4))))

abbrev pub ReadsFrom : List ℕ → (at : ℕ) → Reading → Type 0
ReadsFrom text at reading = ReadsPair at (hex_digit_value (get_or text at 0)) reading ⊎ ReadsGroup at (either_value (get_or text at 0)) reading

-- read in one of these ways the text spells a header
abbrev pub IsHeaderAt : List ℕ → (at : ℕ) → Reading → Type 0
IsHeaderAt text at reading = ReadsFrom text at reading × SpellsHeader text reading

abbrev pub HasHeaderTextAt : List ℕ → ℕ → Type 0
HasHeaderTextAt text at = (reading : Reading) × IsHeaderAt text at reading

-- the way of these in which the text spells a header, or that there is none
abbrev pub StartsBy : (Reads : Reading → Type 0) → List ℕ → Option Reading → Type 0
StartsBy Reads text None = (reading : Reading) → Reads reading → SpellsHeader text reading → ⊥
StartsBy Reads text (Some reading) = Reads reading × SpellsHeader text reading

abbrev pub StartsAt : List ℕ → ℕ → Option Reading → Type 0
StartsAt text at None = (HasHeaderTextAt text at) → ⊥
StartsAt text at (Some reading) = IsHeaderAt text at reading

-- the first such place
abbrev pub IsFirstStart : List ℕ → ℕ → Option Start → Type 0
IsFirstStart text from None = Nowhere (HasHeaderTextAt text) from (length text)
IsFirstStart text from (Some start) = NoneBefore (HasHeaderTextAt text) from (length text) start.from × IsHeaderAt text start.from start.reading
