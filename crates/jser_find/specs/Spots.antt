-- Where a text is between its digits, and what a character does there. A pair of hexadecimal digits is a byte, and a group of
-- four of base64 is three (RFC 4648, sections 4, 5 and 8).
use Rattle.std.specs.Prelude.{ℕ, ◌+◌, ◌*◌, ◌/◌, ◌%◌, ◌==◌, ◌||◌, ◌<◌, if◌then◌else◌, Option, Some, None}
use Rattle.jser_find.specs.declared.spot.Digit.{Digit}
use Rattle.jser_find.specs.declared.spot.Digit.TheVariants as digit
use Rattle.jser_find.specs.declared.spot.Last.{Last}
use Rattle.jser_find.specs.declared.spot.Last.TheVariants as last
use Rattle.jser_find.specs.declared.spot.Spot.{Spot}
use Rattle.jser_find.specs.declared.spot.Step.{Step}
use Rattle.jser_find.specs.declared.spot.Step.TheVariants as step
use Rattle.hex.specs.Hex.{hex_digit_value}
use Rattle.jser_digits.specs.Digits.{either_value}

-- the bits that are left are as many as the digits before leave
abbrev pub Fits : Digit → Type 0
Fits digit.High = Unit {0}
Fits (digit.Low bits) = bits < 16
Fits digit.First = Unit {0}
Fits (digit.Second bits) = bits < 64
Fits (digit.Third bits) = bits < 16
Fits (digit.Fourth bits) = bits < 4

abbrev pub FitsStep : Step → Type 0
FitsStep (step.Goes spot) = Fits spot.next
FitsStep (step.Gives byte spot) = Fits spot.next × (byte < 256)
FitsStep step.Ends = Unit {0}

abbrev pub behind : Last → Digit → Spot
behind what next = record { next = next; last = what }

abbrev pub before : Digit → Spot
before next = behind last.Digit next

-- the value of a character in the alphabet of the next digit
abbrev pub digit_value : Digit → ℕ → Option ℕ
digit_value digit.High c = hex_digit_value c
digit_value (digit.Low bits) c = hex_digit_value c
digit_value digit.First c = either_value c
digit_value (digit.Second bits) c = either_value c
digit_value (digit.Third bits) c = either_value c
digit_value (digit.Fourth bits) c = either_value c

-- how many values a digit of that alphabet may have
abbrev pub radix : Digit → ℕ
radix digit.High = 16
radix (digit.Low bits) = 16
radix digit.First = 64
radix (digit.Second bits) = 64
radix (digit.Third bits) = 64
radix (digit.Fourth bits) = 64

-- what a digit of this value does: its bits go behind those that are left, and eight of them are a byte
abbrev pub value_step : Digit → ℕ → Step
value_step digit.High value = step.Goes (before (digit.Low value))
value_step (digit.Low bits) value = step.Gives (bits * 16 + value) (before digit.High)
value_step digit.First value = step.Goes (before (digit.Second value))
value_step (digit.Second bits) value = step.Gives (bits * 4 + value / 16) (before (digit.Third (value % 16)))
value_step (digit.Third bits) value = step.Gives (bits * 16 + value / 4) (before (digit.Fourth (value % 4)))
value_step (digit.Fourth bits) value = step.Gives (bits * 64 + value) (before digit.First)

-- the digits end before a character that is none
abbrev pub step_with : Digit → Option ℕ → Step
step_with next None = step.Ends
step_with next (Some value) = value_step next value

abbrev pub digit_step : Digit → ℕ → Step
digit_step next c = step_with next (digit_value next c)

-- behind a digit: a line end is passed over, and a `\` may begin one
abbrev pub open_step : Digit → ℕ → Step
open_step next c =
    if c == 0x0A || c == 0x0D then step.Goes (behind last.LineEnd next)
    else (if c == 0x5C then step.Goes (behind last.Backslash next) else digit_step next c)

-- blanks and tabs that begin a line are passed over, as texts are folded
abbrev pub line_step : Digit → ℕ → Step
line_step next c = if c == 0x20 || c == 0x09 then step.Goes (behind last.LineEnd next) else open_step next c

-- behind a `\`: an `n` or an `r` makes a line end of it, and `\/` is `/` in JSON
abbrev pub escaped_step : Digit → ℕ → Step
escaped_step next c = if c == 0x6E || c == 0x72 then step.Goes (behind last.LineEnd next) else (if c == 0x2F then digit_step next c else step.Ends)

abbrev pub step_behind : Last → Digit → ℕ → Step
step_behind last.Digit next c = open_step next c
step_behind last.LineEnd next c = line_step next c
step_behind last.Backslash next c = escaped_step next c

abbrev pub step_of : Spot → ℕ → Step
step_of spot c = step_behind spot.last spot.next c
