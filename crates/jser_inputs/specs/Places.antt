-- Where a text is, and what a character does there (RFC 4648, sections 3 to 5 and 8).
use Rattle.std.specs.Prelude.{ℕ, ◌+◌, ◌-◌, ◌*◌, ◌/◌, ◌%◌, ◌^◌, ◌==◌, ◌<◌, ◌≤◌, Bool, true, false, if◌then◌else◌, Option, Some, None}
use Rattle.hex.specs.Hex.{hex_digit_value}
use Rattle.jser_inputs.specs.declared.form.Form.{Form}
use Rattle.jser_inputs.specs.declared.form.Form.TheVariants as form
use Rattle.jser_digits.specs.declared.digit.Alphabet.{Alphabet}
use Rattle.jser_digits.specs.declared.digit.Alphabet.TheVariants as alphabet
use Rattle.jser_inputs.specs.declared.place.Place.{Place}
use Rattle.jser_inputs.specs.declared.place.Place.TheVariants as place
use Rattle.jser_inputs.specs.declared.place.Step.{Step}
use Rattle.jser_inputs.specs.declared.place.Step.TheVariants as step
use Rattle.jser_inputs.specs.declared.spot.Spot.{Spot}
use Rattle.jser_inputs.specs.declared.spot.Move.{Move}
use Rattle.jser_inputs.specs.declared.spot.Move.TheVariants as move
use Rattle.jser_inputs.specs.Spaces.{is_space}
use Rattle.jser_digits.specs.Digits.{value_in}

-- the bits that have not gone out are as many as the digits so far leave
abbrev pub Fits : Place → Type 0
Fits place.Bytes = Unit {0}
Fits place.High = Unit {0}
Fits (place.Low high) = high < 16
Fits (place.First letters) = Unit {0}
Fits (place.Second letters bits) = bits < 64
Fits (place.Third letters bits) = bits < 16
Fits (place.Fourth letters bits) = bits < 4
Fits place.Padding = Unit {0}
Fits place.Padded = Unit {0}
Fits place.Wrong = Unit {0}

abbrev pub first_place : Form → Place
first_place form.Binary = place.Bytes
first_place form.Hex = place.High
first_place form.Base64 = place.First alphabet.Standard
first_place form.Base64Url = place.First alphabet.UrlSafe

-- A text may end behind a pair or a group, or behind two or three digits of a group that leave no bits: with the
-- padding or without it.
abbrev pub is_whole : Place → Bool
is_whole place.Bytes = true
is_whole place.High = true
is_whole (place.Low high) = false
is_whole (place.First letters) = true
is_whole (place.Second letters bits) = false
is_whole (place.Third letters bits) = bits == 0
is_whole (place.Fourth letters bits) = bits == 0
is_whole place.Padding = false
is_whole place.Padded = true
is_whole place.Wrong = false

abbrev pub is_wrong : Place → Bool
is_wrong place.Bytes = false
is_wrong place.High = false
is_wrong (place.Low high) = false
is_wrong (place.First letters) = false
is_wrong (place.Second letters bits) = false
is_wrong (place.Third letters bits) = false
is_wrong (place.Fourth letters bits) = false
is_wrong place.Padding = false
is_wrong place.Padded = false
is_wrong place.Wrong = true

-- what holds of the place behind a character
abbrev pub FitsStep : Step → Type 0
FitsStep (step.Goes next) = Fits next
FitsStep (step.Gives byte next) = Fits next
FitsStep step.Wrong = Unit {0}

-- two digits are the high and the low four bits of a byte

abbrev pub high_read : Option ℕ → Step
high_read None = step.Wrong
high_read (Some high) = step.Goes (place.Low high)

abbrev pub after_high : ℕ → Step
after_high c = high_read (hex_digit_value c)

abbrev pub low_read : ℕ → Option ℕ → Step
low_read high None = step.Wrong
low_read high (Some low) = step.Gives (high * 16 + low) place.High

abbrev pub after_low : ℕ → ℕ → Step
after_low high c = low_read high (hex_digit_value c)

-- four digits have six bits each, and are three bytes

abbrev pub first_read : Alphabet → Option ℕ → Step
first_read letters None = step.Wrong
first_read letters (Some value) = step.Goes (place.Second letters value)

abbrev pub after_first : Alphabet → ℕ → Step
after_first letters c = first_read letters (value_in letters c)

abbrev pub second_read : Alphabet → ℕ → Option ℕ → Step
second_read letters bits None = step.Wrong
second_read letters bits (Some value) = step.Gives (bits * 4 + value / 16) (place.Third letters (value % 16))

abbrev pub after_second : Alphabet → ℕ → ℕ → Step
after_second letters bits c = second_read letters bits (value_in letters c)

-- padding, before which no bits are left
abbrev pub pads : ℕ → Place → Step
pads bits next = if bits == 0 then step.Goes next else step.Wrong

abbrev pub third_read : Alphabet → ℕ → Option ℕ → Step
third_read letters bits None = step.Wrong
third_read letters bits (Some value) = step.Gives (bits * 16 + value / 4) (place.Fourth letters (value % 4))

abbrev pub after_third : Alphabet → ℕ → ℕ → Step
after_third letters bits c = if c == 0x3D then pads bits place.Padding else third_read letters bits (value_in letters c)

abbrev pub fourth_read : Alphabet → ℕ → Option ℕ → Step
fourth_read letters bits None = step.Wrong
fourth_read letters bits (Some value) = step.Gives (bits * 64 + value) (place.First letters)

abbrev pub after_fourth : Alphabet → ℕ → ℕ → Step
after_fourth letters bits c = if c == 0x3D then pads bits place.Padded else fourth_read letters bits (value_in letters c)

abbrev pub after_padding : ℕ → Step
after_padding c = if c == 0x3D then step.Goes place.Padded else step.Wrong

-- What a character does that is no white space. Behind the padding none may come, nor behind one that was wrong.
abbrev pub step_by_place : Place → ℕ → Step
step_by_place place.Bytes c = step.Gives c place.Bytes
step_by_place place.High c = after_high c
step_by_place (place.Low high) c = after_low high c
step_by_place (place.First letters) c = after_first letters c
step_by_place (place.Second letters bits) c = after_second letters bits c
step_by_place (place.Third letters bits) c = after_third letters bits c
step_by_place (place.Fourth letters bits) c = after_fourth letters bits c
step_by_place place.Padding c = after_padding c
step_by_place place.Padded c = step.Wrong
step_by_place place.Wrong c = step.Wrong

-- ---- white space is passed over, as long as there is not too much of it

-- so many characters of white space may come before the first byte, and one more for each byte
abbrev pub spare_space : ℕ
spare_space = 2 ^ 20

abbrev pub first_spot : Form → Spot
first_spot form = record { place = first_place form; spare = spare_space }

-- at the same place
abbrev pub space_passed : Place → ℕ → Move
space_passed at spare = if spare == 0 then move.Wrong else move.Goes (record { place = at; spare = spare - 1 })

abbrev pub move_over_space : Place → ℕ → ℕ → Move
move_over_space place.Bytes spare c = move.Gives c (record { place = place.Bytes; spare = spare })
move_over_space place.Wrong spare c = move.Wrong
move_over_space at spare c = space_passed at spare

-- another character; a byte makes room for one more of white space, but where bytes come as they are
abbrev pub moved : ℕ → Step → Move
moved spare (step.Goes next) = move.Goes (record { place = next; spare = spare })
moved spare (step.Gives byte place.Bytes) = move.Gives byte (record { place = place.Bytes; spare = spare })
moved spare (step.Gives byte next) = move.Gives byte (record { place = next; spare = spare + 1 })
moved spare step.Wrong = move.Wrong

-- what holds of the spot behind a character
abbrev pub FitsMove : ℕ → Move → Type 0
FitsMove spare (move.Goes next) = Fits next.place × (next.spare ≤ spare)
FitsMove spare (move.Gives byte next) = Fits next.place × (next.spare ≤ spare + 1)
FitsMove spare move.Wrong = Unit {0}

abbrev pub move_of : Spot → ℕ → Move
move_of spot c = if is_space c then move_over_space spot.place spot.spare c else moved spot.spare (step_by_place spot.place c)
