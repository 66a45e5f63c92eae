-- What a place of the bytes has come to, by the bytes from it on: each place by itself, whatever the others have.
use Rattle.std.specs.Prelude.{ℕ, zero, suc, Bool, ◌+◌, ◌*◌, ◌-◌, ◌==◌, ◌&&◌, ◌||◌, nat_le, if◌then◌else◌, List, [], ◌∷◌, ◌++◌, length, Option, Some, None}
use Rattle.jser_anywhere.specs.Texts.{take_byte, is_first, in_row}
use Rattle.jser_anywhere.specs.Names.{core}
use Rattle.jser_anywhere.specs.Standing.{most_bytes}
use Rattle.jser_anywhere.specs.declared.text.Place.{Place}
use Rattle.jser_anywhere.specs.declared.text.Place.TheVariants as place
use Rattle.jser_anywhere.specs.declared.text.Taken.{Taken}
use Rattle.jser_anywhere.specs.declared.text.Taken.TheVariants as taken

-- Whose text: a descriptor's, or one of a row, after which so many texts may follow.
pub data Whose : Type 0 where
  descriptor : Whose
  row : (more : ℕ) → Whose

-- What was read of a text: these units, and it may be a name; or it is none, but the row goes on behind it. And where in a group
-- the next byte stands.
pub data Reading : Type 0 where
  naming : (units : List ℕ) → Place → Reading
  passing : Place → Reading

-- Heads are kept with the last byte first.
pub data Stage : Type 0 where
  -- no name that stands there ends later
  nothing : Stage
  -- the bytes of 72 and a length, or of 7D, a count and a length, so far
  head : List ℕ → Stage
  -- a text is being read: so many bytes follow the next one
  text : Whose → (left : ℕ) → Reading → Stage
  -- the length of a text of a row comes next, and so many texts may follow that
  between : (more : ℕ) → Stage
  -- the first byte of its length was read
  halfway : (more high : ℕ) → Stage

abbrev pub no_units : Reading
no_units = naming [] place.First

-- two bytes that are the length of a text
abbrev pub is_length : (high low : ℕ) → Bool
is_length high low = nat_le 1 (high * 256 + low) && nat_le (high * 256 + low) most_bytes

-- a byte that can occur in the text of a loadable name: the first byte of a length never can
abbrev pub in_name : ℕ → Bool
in_name byte = nat_le 0x24 byte

-- a byte that can occur in such a text
abbrev pub in_text : Whose → ℕ → Bool
in_text descriptor byte = in_name byte
in_text (row more) byte = in_row byte

abbrev pub begin : ℕ → Stage
begin byte = if byte == 0x72 || byte == 0x7D then head (byte ∷ []) else nothing

abbrev pub text_of : Whose → (high low : ℕ) → Stage
text_of whose high low = if is_length high low then text whose (high * 256 + low - 1) no_units else nothing

-- the first text of a row, after its count
abbrev pub row_of : (count_high count_low high low : ℕ) → Stage
row_of count_high count_low high low =
    if nat_le 1 (count_high * 256 + count_low) then text_of (row (count_high * 256 + count_low - 1)) high low else nothing

abbrev pub after_head : List ℕ → Stage
after_head (low ∷ high ∷ mark ∷ []) = if mark == 0x72 then text_of descriptor high low else head (low ∷ high ∷ mark ∷ [])
after_head (low ∷ high ∷ count_low ∷ count_high ∷ second ∷ first ∷ mark ∷ []) =
    if mark == 0x7D && (first == 0 && second == 0) then row_of count_high count_low high low else nothing
after_head bytes = head bytes

-- ---- a byte of a text

abbrev pub name_taken : (units : List ℕ) → Taken → Option Reading
name_taken units (taken.Unit unit) = Some (naming (units ++ unit ∷ []) place.First)
name_taken units (taken.Part here) = Some (naming units here)
name_taken units taken.Refused = None

abbrev pub other_taken : Taken → Option Reading
other_taken (taken.Unit unit) = Some (passing place.First)
other_taken (taken.Part here) = Some (passing here)
other_taken taken.Refused = None

abbrev pub read : Reading → ℕ → Option Reading
read (naming units here) byte = if in_name byte then name_taken units (take_byte here byte) else other_taken (take_byte here byte)
read (passing here) byte = other_taken (take_byte here byte)

abbrev pub text_read : Whose → (left : ℕ) → Option Reading → Stage
text_read whose left None = nothing
text_read whose left (Some reading) = text whose left reading

-- the stage with the byte, where it is one of a text
abbrev pub with_byte : Stage → ℕ → Stage
with_byte nothing byte = nothing
with_byte (head bytes) byte = head bytes
with_byte (text whose left reading) byte = if in_text whose byte then text_read whose left (read reading byte) else nothing
with_byte (between more) byte = between more
with_byte (halfway more high) byte = halfway more high

-- the class that was named, if a name was read whole
abbrev pub class_of : Reading → Option (List ℕ)
class_of (naming units here) = if is_first here then core units else None
class_of (passing here) = None

abbrev pub is_whole : Reading → Bool
is_whole (naming units here) = is_first here
is_whole (passing here) = is_first here

abbrev pub ended_with : Stage → Option (List ℕ)
ended_with nothing = None
ended_with (head bytes) = None
ended_with (text whose zero reading) = class_of reading
ended_with (text whose (suc left) reading) = None
ended_with (between more) = None
ended_with (halfway more high) = None

-- what follows a text that ended, if it was loose
abbrev pub after_text : Whose → Bool → Stage
after_text descriptor whole = nothing
after_text (row zero) whole = nothing
after_text (row (suc more)) whole = if whole then between more else nothing

-- what the byte leads to, which a text has already taken
abbrev pub onward : Stage → ℕ → Stage
onward nothing byte = nothing
onward (head bytes) byte = after_head (byte ∷ bytes)
onward (text whose zero reading) byte = after_text whose (is_whole reading)
onward (text whose (suc left) reading) byte = text whose left reading
onward (between more) byte = if in_name byte then nothing else halfway more byte
onward (halfway more high) byte = text_of (row more) high byte

-- what a byte leads to
abbrev pub next : Stage → ℕ → Stage
next stage byte = onward (with_byte stage byte) byte

-- the class of the name that ends with a byte, if one does
abbrev pub ended : Stage → ℕ → Option (List ℕ)
ended stage byte = ended_with (with_byte stage byte)

-- the stage of a place, by all bytes, the last one first
abbrev pub stage_of : (place : ℕ) → (back : List ℕ) → Stage
stage_of place [] = nothing
stage_of place (byte ∷ back) = if place == length back then begin byte else next (stage_of place back) byte
