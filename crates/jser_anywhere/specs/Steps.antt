-- What a scan keeps, and what it does with a byte, as its functions do it.
use Rattle.std.specs.Prelude.{get_or, ◌≡◌, ◌≤◌, ◌<◌, ◌≡◌, ◌<◌, ℕ, Bool, true, false, ◌+◌, ◌*◌, ◌-◌, ◌==◌, ◌&&◌, ◌||◌, nat_le, if◌then◌else◌, List, [], ◌∷◌, ◌++◌, length, take, drop, Option, Some, None, min}
use Rattle.std.specs.Option.{is_some, option_map}
use Rattle.std.specs.Int.{trailing_zeros, w64}
use Rattle.jser_anywhere.specs.declared.recent.Recent.{Recent}
use Rattle.jser_anywhere.specs.declared.recent.Begun.{Begun}
use Rattle.jser_anywhere.specs.declared.open.Name.{Name}
use Rattle.jser_anywhere.specs.declared.open.Row.{Row}
use Rattle.jser_anywhere.specs.declared.open.Text.{Text}
use Rattle.jser_anywhere.specs.declared.open.RowAt.{RowAt}
use Rattle.jser_anywhere.specs.declared.open.RowAt.TheVariants as at
use Rattle.jser_anywhere.specs.declared.text.Place.{Place}
use Rattle.jser_anywhere.specs.declared.text.Place.TheVariants as place
use Rattle.jser_anywhere.specs.declared.text.Taken.{Taken}
use Rattle.jser_anywhere.specs.declared.text.Taken.TheVariants as taken
use Rattle.jser_anywhere.specs.Texts.{Fits, is_first, take_byte}
use Rattle.jser_anywhere.specs.Names.{core}
use Rattle.jser_anywhere.specs.Stages.{Whose, descriptor, row, in_name, in_text, is_length}
use Rattle.jser_anywhere.specs.Slots.{ago, hidden_of, is_even, is_odd, lower}

-- ---- the last bytes

abbrev pub no_recent : Recent
no_recent = record { last = 0xFF; second = 0xFF; third = 0xFF; fourth = 0xFF; fifth = 0xFF; sixth = 0xFF }

abbrev pub with_byte : Recent → ℕ → Recent
with_byte recent byte =
    record { last = byte; second = recent.last; third = recent.second; fourth = recent.third; fifth = recent.fourth; sixth = recent.fifth }

abbrev pub recent_of : List ℕ → Recent
recent_of back = record { last = ago back 0; second = ago back 1; third = ago back 2; fourth = ago back 3; fifth = ago back 4; sixth = ago back 5 }

abbrev pub left_of : (high low : ℕ) → Option ℕ
left_of high low = if is_length high low then Some (high * 256 + low - 1) else None

abbrev pub name_left : Recent → ℕ → Option ℕ
name_left recent byte = if recent.second == 0x72 then left_of recent.last byte else None

abbrev pub begun : (more : ℕ) → Option ℕ → Option Begun
begun more None = None
begun more (Some left) = Some (record { more = more; left = left })

abbrev pub row_left : Recent → ℕ → Option Begun
row_left recent byte =
    if recent.sixth == 0x7D && (recent.fifth == 0 && recent.fourth == 0) then
    (if nat_le 1 (recent.third * 256 + recent.second) then begun (recent.third * 256 + recent.second - 1) (left_of recent.last byte) else None)
    else None

-- ---- a text that is being read

abbrev pub skip_on : Option ℕ → ℕ → Option ℕ
skip_on skip byte = if in_name byte then skip else None

abbrev pub text_with : Text → (byte : ℕ) → Taken → Option Text
text_with t byte (taken.Unit unit) = Some (record { left = t.left; group = place.First; skip = skip_on t.skip byte })
text_with t byte (taken.Part here) = Some (record { left = t.left; group = here; skip = skip_on t.skip byte })
text_with t byte taken.Refused = None

-- the text with the byte, where it is one of it
abbrev pub with_text : Whose → Text → ℕ → Option Text
with_text whose t byte = if in_text whose byte then text_with t byte (take_byte t.group byte) else None

-- what the byte leads to, if it may be one of a name
abbrev pub as_name : Text → ℕ → Taken
as_name t byte = if is_some t.skip && in_name byte then take_byte t.group byte else taken.Refused

-- where the next text begins, of a length that was just read
abbrev pub new_text : (kept left : ℕ) → Text
new_text kept left = record { left = left; group = place.First; skip = Some kept }

abbrev pub one_less : Text → Text
one_less t = record { left = t.left - 1; group = t.group; skip = t.skip }

abbrev pub class_behind : (skip : Option ℕ) → Place → (kept : List ℕ) → Option (List ℕ)
class_behind None group kept = None
class_behind (Some skip) group kept = if is_first group then core (drop skip kept) else None

-- the class that the name names which ended with the last byte, if one did
abbrev pub text_class : Text → (kept : List ℕ) → Option (List ℕ)
text_class t kept = if t.left == 0 then class_behind t.skip t.group kept else None

-- the place of that name, if it does not pass
abbrev pub text_hidden : (List ℕ → Bool) → (place : ℕ) → Text → (kept : List ℕ) → Option ℕ
text_hidden passes place t kept = hidden_of passes place (text_class t kept)

-- ---- a descriptor's name

abbrev pub name_with : Option Name → ℕ → Option Name
name_with None byte = None
name_with (Some n) byte = option_map (λ t. record { place = n.place; text = t }) (with_text descriptor n.text byte)

abbrev pub name_taken : Option Name → ℕ → Taken
name_taken None byte = taken.Refused
name_taken (Some n) byte = as_name n.text byte

abbrev pub name_hidden : (List ℕ → Bool) → Option Name → (kept : List ℕ) → Option ℕ
name_hidden passes None kept = None
name_hidden passes (Some n) kept = text_hidden passes n.place n.text kept

abbrev pub name_onward : Option Name → Option Name
name_onward None = None
name_onward (Some n) = if n.text.left == 0 then None else Some (record { place = n.place; text = one_less n.text })

abbrev pub name_after : (count kept : ℕ) → Option ℕ → Option Name → Option Name
name_after count kept None n = name_onward n
name_after count kept (Some left) n = Some (record { place = count - 2; text = new_text kept left })

-- ---- a row

abbrev pub row_at : Row → (more : ℕ) → RowAt → Row
row_at r more here = record { place = r.place; more = more; at = here }

abbrev pub at_with : Row → RowAt → ℕ → Option Row
at_with r at.Between byte = Some (row_at r r.more at.Between)
at_with r (at.Halfway high) byte = Some (row_at r r.more (at.Halfway high))
at_with r (at.Text t) byte = option_map (λ t. row_at r r.more (at.Text t)) (with_text (row r.more) t byte)

abbrev pub row_with : Option Row → ℕ → Option Row
row_with None byte = None
row_with (Some r) byte = at_with r r.at byte

abbrev pub at_taken : RowAt → ℕ → Taken
at_taken at.Between byte = taken.Refused
at_taken (at.Halfway high) byte = taken.Refused
at_taken (at.Text t) byte = as_name t byte

abbrev pub row_taken : Option Row → ℕ → Taken
row_taken None byte = taken.Refused
row_taken (Some r) byte = at_taken r.at byte

abbrev pub at_hidden : (List ℕ → Bool) → (place : ℕ) → RowAt → (kept : List ℕ) → Option ℕ
at_hidden passes place at.Between kept = None
at_hidden passes place (at.Halfway high) kept = None
at_hidden passes place (at.Text t) kept = text_hidden passes place t kept

abbrev pub row_hidden : (List ℕ → Bool) → Option Row → (kept : List ℕ) → Option ℕ
row_hidden passes None kept = None
row_hidden passes (Some r) kept = at_hidden passes r.place r.at kept

abbrev pub text_begins : Row → (kept : ℕ) → Option ℕ → Option Row
text_begins r kept None = None
text_begins r kept (Some left) = Some (row_at r r.more (at.Text (new_text kept left)))

abbrev pub text_onward : Row → Text → Option Row
text_onward r t =
    if t.left == 0 then (if is_first t.group && nat_le 1 r.more then Some (row_at r (r.more - 1) at.Between) else None)
    else Some (row_at r r.more (at.Text (one_less t)))

abbrev pub at_onward : Row → RowAt → ℕ → (kept : ℕ) → Option Row
at_onward r at.Between byte kept = if in_name byte then None else Some (row_at r r.more (at.Halfway byte))
at_onward r (at.Halfway high) byte kept = text_begins r kept (left_of high byte)
at_onward r (at.Text t) byte kept = text_onward r t

abbrev pub row_onward : Option Row → ℕ → (kept : ℕ) → Option Row
row_onward None byte kept = None
row_onward (Some r) byte kept = at_onward r r.at byte kept

abbrev pub row_begins : (wanted : Bool) → (place kept : ℕ) → Option Begun → Option Row
row_begins wanted place kept None = None
row_begins wanted place kept (Some b) =
    if wanted then Some (record { place = place; more = b.more; at = at.Text (new_text kept b.left) }) else None

abbrev pub row_or : Option Row → Option Row → Option Row
row_or None old = old
row_or (Some new) old = Some new

abbrev pub row_after : (wanted : Bool) → (place kept : ℕ) → Option Begun → Option Row → ℕ → Option Row
row_after wanted place kept new old byte = row_or (row_begins wanted place kept new) (row_onward old byte kept)

-- ---- a scan, as contracts see it

pub record Scanning : Type 0 where
  -- how many bytes came
  pub count : ℕ
  pub recent : Recent
  -- the units of the texts that are being read and may be names
  pub kept : List ℕ
  pub name : Option Name
  -- the row at an even place, and the one at an odd place
  pub even : Option Row
  pub odd : Option Row

abbrev pub no_bytes : Scanning
no_bytes = record { count = 0; recent = no_recent; kept = []; name = None; even = None; odd = None }

abbrev pub or_taken : Taken → Taken → Taken
or_taken (taken.Unit unit) b = taken.Unit unit
or_taken (taken.Part here) b = taken.Part here
or_taken taken.Refused b = b

-- what the byte leads to in each text that still may be a name
abbrev pub taken_by : Scanning → ℕ → Taken
taken_by scan byte = or_taken (name_taken scan.name byte) (or_taken (row_taken scan.even byte) (row_taken scan.odd byte))

abbrev pub kept_with : (kept : List ℕ) → Taken → List ℕ
kept_with kept (taken.Unit unit) = kept ++ unit ∷ []
kept_with kept (taken.Part here) = kept
kept_with kept taken.Refused = []

abbrev pub keeping : Scanning → List ℕ → Scanning
keeping scan kept = record scan { kept = kept }

-- the texts have taken the byte, and their units are kept
abbrev pub reading : Scanning → ℕ → Scanning
reading scan byte = record scan { name = name_with scan.name byte; even = row_with scan.even byte; odd = row_with scan.odd byte }

abbrev pub noted : Scanning → ℕ → Scanning
noted scan byte = reading (keeping scan (kept_with scan.kept (taken_by scan byte))) byte

-- the place of the hidden name that ends with the byte that they took
abbrev pub noted_hidden : (List ℕ → Bool) → Scanning → Option ℕ
noted_hidden passes scan =
    lower (name_hidden passes scan.name scan.kept) (lower (row_hidden passes scan.even scan.kept) (row_hidden passes scan.odd scan.kept))

abbrev pub scan_hidden : (List ℕ → Bool) → Scanning → ℕ → Option ℕ
scan_hidden passes scan byte = noted_hidden passes (noted scan byte)

-- after a byte that they took
abbrev pub gone_on : Scanning → ℕ → Scanning
gone_on scan byte = record {
  count = min (scan.count + 1) 0xFFFFFFFFFFFFFFFF;
  recent = with_byte scan.recent byte;
  kept = scan.kept;
  name = name_after scan.count (length scan.kept) (name_left scan.recent byte) scan.name;
  even = row_after (is_even (scan.count - 6)) (scan.count - 6) (length scan.kept) (row_left scan.recent byte) scan.even byte;
  odd = row_after (is_odd (scan.count - 6)) (scan.count - 6) (length scan.kept) (row_left scan.recent byte) scan.odd byte;
}

abbrev pub scan_after : Scanning → ℕ → Scanning
scan_after scan byte = gone_on (noted scan byte) byte

-- a row begins whose first text comes next, where none is being read
abbrev pub with_row : Scanning → Begun → Scanning
with_row scan begun = record scan { even = row_begins (is_even (scan.count - 6)) (scan.count - 6) (length scan.kept) (Some begun); odd = row_begins (is_odd (scan.count - 6)) (scan.count - 6) (length scan.kept) (Some begun) }

-- ---- there is room for the next byte, and the groups that are being read are begun as groups can be

abbrev pub NameFits : Option Name → Type 0
NameFits None = Unit {0}
NameFits (Some n) = Fits n.text.group

abbrev pub AtFits : RowAt → Type 0
AtFits at.Between = Unit {0}
AtFits (at.Halfway high) = Unit {0}
AtFits (at.Text t) = Fits t.group

abbrev pub RowFits : Option Row → Type 0
RowFits None = Unit {0}
RowFits (Some r) = AtFits r.at

pub record HasRoom (scan : Scanning) : Type 0 where
  pub room : length scan.kept ≤ 9216
  pub name : NameFits scan.name
  pub even : RowFits scan.even
  pub odd : RowFits scan.odd

-- ---- bytes that begin no name, where none is being read

-- A name may begin with the length that ends at this byte of a piece: the byte before it can be the first of a length,
-- and a mark stands before that.
abbrev pub may_begin : (piece : List ℕ) → (at : ℕ) → Bool
may_begin piece at = nat_le (get_or piece (at - 1) 0) 0x23 && (get_or piece (at - 2) 0 == 0x72 || get_or piece (at - 6) 0 == 0x7D)

-- the place of the lowest bit of a mask that is set, or the number of lanes
abbrev pub first_set : ℕ → ℕ → ℕ
first_set mask lanes = if mask == 0 then lanes else trailing_zeros w64 mask

-- no byte from a place on, up to another, is such a one
abbrev pub AreNone : (ℕ → Bool) → List ℕ → (from to : ℕ) → Type 0
AreNone is bytes from to = (at : ℕ) → from ≤ at → at < to → is (get_or bytes at 0) ≡ false

pub record IsQuiet (piece : List ℕ) (from to : ℕ) : Type 0 where
  pub ordered : from ≤ to
  pub within : to ≤ length piece
  pub none : (at : ℕ) → from ≤ at → at < to → may_begin piece at ≡ false
  pub bytes : (at : ℕ) → from ≤ at → at < to → get_or piece at 0 < 256

abbrev pub recent_in : (piece : List ℕ) → (to : ℕ) → Recent
recent_in piece to = record {
  last = get_or piece (to - 1) 0;
  second = get_or piece (to - 2) 0;
  third = get_or piece (to - 3) 0;
  fourth = get_or piece (to - 4) 0;
  fifth = get_or piece (to - 5) 0;
  sixth = get_or piece (to - 6) 0;
}

-- past them, where no name is being read
abbrev pub past : Scanning → (piece : List ℕ) → (from to : ℕ) → Scanning
past scan piece from to =
    record scan { count = min (scan.count + (to - from)) 0xFFFFFFFFFFFFFFFF; recent = recent_in piece to; kept = [] }

-- ---- bytes of the descriptor's name that is being read

-- they can be those of a name, and each is a group: none is the first of a length
abbrev pub is_letter : ℕ → Bool
is_letter byte = nat_le 0x24 byte && nat_le byte 0x7F

pub record IsText (piece : List ℕ) (from to : ℕ) : Type 0 where
  pub ordered : from ≤ to
  pub within : to ≤ length piece
  pub letters : (at : ℕ) → from ≤ at → at < to → is_letter (get_or piece at 0) ≡ true
  pub bytes : (at : ℕ) → from ≤ at → at < to → get_or piece at 0 < 256

-- so many bytes of it were read
abbrev pub name_past : Name → (count : ℕ) → Name
name_past n count = record { place = n.place; text = record { left = n.text.left - count; group = place.First; skip = n.text.skip } }

-- past them, where no row is being read
abbrev pub read_past : Scanning → Name → (piece : List ℕ) → (from to : ℕ) → Scanning
read_past scan n piece from to = record {
  count = min (scan.count + (to - from)) 0xFFFFFFFFFFFFFFFF;
  recent = recent_in piece to;
  kept = scan.kept ++ take (to - from) (drop from piece);
  name = Some (name_past n (to - from));
  even = None;
  odd = None;
}
