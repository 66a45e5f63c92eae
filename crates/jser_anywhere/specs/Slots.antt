-- Of the stages of all places, those that a scan has to keep: one of a descriptor's name, one of a row at an even place, and one
-- of a row at an odd place. That these are enough is proved.
use Rattle.std.specs.Prelude.{ℕ, Bool, not, ◌-◌, ◌%◌, ◌==◌, ◌&&◌, if◌then◌else◌, List, [], ◌∷◌, length, get_or, Option, Some, None, min}
use Rattle.jser_anywhere.specs.Stages.{descriptor, Stage, nothing, head, text, between, halfway, text_of, row_of, next, ended}

-- a place and its stage
pub record Slot : Type 0 where
  pub place : ℕ
  pub stage : Stage

pub record Slots : Type 0 where
  pub name : Slot
  pub even : Slot
  pub odd : Slot

abbrev pub no_slot : Slot
no_slot = record { place = 0; stage = nothing }

-- a byte that came so long ago, or one that begins nothing where there were not so many
abbrev pub ago : List ℕ → ℕ → ℕ
ago back count = get_or back count 0xFF

-- the descriptor's name whose length ends with a byte
abbrev pub new_name : (back : List ℕ) → (byte : ℕ) → Stage
new_name back byte = if ago back 1 == 0x72 then text_of descriptor (ago back 0) byte else nothing

-- the first text of a row, whose length ends with a byte
abbrev pub new_row : (back : List ℕ) → (byte : ℕ) → Stage
new_row back byte =
    if ago back 5 == 0x7D && (ago back 4 == 0 && ago back 3 == 0) then row_of (ago back 2) (ago back 1) (ago back 0) byte else nothing

abbrev pub is_even : ℕ → Bool
is_even n = n % 2 == 0

abbrev pub is_odd : ℕ → Bool
is_odd n = not (is_even n)

-- a stage, where it is wanted
abbrev pub if_wanted : Bool → Stage → Stage
if_wanted wanted stage = if wanted then stage else nothing

abbrev pub moved : Slot → ℕ → Slot
moved slot byte = record { place = slot.place; stage = next slot.stage byte }

-- the stage that begins at a place, in place of what the slot has
abbrev pub filled : (place : ℕ) → Stage → Slot → Slot
filled place (text whose left reading) slot = record { place = place; stage = text whose left reading }
filled place nothing slot = slot
filled place (head bytes) slot = slot
filled place (between more) slot = slot
filled place (halfway more high) slot = slot

abbrev pub step : (back : List ℕ) → Slots → ℕ → Slots
step back slots byte = record {
  name = filled (length back - 2) (new_name back byte) (moved slots.name byte);
  even = filled (length back - 6) (if_wanted (is_even (length back - 6)) (new_row back byte)) (moved slots.even byte);
  odd = filled (length back - 6) (if_wanted (is_odd (length back - 6)) (new_row back byte)) (moved slots.odd byte);
}

-- after all bytes, the last one first
abbrev pub slots_of : List ℕ → Slots
slots_of [] = record { name = no_slot; even = no_slot; odd = no_slot }
slots_of (byte ∷ back) = step back (slots_of back) byte

-- the place of a name that ends, if one does and it does not pass
abbrev pub hidden_of : (List ℕ → Bool) → (place : ℕ) → Option (List ℕ) → Option ℕ
hidden_of passes place None = None
hidden_of passes place (Some units) = if passes units then None else Some place

abbrev pub lower : Option ℕ → Option ℕ → Option ℕ
lower None b = b
lower (Some a) None = Some a
lower (Some a) (Some b) = Some (min a b)

abbrev pub slot_hidden : (List ℕ → Bool) → Slot → ℕ → Option ℕ
slot_hidden passes slot byte = hidden_of passes slot.place (ended slot.stage byte)

-- the least place of a hidden name that ends with a byte
abbrev pub hidden_place : (List ℕ → Bool) → Slots → ℕ → Option ℕ
hidden_place passes slots byte = lower (slot_hidden passes slots.name byte) (lower (slot_hidden passes slots.even byte) (slot_hidden passes slots.odd byte))
