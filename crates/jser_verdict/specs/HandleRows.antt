-- What the handle of a reference names (Java Object Serialization Specification, section 6.4.2: handles are assigned in
-- order from 0x7E0000). In a value place it names any entry; in a text place a string; in a class or superclass place a
-- descriptor whose superclass place has been read. A number is taken as it is written.
use Rattle.std.specs.Prelude.{ℕ, ◌+◌, ◌-◌, ◌&&◌, ◌||◌, Bool, true, false, if◌then◌else◌, nat_lt, nat_le, List, length, Option, Some, None, slice_get}
use Rattle.jser_table.specs.Entries.{TableEntry, text_entry, other_entry, pending_entry, closed_entry, is_pending}
use Rattle.jser_grammar.specs.TableAfter.{Entries}
use Rattle.jser_grammar.specs.Wire.{BASE_WIRE_HANDLE}
use Rattle.jser_reading.specs.Labels.{Position, back_handle_at, text_handle_at, class_handle_at, superclass_handle_at}
use Rattle.jser_verdict.specs.BytesSoFar.{of_number}

abbrev pub is_handle_position : Position → Bool
is_handle_position back_handle_at = true
is_handle_position text_handle_at = true
is_handle_position (class_handle_at owner) = true
is_handle_position (superclass_handle_at owner strict) = true
is_handle_position _ = false

abbrev pub handle_row : Position → List ℕ → (ℕ → Bool) → Bool
handle_row position bytes test = is_handle_position position && of_number 4 bytes test

-- no entry has this handle
abbrev pub is_no_handle : Entries → ℕ → Bool
is_no_handle table n = nat_lt n BASE_WIRE_HANDLE || nat_le (BASE_WIRE_HANDLE + length table) n

-- the entry with this handle
abbrev pub entry_named : Entries → ℕ → Option TableEntry
entry_named table n = if nat_le BASE_WIRE_HANDLE n then slice_get table (n - BASE_WIRE_HANDLE) else None

abbrev pub is_no_text : Option TableEntry → Bool
is_no_text None = false
is_no_text (Some text_entry) = false
is_no_text (Some other_entry) = true
is_no_text (Some pending_entry) = true
is_no_text (Some (closed_entry chain)) = true

abbrev pub is_no_descriptor : Option TableEntry → Bool
is_no_descriptor None = false
is_no_descriptor (Some text_entry) = true
is_no_descriptor (Some other_entry) = true
is_no_descriptor (Some pending_entry) = false
is_no_descriptor (Some (closed_entry chain)) = false

-- the entry is of another kind than the place wants
abbrev pub is_wrong_kind : Position → Option TableEntry → Bool
is_wrong_kind text_handle_at entry = is_no_text entry
is_wrong_kind (class_handle_at owner) entry = is_no_descriptor entry
is_wrong_kind (superclass_handle_at owner strict) entry = is_no_descriptor entry
is_wrong_kind _ entry = false

-- it is a descriptor whose superclass place has not been read
abbrev pub is_open_descriptor : Position → Option TableEntry → Bool
is_open_descriptor (class_handle_at owner) entry = is_pending entry
is_open_descriptor (superclass_handle_at owner strict) entry = is_pending entry
is_open_descriptor _ entry = false
