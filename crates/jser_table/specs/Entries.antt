-- The table of handles of one epoch: a list of entries in the order of their handles (Java Object
-- Serialization Specification, section 6.2, newHandle).
use Rattle.std.specs.Prelude.{ℕ, Bool, true, false, List, [], Option, Some, None, slice_get}
use Rattle.jser_table.specs.declared.layer.Layer.{Layer}

-- A string; a class object, object, array or enum constant; a descriptor whose superclass place has not
-- been read; a descriptor that has its chain.
pub data TableEntry : Type 0 where
  text_entry other_entry pending_entry : TableEntry
  closed_entry : List Layer → TableEntry

abbrev pub is_text : Option TableEntry → Bool
is_text None = false
is_text (Some text_entry) = true
is_text (Some other_entry) = false
is_text (Some pending_entry) = false
is_text (Some (closed_entry chain)) = false

abbrev pub is_pending : Option TableEntry → Bool
is_pending None = false
is_pending (Some text_entry) = false
is_pending (Some other_entry) = false
is_pending (Some pending_entry) = true
is_pending (Some (closed_entry chain)) = false

abbrev pub is_closed : Option TableEntry → Bool
is_closed None = false
is_closed (Some text_entry) = false
is_closed (Some other_entry) = false
is_closed (Some pending_entry) = false
is_closed (Some (closed_entry chain)) = true

-- the chain of a closed entry
abbrev pub chain_of : Option TableEntry → List Layer
chain_of None = []
chain_of (Some text_entry) = []
chain_of (Some other_entry) = []
chain_of (Some pending_entry) = []
chain_of (Some (closed_entry chain)) = chain

-- the chain of the entry with this number
abbrev pub chain_at : List TableEntry → ℕ → List Layer
chain_at table number = chain_of (slice_get table number)
