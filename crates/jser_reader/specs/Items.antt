-- Which item is lent of a token: a tag or a number as a whole, a text as its length and then its bytes, raw bytes as they
-- come.
use Rattle.std.specs.Prelude.{ℕ, ◌≡◌, ◌≤◌, Bool, true, false, List, ◌++◌, length}
use Rattle.jser_reading.specs.Labels.{Position, nowhere, header_at, top_at, annotation_at, value_at, text_place_at, class_place_at, superclass_place_at, back_handle_at, text_handle_at, class_handle_at, superclass_handle_at, string_at, class_name_at, field_name_at, interface_name_at, suid_at, field_count_at, interface_count_at, array_length_at, flags_at, type_code_at, block_length_at, raw_at, bytes_at}
use Rattle.jser_reading.specs.TokensFromBytes.{number_of, head_size}
use Rattle.jser_reader.specs.declared.item.Item.{Item}
use Rattle.jser_reader.specs.declared.item.Item.TheVariants as item

-- the items of a token: none, the header, a number of so many bytes, those of a text, those of raw bytes
pub data Items : Type 0 where
  no_items header_items raw_items : Items
  number_items : (item : ℕ → Item) (size : ℕ) → Items
  text_items : (long : Bool) → Items

abbrev pub items_at : Position → Items
items_at nowhere = no_items
items_at header_at = header_items
-- tags
items_at top_at = number_items item.Tag 1
items_at annotation_at = number_items item.Tag 1
items_at value_at = number_items item.Tag 1
items_at text_place_at = number_items item.Tag 1
items_at (class_place_at owner) = number_items item.Tag 1
items_at (superclass_place_at owner strict) = number_items item.Tag 1
-- handles
items_at back_handle_at = number_items item.Handle 4
items_at text_handle_at = number_items item.Handle 4
items_at (class_handle_at owner) = number_items item.Handle 4
items_at (superclass_handle_at owner strict) = number_items item.Handle 4
-- texts
items_at (string_at long) = text_items long
items_at (class_name_at role) = text_items false
items_at field_name_at = text_items false
items_at interface_name_at = text_items false
-- other numbers
items_at suid_at = number_items item.Suid 8
items_at (flags_at role) = number_items item.Flags 1
items_at field_count_at = number_items item.FieldCount 2
items_at interface_count_at = number_items item.InterfaceCount 4
items_at (type_code_at seen) = number_items item.TypeCode 1
items_at array_length_at = number_items item.ArrayLength 4
items_at (block_length_at false) = number_items item.BlockLength 1
items_at (block_length_at true) = number_items item.BlockLength 4
-- raw values and the bytes of a block
items_at (raw_at c n) = raw_items
items_at (bytes_at n) = raw_items

-- the length of a text, when all its bytes are there; after that, bytes of the text
abbrev pub IsOfText : (long : Bool) → (cut taken : List ℕ) → Item → Type 0
IsOfText long cut taken (item.TextLength n) = (length (cut ++ taken) ≡ head_size long) × (n ≡ number_of (cut ++ taken))
IsOfText long cut taken (item.TextPart part) = (head_size long ≤ length cut) × (part.now ≡ taken)
IsOfText long cut taken _ = ⊥

abbrev pub IsRawPart : (taken : List ℕ) → Item → Type 0
IsRawPart taken (item.RawPart part) = part.now ≡ taken
IsRawPart taken _ = ⊥

-- This item is lent of a token, of which the bytes `cut` were taken before and these now.
abbrev pub IsLent : Items → (cut taken : List ℕ) → Item → Type 0
IsLent no_items cut taken lent = ⊥
IsLent header_items cut taken lent = (length (cut ++ taken) ≡ 4) × (lent ≡ item.Header)
IsLent (number_items kind size) cut taken lent = (length (cut ++ taken) ≡ size) × (lent ≡ kind (number_of (cut ++ taken)))
IsLent (text_items long) cut taken lent = IsOfText long cut taken lent
IsLent raw_items cut taken lent = IsRawPart taken lent

-- how many bytes the first item of a token takes, at least
abbrev pub first_size : Items → ℕ
first_size no_items = 0
first_size header_items = 4
first_size (number_items kind size) = size
first_size (text_items long) = head_size long
first_size raw_items = 1
