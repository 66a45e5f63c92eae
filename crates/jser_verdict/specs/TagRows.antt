-- Which tag may stand where (Java Object Serialization Specification, section 6.4.1): for each position of a tag the
-- bytes that are accepted there, those that are refused by a reason of their own, and, of the rest, that they are no
-- tag of that position.
use Rattle.std.specs.Prelude.{ℕ, ◌&&◌, ◌||◌, Bool, true, false, nat_le, nat_eq, List, Option, Some, None}
use Rattle.jser_grammar.specs.Wire.{TC_NULL, TC_REFERENCE, TC_CLASSDESC, TC_STRING, TC_CLASS, TC_BLOCKDATA, TC_ENDBLOCKDATA, TC_RESET, TC_BLOCKDATALONG, TC_EXCEPTION, TC_LONGSTRING, TC_PROXYCLASSDESC, TC_ENUM}
use Rattle.jser_reading.specs.Roles.{Owner, object_owner, array_owner, enum_owner, class_owner}
use Rattle.jser_reading.specs.Labels.{StreamToken, Position, top_at, annotation_at, value_at, class_place_at, superclass_place_at, text_place_at}
use Rattle.jser_reading.specs.TokensFromBytes.{tag_from}
use Rattle.jser_reading.specs.GateLimits.{begins_place, assigns_handle}
use Rattle.jser_verdict.specs.BytesSoFar.{of_byte}

-- the positions at which a tag is read, and a test of the tag that stands there
abbrev pub is_tag_position : Position → Bool
is_tag_position top_at = true
is_tag_position annotation_at = true
is_tag_position value_at = true
is_tag_position text_place_at = true
is_tag_position (class_place_at owner) = true
is_tag_position (superclass_place_at owner strict) = true
is_tag_position _ = false

abbrev pub tag_row : Position → List ℕ → (ℕ → Bool) → Bool
tag_row position bytes test = is_tag_position position && of_byte bytes test

-- TC_NULL to TC_CLASS, and TC_LONGSTRING to TC_ENUM
abbrev pub is_value_tag : ℕ → Bool
is_value_tag tag = (nat_le TC_NULL tag && nat_le tag TC_CLASS) || (nat_le TC_LONGSTRING tag && nat_le tag TC_ENUM)

-- TC_BLOCKDATA, TC_BLOCKDATALONG
abbrev pub is_block_tag : ℕ → Bool
is_block_tag tag = nat_eq tag TC_BLOCKDATA || nat_eq tag TC_BLOCKDATALONG

-- TC_REFERENCE, TC_CLASSDESC, TC_PROXYCLASSDESC
abbrev pub is_class_tag : ℕ → Bool
is_class_tag tag = nat_eq tag TC_REFERENCE || nat_eq tag TC_CLASSDESC || nat_eq tag TC_PROXYCLASSDESC

-- It is accepted at the position, or refused there by a reason of its own; any other byte is BadTag. Here 70 is
-- TC_NULL, 78 TC_ENDBLOCKDATA, 79 TC_RESET, 7B TC_EXCEPTION.
abbrev pub is_known_tag : Position → ℕ → Bool
is_known_tag top_at tag = is_value_tag tag || is_block_tag tag || nat_eq tag TC_RESET || nat_eq tag TC_EXCEPTION
is_known_tag annotation_at tag =
    is_value_tag tag || is_block_tag tag || nat_eq tag TC_ENDBLOCKDATA || nat_eq tag TC_RESET || nat_eq tag TC_EXCEPTION
is_known_tag value_at tag = is_value_tag tag || nat_eq tag TC_RESET || nat_eq tag TC_EXCEPTION
is_known_tag (class_place_at owner) tag = is_class_tag tag || nat_eq tag TC_NULL
is_known_tag (superclass_place_at owner strict) tag = is_class_tag tag || nat_eq tag TC_NULL
is_known_tag text_place_at tag = nat_eq tag TC_REFERENCE || nat_eq tag TC_STRING || nat_eq tag TC_LONGSTRING
is_known_tag _ tag = true

abbrev pub is_exception : Position → ℕ → Bool
is_exception top_at tag = nat_eq tag TC_EXCEPTION
is_exception annotation_at tag = nat_eq tag TC_EXCEPTION
is_exception value_at tag = nat_eq tag TC_EXCEPTION
is_exception _ tag = false

abbrev pub is_reset_inside : Position → ℕ → Bool
is_reset_inside annotation_at tag = nat_eq tag TC_RESET
is_reset_inside value_at tag = nat_eq tag TC_RESET
is_reset_inside _ tag = false

-- TC_NULL in a class place that is no superclass place
abbrev pub is_null_class : Position → ℕ → Bool
is_null_class (class_place_at owner) tag = nat_eq tag TC_NULL
is_null_class _ tag = false

-- the tag of a new proxy descriptor, as the class of an array or an enum constant
abbrev pub is_wrong_proxy : Owner → ℕ → Bool
is_wrong_proxy object_owner tag = false
is_wrong_proxy array_owner tag = nat_eq tag TC_PROXYCLASSDESC
is_wrong_proxy enum_owner tag = nat_eq tag TC_PROXYCLASSDESC
is_wrong_proxy class_owner tag = false

-- the tag begins a place; at its end a handle is assigned
abbrev pub of_tag : Option StreamToken → (StreamToken → Bool) → Bool
of_tag None test = false
of_tag (Some token) test = test token

abbrev pub is_place_tag : Position → ℕ → Bool
is_place_tag position tag = of_tag (tag_from tag) (begins_place position)

abbrev pub is_handle_tag : Position → ℕ → Bool
is_handle_tag position tag = of_tag (tag_from tag) (assigns_handle position)
