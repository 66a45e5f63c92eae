-- What the bytes of a text so far say: its length, which of its bytes cannot stand where they stand, and its units
-- when they are all there. Modified UTF-8 spells a unit from 0001 to 007F in one byte, 0000 as C0 80, 0080 to 07FF in
-- two bytes and 0800 to FFFF in three (java.io.DataInput); only these spellings are accepted. So it is known of each
-- byte whether it may stand there, by the byte before it and the number of bytes that are left.
use Rattle.std.specs.Prelude.{ℕ, zero, suc, ◌+◌, ◌&&◌, ◌||◌, not, Bool, true, false, nat_lt, nat_le, nat_eq, List, [], ◌∷◌, length, take, drop}
use Rattle.jser_reading.specs.TokensFromBytes.{number_of, units_in, head_size}

-- where in a unit the next byte stands
pub data Spot : Type 0 where
  unit_start second_after_c0 second_after_e0 second_of_three last_of_unit : Spot

abbrev pub is_tail : ℕ → Bool
is_tail b = nat_le 0x80 b && nat_lt b 0xC0

-- this byte may stand there, where so many bytes are left in the text, it included
abbrev pub may_stand : (left : ℕ) → Spot → ℕ → Bool
may_stand left unit_start b =
    (nat_le 1 b && nat_lt b 0x80)
    || ((nat_le 2 left && (nat_eq b 0xC0 || (nat_le 0xC2 b && nat_lt b 0xE0)))
    || (nat_le 3 left && (nat_le 0xE0 b && nat_lt b 0xF0)))
may_stand left second_after_c0 b = nat_eq b 0x80
may_stand left second_after_e0 b = nat_le 0xA0 b && nat_lt b 0xC0
may_stand left second_of_three b = is_tail b
may_stand left last_of_unit b = is_tail b

-- where the byte after the first one of a unit stands
abbrev pub after_start : (is_one is_c0 is_two is_e0 : Bool) → Spot
after_start true is_c0 is_two is_e0 = unit_start
after_start false true is_two is_e0 = second_after_c0
after_start false false true is_e0 = last_of_unit
after_start false false false true = second_after_e0
after_start false false false false = second_of_three

abbrev pub spot_after : Spot → ℕ → Spot
spot_after unit_start b = after_start (nat_lt b 0x80) (nat_eq b 0xC0) (nat_lt b 0xE0) (nat_eq b 0xE0)
spot_after second_after_c0 b = unit_start
spot_after second_after_e0 b = last_of_unit
spot_after second_of_three b = last_of_unit
spot_after last_of_unit b = unit_start

abbrev pub less_one : ℕ → ℕ
less_one zero = zero
less_one (suc n) = n

-- each byte may stand where it stands, in a text of which so many bytes are left
abbrev pub all_stand : (left : ℕ) → Spot → List ℕ → Bool
all_stand left spot [] = true
all_stand left spot (b ∷ bytes) = may_stand left spot b && all_stand (less_one left) (spot_after spot b) bytes

-- the length in front of a text is there; what it is; and the bytes after it
abbrev pub has_head : (long : Bool) → List ℕ → Bool
has_head long bytes = nat_le (head_size long) (length bytes)

abbrev pub text_length : (long : Bool) → List ℕ → ℕ
text_length long bytes = number_of (take (head_size long) bytes)

abbrev pub text_bytes : (long : Bool) → List ℕ → List ℕ
text_bytes long bytes = drop (head_size long) bytes

-- one of its bytes cannot stand where it stands
abbrev pub has_wrong_byte : (long : Bool) → List ℕ → Bool
has_wrong_byte long bytes = has_head long bytes && not (all_stand (text_length long bytes) unit_start (text_bytes long bytes))

-- the text is whole; its units; and a test of them
abbrev pub is_whole_text : (long : Bool) → List ℕ → Bool
is_whole_text long bytes = has_head long bytes && nat_eq (length bytes) (head_size long + text_length long bytes)

abbrev pub text_units : (long : Bool) → List ℕ → List ℕ
text_units long bytes = units_in (length bytes) (text_bytes long bytes)

abbrev pub of_text : (long : Bool) → List ℕ → (List ℕ → Bool) → Bool
of_text long bytes test = is_whole_text long bytes && test (text_units long bytes)
