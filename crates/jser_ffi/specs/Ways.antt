-- How a filter is asked, as the flags of a call say it: 1 is strict, 2 is anywhere, 4 wants a pattern, and there is no other.
use Rattle.std.specs.Prelude.{ℕ, ◌==◌, nat_le, bit_and, Bool, if◌then◌else◌, Option, Some, None}
use Rattle.jser_ffi.specs.declared.way.Way.{Way}

abbrev pub needs_pattern : ℕ → Bool
needs_pattern flags = bit_and flags 4 == 4

abbrev pub way_of : ℕ → Option Way
way_of flags =
    if nat_le flags 7 then Some (record {
      options = record { strict = bit_and flags 1 == 1 };
      anywhere = bit_and flags 2 == 2;
      needs_pattern = needs_pattern flags;
    }) else None
