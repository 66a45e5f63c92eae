-- What the bytes of a token so far say, where it is a tag or a number: nothing, until they are as many as it has.
use Rattle.std.specs.Prelude.{ℕ, ◌&&◌, ◌||◌, not, Bool, false, nat_eq, List, [], ◌∷◌, length}
use Rattle.jser_reading.specs.TokensFromBytes.{number_of}

-- of one byte
abbrev pub of_byte : List ℕ → (ℕ → Bool) → Bool
of_byte [] test = false
of_byte (b ∷ []) test = test b
of_byte (b ∷ c ∷ bytes) test = false

-- of the number in exactly so many bytes
abbrev pub of_number : (size : ℕ) → List ℕ → (ℕ → Bool) → Bool
of_number size bytes test = nat_eq (length bytes) size && test (number_of bytes)

-- a byte differs from those that are wanted
abbrev pub differs : (wanted bytes : List ℕ) → Bool
differs [] bytes = false
differs (x ∷ wanted) [] = false
differs (x ∷ wanted) (b ∷ bytes) = not (nat_eq b x) || differs wanted bytes
