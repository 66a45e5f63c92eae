-- Type codes, the first byte of a field in a class descriptor (Java Object Serialization Specification,
-- section 6.4.1: prim_typecode and obj_typecode). The eight letters of primitive types stand for raw
-- values of a size in bytes, `[` and `L` for a value.
use Rattle.std.specs.Prelude.{ℕ, suc, ◌+◌, ◌<◌, ◌≤◌, ◌==◌, ◌||◌, Bool, IsTrue, if◌then◌else◌, List, [], ◌∷◌, length, slice_index_or, Option, Some, None, is_some}

-- B, C, D, F, I, J, S, Z
pub data PrimCode : Type 0 where
  byte_code char_code double_code float_code int_code long_code short_code boolean_code : PrimCode

abbrev pub letter_of : PrimCode → ℕ
letter_of byte_code = 0x42
letter_of char_code = 0x43
letter_of double_code = 0x44
letter_of float_code = 0x46
letter_of int_code = 0x49
letter_of long_code = 0x4A
letter_of short_code = 0x53
letter_of boolean_code = 0x5A

-- how many bytes a raw value has
abbrev pub size_of : PrimCode → ℕ
size_of byte_code = 1
size_of char_code = 2
size_of double_code = 8
size_of float_code = 4
size_of int_code = 4
size_of long_code = 8
size_of short_code = 2
size_of boolean_code = 1

-- the primitive type with this letter, if it is one
abbrev pub prim_code_of : ℕ → Option PrimCode
prim_code_of c =
    if c == 0x42 then Some byte_code
    else (if c == 0x43 then Some char_code
    else (if c == 0x44 then Some double_code
    else (if c == 0x46 then Some float_code
    else (if c == 0x49 then Some int_code
    else (if c == 0x4A then Some long_code
    else (if c == 0x53 then Some short_code
    else (if c == 0x5A then Some boolean_code
    else None)))))))

-- `[` or `L`
abbrev pub is_object_code : ℕ → Bool
is_object_code c = c == 0x5B || c == 0x4C

-- the primitive codes among the type codes of a class, in their order
abbrev pub with_code : Option PrimCode → List PrimCode → List PrimCode
with_code None codes = codes
with_code (Some c) codes = c ∷ codes

abbrev pub primitive_codes : List ℕ → List PrimCode
primitive_codes [] = []
primitive_codes (c ∷ codes) = with_code (prim_code_of c) (primitive_codes codes)

-- how many of the type codes of a class stand for a value
abbrev pub one_more_value : Option PrimCode → ℕ → ℕ
one_more_value None n = suc n
one_more_value (Some c) n = n

abbrev pub object_count : List ℕ → ℕ
object_count [] = 0
object_count (c ∷ codes) = one_more_value (prim_code_of c) (object_count codes)

-- how many bytes the raw values of a class have together
abbrev pub raw_size : List PrimCode → ℕ
raw_size [] = 0
raw_size (c ∷ codes) = size_of c + raw_size codes

-- so many codes at the beginning are those of primitive types
pub record AreLeading (codes : List ℕ) (leading : ℕ) : Type 0 where
  pub inside : leading ≤ length codes
  pub each : (k : ℕ) → k < leading → IsTrue (is_some (prim_code_of (slice_index_or codes k 0)))
