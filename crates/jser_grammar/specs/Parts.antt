-- What may stand in the parts of a tree: texts, names, flags, references, fields, raw values and blocks
-- (Java Object Serialization Specification, sections 6.2 and 6.4).
use Rattle.std.specs.Prelude.{ℕ, ◌+◌, ◌^◌, ◌<◌, ◌≡◌, Bool, true, false, ◌&&◌, ◌||◌, IsTrue, IsFalse, nat_lt, List, [], ◌∷◌, length, slice_get, Option, Some, None, is_some}
use Rattle.std.specs.List.{list_all}
use Rattle.jser_prim.specs.ModifiedUtf8.{modified_utf8, IsUnits}
use Rattle.jser_table.specs.Chains.{is_serializable, is_externalizable}
pub use Rattle.jser_table.specs.Chains.{elements_of_body, elements_of_kind, elements_of_layer, elements_of, is_external_layer, is_external}
use Rattle.jser_table.specs.Entries.{is_text, is_closed}
use Rattle.jser_table.specs.Names.{NameKind, plain_name, array_name, malformed_name, name_kind}
use Rattle.jser_grammar.specs.Codes.{PrimCode, size_of, prim_code_of, is_object_code}
use Rattle.jser_grammar.specs.Trees.{TextPlaceTree, new_text, back_text, FieldTree, PrimTree}
use Rattle.jser_grammar.specs.TableAfter.{Entries, after_type}
use Rattle.jser_grammar.specs.Wire.{BASE_WIRE_HANDLE}

-- the modified UTF-8 of a text has a length of 2 bytes, or of 8 bytes and below 2 ^ 63
abbrev pub text_bound : Bool → ℕ
text_bound false = 2 ^ 16
text_bound true = 2 ^ 63

abbrev pub IsText : Bool → List ℕ → Type 0
IsText long units = IsUnits units × (length (modified_utf8 units) < text_bound long)

-- the name of a class or an interface: none that begins with `[` and is no array name
abbrev pub is_malformed : NameKind → Bool
is_malformed plain_name = false
is_malformed (array_name elements) = false
is_malformed malformed_name = true

abbrev pub IsClassName : List ℕ → Type 0
IsClassName name = IsText false name × IsFalse (is_malformed (name_kind name))

abbrev pub AreClassNames : List (List ℕ) → Type 0
AreClassNames [] = Unit {0}
AreClassNames (name ∷ names) = IsClassName name × AreClassNames names

-- no bit of E0, and not SC_SERIALIZABLE together with SC_EXTERNALIZABLE
abbrev pub IsFlags : ℕ → Type 0
IsFlags flags = (flags < 32) × IsFalse (is_serializable flags && is_externalizable flags)

-- the handle has four bytes
abbrev pub IsHandle : ℕ → Type 0
IsHandle n = BASE_WIRE_HANDLE + n < 2 ^ 32

-- a reference in a value place names any handle before it
abbrev pub IsBack : Entries → ℕ → Type 0
IsBack T n = (n < length T) × IsHandle n

-- in a text place it names a string
abbrev pub IsBackToText : Entries → ℕ → Type 0
IsBackToText T n = IsTrue (is_text (slice_get T n)) × IsHandle n

-- in a class place it names a descriptor whose superclass place has been read
abbrev pub IsBackToClass : Entries → ℕ → Type 0
IsBackToClass T n = IsTrue (is_closed (slice_get T n)) × IsHandle n

abbrev pub WellFormedText : Entries → TextPlaceTree → Type 0
WellFormedText T (new_text t) = IsText t.long t.units
WellFormedText T (back_text n) = IsBackToText T n

-- A field without a type text has a primitive code and no object field before it; one with a type text has
-- the code `[` or `L`. `seen` tells of an object field before it.
abbrev pub WellFormedType : Entries → Bool → ℕ → Option TextPlaceTree → Type 0
WellFormedType T seen code None = IsTrue (is_some (prim_code_of code)) × IsFalse seen
WellFormedType T seen code (Some t) = IsTrue (is_object_code code) × WellFormedText T t

abbrev pub WellFormedFields : Entries → Bool → List FieldTree → Type 0
WellFormedFields T seen [] = Unit {0}
WellFormedFields T seen (f ∷ fs) =
    IsText false f.name × WellFormedType T seen f.code f.text
    × WellFormedFields (after_type T f.text) (seen || is_object_code f.code) fs

-- a raw value of this type
abbrev pub IsPrimOf : PrimCode → PrimTree → Type 0
IsPrimOf c p = (p.code ≡ c) × (p.bits < 256 ^ size_of c)

-- raw values of this type
abbrev pub ArePrimsOf : PrimCode → List PrimTree → Type 0
ArePrimsOf c [] = Unit {0}
ArePrimsOf c (p ∷ ps) = IsPrimOf c p × ArePrimsOf c ps

-- one raw value for each code, in order
abbrev pub ArePrims : List PrimCode → List PrimTree → Type 0
ArePrims [] [] = Unit {0}
ArePrims [] (p ∷ ps) = ⊥
ArePrims (c ∷ cs) [] = ⊥
ArePrims (c ∷ cs) (p ∷ ps) = IsPrimOf c p × ArePrims cs ps

-- these numbers are bytes
abbrev pub IsBytes : List ℕ → Type 0
IsBytes bytes = IsTrue (list_all (λ b. nat_lt b 0x100) bytes)

-- the size of block data in 1 byte, or in 4 bytes with the highest bit 0
abbrev pub block_bound : Bool → ℕ
block_bound false = 2 ^ 8
block_bound true = 2 ^ 31

abbrev pub IsBlock : Bool → List ℕ → Type 0
IsBlock long bytes = IsBytes bytes × (length bytes < block_bound long)
