-- The words of the text of show, as bytes (ASCII). Each function puts its word before `rest`, what follows.
use Rattle.std.specs.Prelude.{ℕ, zero, suc, ◌+◌, ◌&&◌, ◌==◌, nat_le, Bool, true, false, if◌then◌else◌, List, [], ◌∷◌, ◌++◌, codes}
use Rattle.std.specs.List.{flat_map}
use Rattle.std.specs.Fmt.{decimal}
use Rattle.hex.specs.Hex.{encode_lower}
use Rattle.jser_prim.specs.Bytes.{big_bytes}
use Rattle.jser_grammar.specs.Wire.{BASE_WIRE_HANDLE}

-- the end of a line
abbrev pub end_line : List ℕ → List ℕ
end_line rest = 0x0A ∷ rest

-- the beginning of a line of level L: 2L spaces
abbrev pub begin_line : ℕ → List ℕ → List ℕ
begin_line zero rest = rest
begin_line (suc L) rest = 0x20 ∷ 0x20 ∷ begin_line L rest

-- a text without the zeros at its beginning
abbrev pub without_zeros : List ℕ → List ℕ
without_zeros [] = []
without_zeros (c ∷ cs) = if c == 0x30 then without_zeros cs else c ∷ cs

-- An epoch as it is shown: its number, and whether raw values are followed by what they mean.
pub record Epoch : Type 0 where
  pub number : ℕ
  pub values : Bool

-- the first epoch
abbrev pub first_epoch : (values : Bool) → Epoch
first_epoch values = record { number = 0; values = values }

-- the epoch after it
abbrev pub next_epoch : Epoch → Epoch
next_epoch e = record { number = suc e.number; values = e.values }

-- a mark: `#`, the epoch, `.`, the four bytes of the handle in hexadecimal without zeros at the beginning
abbrev pub mark : ℕ → ℕ → List ℕ → List ℕ
mark epoch n rest =
    0x23 ∷ (decimal epoch ++ (0x2E ∷ (without_zeros (encode_lower (big_bytes 4 (BASE_WIRE_HANDLE + n))) ++ rest)))

-- a unit in a quoted text
abbrev pub quoted_unit : ℕ → List ℕ
quoted_unit u =
    if u == 0x22 then 0x5C ∷ 0x22 ∷ []
    else (if u == 0x5C then 0x5C ∷ 0x5C ∷ []
    else (if nat_le 0x20 u && nat_le u 0x7E then u ∷ []
    else 0x5C ∷ 0x75 ∷ encode_lower (big_bytes 2 u)))

-- a quoted text
abbrev pub quoted : List ℕ → List ℕ → List ℕ
quoted units rest = 0x22 ∷ (flat_map quoted_unit units ++ (0x22 ∷ rest))

-- the bytes of a block in hexadecimal
abbrev pub block_bytes : List ℕ → List ℕ → List ℕ
block_bytes [] rest = end_line rest
block_bytes (b ∷ bytes) rest = 0x20 ∷ (encode_lower (b ∷ bytes) ++ end_line rest)

abbrev pub block_word : Bool → List ℕ → List ℕ
block_word false rest = codes "block " ++ rest
block_word true rest = codes "longblock " ++ rest

abbrev pub text_word : Bool → List ℕ → List ℕ
text_word false rest = codes "text " ++ rest
text_word true rest = codes "longtext " ++ rest
