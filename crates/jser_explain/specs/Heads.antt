-- What is said first of a refusal: a sentence, its bytes and its class. Each function puts its words before what follows.
use Rattle.std.specs.declared.alloc.Global.{Global}
use Rattle.std.specs.Prelude.{ℕ, ◌-◌, min, List, [], ◌∷◌, ◌++◌, codes, take, drop, Option, Some, None, Vec}
use Rattle.std.specs.Fmt.{decimal}
use Rattle.hex.specs.Hex.{encode_lower}
use Rattle.jser_scan.specs.declared.found.Found.{Found}
use Rattle.jser_scan.specs.declared.found.Found.TheVariants as found
use Rattle.jser_explain.specs.declared.token.Spot.{Spot}
use Rattle.jser_explain.specs.Short.{short_name}

-- the place of what was found, where it is a refusal
abbrev pub token_of : Found → Option Spot
token_of (found.Refused refusal class) = Some (record { from = refusal.from_byte; to = refusal.to_byte })
token_of (found.Hidden from to class) = Some (record { from = from; to = to })
token_of (found.Accepted totals) = None
token_of found.NotOpened = None
token_of (found.NotRead fault) = None
token_of found.OutOfMemory = None

-- the class name that the filter refused
abbrev pub units_of : Option (Vec ℕ Global) → Option (List ℕ)
units_of None = None
units_of (Some units) = Some units.items

abbrev pub class_in : Found → Option (List ℕ)
class_in (found.Refused refusal class) = units_of class
class_in (found.Hidden from to class) = units_of class
class_in (found.Accepted totals) = None
class_in found.NotOpened = None
class_in (found.NotRead fault) = None
class_in found.OutOfMemory = None

-- the bytes of a place, at most 32 of them
abbrev pub first_bytes : List ℕ → Spot → List ℕ
first_bytes bytes spot = take (min 32 (spot.to - spot.from)) (drop spot.from bytes)

abbrev pub digits_end : List ℕ → List ℕ → List ℕ
digits_end bytes k = codes ": " ++ (encode_lower bytes ++ (codes "\n" ++ k))

abbrev pub hex_end : List ℕ → List ℕ → List ℕ
hex_end [] k = codes ":\n" ++ k
hex_end (b ∷ bs) k = digits_end (b ∷ bs) k

-- bytes A to E: and the first of them
abbrev pub token_line : Spot → List ℕ → List ℕ → List ℕ
token_line spot shown k = codes "  bytes " ++ (decimal spot.from ++ (codes " to " ++ (decimal spot.to ++ hex_end shown k)))

-- class NAME, where it is known
abbrev pub known_class_line : List ℕ → List ℕ → List ℕ
known_class_line units k = codes "  class " ++ short_name units (codes "\n" ++ k)

abbrev pub class_line : Option (List ℕ) → List ℕ → List ℕ
class_line None k = k
class_line (Some units) k = known_class_line units k

abbrev pub sentence_line : (sentence : List ℕ) → List ℕ → List ℕ
sentence_line sentence k = codes "  " ++ (sentence ++ (codes "\n" ++ k))

-- a sentence, the bytes, and the class
abbrev pub head_words : (sentence bytes : List ℕ) → Spot → Option (List ℕ) → List ℕ → List ℕ
head_words sentence bytes spot class k =
    sentence_line sentence (token_line spot (first_bytes bytes spot) (class_line class k))
