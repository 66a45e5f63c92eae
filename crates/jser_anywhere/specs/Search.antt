-- How the first hidden name is looked for: the names at one place.
use Rattle.std.specs.Prelude.{◌≡◌, ◌≤◌, ◌<◌, ℕ, zero, suc, Bool, true, false, ◌+◌, ◌*◌, ◌==◌, ◌&&◌, nat_le, if◌then◌else◌, List, [], ◌∷◌, ◌++◌, length, take, drop, Option, Some, None}
use Rattle.std.specs.Option.{option_map}
use Rattle.jser_anywhere.specs.Texts.{row_units}
use Rattle.jser_anywhere.specs.Names.{core}
use Rattle.jser_anywhere.specs.Standing.{most_bytes, HiddenAt, NotAfter, AllPass, IsFirstHidden}
use Rattle.jser_anywhere.specs.declared.hidden.Hidden.{Hidden}

-- units behind others
abbrev pub behind : List ℕ → Option (List ℕ) → Option (List ℕ)
behind front None = None
behind front (Some units) = Some (front ++ units)

-- the units of the text at the head of the bytes, if one stands there behind which a row goes on
unfoldable pub text_of : List ℕ → Option (List ℕ)
text_of [] = None
text_of (high ∷ []) = None
text_of (high ∷ low ∷ rest) =
    if nat_le 1 (high * 256 + low) && nat_le (high * 256 + low) most_bytes && nat_le (high * 256 + low) (length rest)
    then row_units (take (high * 256 + low) rest) else None

-- the bytes of that text, with its length
abbrev pub text_end : List ℕ → ℕ
text_end [] = 0
text_end (high ∷ []) = 0
text_end (high ∷ low ∷ rest) = 2 + (high * 256 + low)

-- a class is named that does not pass
abbrev pub names_hidden : (List ℕ → Bool) → Option (List ℕ) → Bool
names_hidden passes None = false
names_hidden passes (Some name) = if passes name then false else true

-- where the first name ends that does not pass, of at most so many texts one after another
abbrev pub row_next : (List ℕ → Bool) → ℕ → Option ℕ → Option (List ℕ) → Option ℕ
row_next passes end later None = None
row_next passes end later (Some units) = if names_hidden passes (core units) then Some end else option_map (λ more. end + more) later

abbrev pub row_hidden : (List ℕ → Bool) → ℕ → List ℕ → Option ℕ
row_hidden passes zero bytes = None
row_hidden passes (suc most) bytes =
    row_next passes (text_end bytes) (row_hidden passes most (drop (text_end bytes) bytes)) (text_of bytes)

-- what the search of one text answers: its end, with the units
abbrev pub TellsText : List ℕ → Option ℕ → List ℕ → Type 0
TellsText bytes None units = text_of bytes ≡ None
TellsText bytes (Some end) units = (text_of bytes ≡ Some units) × (end ≡ text_end bytes) × (end ≤ length bytes)

-- where the first of the names of a row with its count ends that does not pass
abbrev pub interfaces_hidden : (List ℕ → Bool) → List ℕ → Option ℕ
interfaces_hidden passes (first ∷ second ∷ high ∷ low ∷ rest) =
    if first == 0 && second == 0 then option_map (λ end. 5 + end) (row_hidden passes (high * 256 + low) rest) else None
interfaces_hidden passes _ = None

-- where the first name at the head of these bytes ends that does not pass
unfoldable pub hidden_here : (List ℕ → Bool) → List ℕ → Option ℕ
hidden_here passes [] = None
hidden_here passes (mark ∷ rest) =
    if mark == 0x72 then option_map (λ end. 1 + end) (row_hidden passes 1 rest)
    else (if mark == 0x7D then interfaces_hidden passes rest else None)

-- of the places before one, the first hidden name, if there is one
abbrev pub FirstBefore : (List ℕ → Bool) → List ℕ → ℕ → Option Hidden → Type 0
FirstBefore passes bytes below None = (from to : ℕ) → from < below → HiddenAt passes bytes from to → ⊥
FirstBefore passes bytes below (Some h) =
    HiddenAt passes bytes h.from h.to × ((from to : ℕ) → from < below → HiddenAt passes bytes from to → NotAfter h.from h.to from to) × (h.from < below)

-- what the search answers
abbrev pub TellsFirst : (List ℕ → Bool) → List ℕ → Option Hidden → Type 0
TellsFirst passes bytes None = AllPass passes bytes
TellsFirst passes bytes (Some h) = IsFirstHidden passes bytes h.from h.to

-- no name that stands here or later ends before the one found
abbrev pub is_settled : Option Hidden → ℕ → Bool
is_settled None from = false
is_settled (Some h) from = nat_le h.to (from + 3)

-- the one found, or another that ends before it
abbrev pub sooner : Option Hidden → Hidden → Option Hidden
sooner None other = Some other
sooner (Some h) other = if nat_le h.to other.to then Some h else Some other
