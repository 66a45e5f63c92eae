-- Which tokens take no memory, and where in a token memory may run out.
use Rattle.std.specs.Prelude.{ℕ, ◌≡◌, ◌<◌, ◌⊎◌, List, length}
use Rattle.jser_reading.specs.Labels.{Position, string_at, class_name_at, field_name_at, interface_name_at, raw_at, bytes_at}
use Rattle.jser_reading.specs.TokensFromBytes.{size_in}

-- the name of a class or of an interface, of which the units are kept until it is judged
abbrev pub IsCheckedName : Position → Type 0
IsCheckedName (class_name_at role) = Unit {0}
IsCheckedName interface_name_at = Unit {0}
IsCheckedName _ = ⊥

-- raw values, the bytes of a block, and a text that is no checked name: nothing of them is kept
abbrev pub IsForgotten : Position → Type 0
IsForgotten (raw_at c n) = Unit {0}
IsForgotten (bytes_at n) = Unit {0}
IsForgotten (string_at long) = Unit {0}
IsForgotten field_name_at = Unit {0}
IsForgotten _ = ⊥

-- the token needs more bytes than these
abbrev pub EndsInside : Position → (bytes : List ℕ) → Type 0
EndsInside position bytes = length bytes < size_in position bytes

-- After these bytes of a token memory may run out: those of a checked name, and all of another token that is not forgotten.
abbrev pub MayRunOut : Position → (bytes : List ℕ) → Type 0
MayRunOut position bytes = IsCheckedName position ⊎ ((IsForgotten position → ⊥) × (size_in position bytes ≡ length bytes))
