-- What an operator's settings come to.
use Rattle.std.specs.Prelude.{ℕ, Bool, false, List, min, Option, Some, None}
use Rattle.std.specs.Str.{bytes_eq}

-- the lesser of a number and a limit, if there is one
abbrev pub least : ℕ → Option ℕ → ℕ
least own None = own
least own (Some limit) = min own limit

-- the module that was found is this one
abbrev pub is_module : List ℕ → Option (List ℕ) → Bool
is_module wanted None = false
is_module wanted (Some found) = bytes_eq found wanted
