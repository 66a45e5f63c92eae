-- A class name in a descriptor, said without a reader.
use Rattle.std.specs.Prelude.{◌≡◌, ◌≤◌, ℕ, ◌+◌, ◌*◌, List, ◌∷◌, ◌++◌, length}
use Rattle.jser_anywhere.specs.LooseText.{IsLooseText}
use Rattle.jser_anywhere.specs.LoadableNames.{HasCore}
use Rattle.jser_anywhere.specs.Standing.{most_bytes}

-- Somewhere in the bytes stands 72, a length of two bytes, and so many bytes of the loose text of a loadable name of this class.
pub record HoldsName (bytes class : List ℕ) : Type 0 where
  pub front : List ℕ
  pub high : ℕ
  pub low : ℕ
  pub text : List ℕ
  pub after : List ℕ
  pub split : bytes ≡ front ++ 0x72 ∷ high ∷ low ∷ (text ++ after)
  pub counted : length text ≡ high * 256 + low
  pub least : 1 ≤ length text
  pub most : length text ≤ most_bytes
  pub units : List ℕ
  pub loose : IsLooseText text units
  pub loadable : HasCore units class

-- Some loose text spells a loadable name of this class.
pub record CanBeAskedFor (class : List ℕ) : Type 0 where
  pub text : List ℕ
  pub units : List ℕ
  pub loose : IsLooseText text units
  pub loadable : HasCore units class
