-- Where a class name stands.
use Rattle.std.specs.Prelude.{◌≡◌, ℕ, zero, suc, Bool, false, ◌+◌, ◌*◌, ◌≤◌, ◌<◌, ◌⊎◌, List, ◌∷◌, ◌++◌, length, drop, Option, Some}
use Rattle.jser_anywhere.specs.Texts.{row_units}
use Rattle.jser_anywhere.specs.Names.{name_units}

-- the greatest length of a name in bytes: its first byte is at most 23, which no loadable name has
abbrev pub most_bytes : ℕ
most_bytes = 9215

-- At the head of these bytes stands a length of two bytes and a text of that many bytes, which is read as these units. Both
-- together have so many bytes.
pub record BeginsText (reader : List ℕ → Option (List ℕ)) (bytes : List ℕ) (end : ℕ) (units : List ℕ) : Type 0 where
  pub high : ℕ
  pub low : ℕ
  pub text : List ℕ
  pub after : List ℕ
  pub split : bytes ≡ high ∷ low ∷ (text ++ after)
  pub counted : length text ≡ high * 256 + low
  pub least : 1 ≤ length text
  pub most : length text ≤ most_bytes
  pub named : reader text ≡ Some units
  pub ends : end ≡ 2 + length text

-- the loose text of a loadable name of this class
abbrev pub BeginsName : (bytes : List ℕ) → (end : ℕ) → (units : List ℕ) → Type 0
BeginsName bytes end units = BeginsText name_units bytes end units

-- Of texts one after another, of which the first stands at the head of these bytes and is loose and has no byte below 20, a name
-- among the next ones ends after so many bytes.
pub record LaterName (row : List ℕ → ℕ → List ℕ → Type 0) (bytes : List ℕ) (end : ℕ) (units : List ℕ) : Type 0 where
  pub first : ℕ
  pub others : List ℕ
  pub name : BeginsText row_units bytes first others
  pub more : ℕ
  pub later : row (drop first bytes) more units
  pub ends : end ≡ first + more

abbrev pub BeginsRow : ℕ → List ℕ → ℕ → List ℕ → Type 0
BeginsRow zero bytes end units = ⊥
BeginsRow (suc most) bytes end units = BeginsName bytes end units ⊎ LaterName (BeginsRow most) bytes end units

-- At the head of these bytes stands 72 and a name.
pub record BeginsDescriptor (bytes : List ℕ) (end : ℕ) (units : List ℕ) : Type 0 where
  pub rest : List ℕ
  pub split : bytes ≡ 0x72 ∷ rest
  pub name_end : ℕ
  pub name : BeginsName rest name_end units
  pub ends : end ≡ 1 + name_end

-- At the head of these bytes stands 7D, a count of four bytes and a row of at most so many texts.
pub record BeginsInterfaces (bytes : List ℕ) (end : ℕ) (units : List ℕ) : Type 0 where
  pub low : ℕ
  pub high : ℕ
  pub rest : List ℕ
  pub split : bytes ≡ 0x7D ∷ 0 ∷ 0 ∷ high ∷ low ∷ rest
  pub row_end : ℕ
  pub row : BeginsRow (high * 256 + low) rest row_end units
  pub ends : end ≡ 5 + row_end

-- At the head of these bytes stands a name of this class, in one of the two ways, and it has so many bytes from there on.
abbrev pub Begins : List ℕ → ℕ → List ℕ → Type 0
Begins bytes end units = BeginsDescriptor bytes end units ⊎ BeginsInterfaces bytes end units

-- A name of the class with these units stands at a place of the bytes, and ends before another.
pub record StandsAt (bytes : List ℕ) (from to : ℕ) (units : List ℕ) : Type 0 where
  pub end : ℕ
  pub begins : Begins (drop from bytes) end units
  pub ends : to ≡ from + end

-- Such a name, which does not pass.
pub record HiddenAt (passes : List ℕ → Bool) (bytes : List ℕ) (from to : ℕ) : Type 0 where
  pub units : List ℕ
  pub stands : StandsAt bytes from to units
  pub fails : passes units ≡ false

-- it ends before another, or where that ends and stands no later
abbrev pub NotAfter : (from to other_from other_to : ℕ) → Type 0
NotAfter from to other_from other_to = (to < other_to) ⊎ ((to ≡ other_to) × (from ≤ other_from))

-- the first of them: that with the least end, and of those that at the least place
pub record IsFirstHidden (passes : List ℕ → Bool) (bytes : List ℕ) (from to : ℕ) : Type 0 where
  pub hidden : HiddenAt passes bytes from to
  pub first : (other_from other_to : ℕ) → HiddenAt passes bytes other_from other_to → NotAfter from to other_from other_to

-- each name that stands anywhere passes
abbrev pub AllPass : (List ℕ → Bool) → List ℕ → Type 0
AllPass passes bytes = (from to : ℕ) → HiddenAt passes bytes from to → ⊥
