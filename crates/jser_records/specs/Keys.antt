-- The KEY of a record.
use Rattle.std.specs.Prelude.{ℕ, ◌≡◌, ◌⊎◌, ◌≤◌, ◌<◌, ◌+◌, ◌&&◌, Bool, true, false, List, [], ◌∷◌, ◌++◌, length, Option, Some, None}
use Rattle.jser_scan.specs.declared.Found.TheVariants as found
use Rattle.jser_records.specs.declared.answer.Answer.{Answer}
use Rattle.jser_records.specs.declared.answer.Answer.TheVariants as answer
use Rattle.jser_records.specs.declared.key.Key.{Key}
use Rattle.jser_records.specs.LineEnds.{has_line_end}

-- how many bytes a KEY has at most
abbrev pub most_key : ℕ
most_key = 65535

-- how many it has
abbrev pub key_size : Option (List ℕ) → ℕ
key_size None = 0
key_size (Some bytes) = length bytes

-- there is none
pub record HasNoKey (key : Key) : Type 0 where
  pub bytes : key.bytes.items ≡ []
  pub none : key.is_there ≡ false
  pub kept : key.is_lost ≡ false

-- it is too long to be kept
pub record HasLostKey (key : Key) : Type 0 where
  pub lost : key.is_lost ≡ true
  pub none : key.is_there ≡ false

-- it is these bytes, or there is none
abbrev pub IsKey : Key → Option (List ℕ) → Type 0
IsKey key None = HasNoKey key
IsKey key (Some bytes) = (key.is_there ≡ true) × (key.bytes.items ≡ bytes) × (key.is_lost ≡ false)

-- it is this one; or it is lost, where this one is too long
abbrev pub IsKeyOf : Key → Option (List ℕ) → Type 0
IsKeyOf key has = (IsKey key has × (key_size has ≤ most_key)) ⊎ (HasLostKey key × (most_key < key_size has))

-- a KEY of no bytes is none
abbrev pub key_if : List ℕ → Option (List ℕ)
key_if [] = None
key_if (c ∷ bytes) = Some (c ∷ bytes)

-- a reader of lines may end one in it
abbrev pub ends_in : Option (List ℕ) → Bool
ends_in None = false
ends_in (Some bytes) = has_line_end bytes

-- ---- as it is read

-- so it is of a KEY that is kept
abbrev pub ends_lines : Key → Bool
ends_lines key = key.is_there && has_line_end key.bytes.items

-- a KEY with bytes behind it
abbrev pub longer_key : Option (List ℕ) → List ℕ → Option (List ℕ)
longer_key None bytes = Some bytes
longer_key (Some key) bytes = Some (key ++ bytes)

-- these bytes were added, and it is not too long with them
pub record HasAdded (old new : Key) (bytes : List ℕ) : Type 0 where
  pub kept : old.is_lost ≡ false
  pub both : new.bytes.items ≡ old.bytes.items ++ bytes
  pub few : length old.bytes.items ≤ most_key → length new.bytes.items ≤ most_key
  pub there : new.is_there ≡ true
  pub on : new.is_lost ≡ false

-- it is lost, as it was before, or is too long with these bytes
pub record HasNoRoom (old new : Key) (bytes : List ℕ) : Type 0 where
  pub lost : new.is_lost ≡ true
  pub none : new.is_there ≡ false
  pub long : (old.is_lost ≡ true) ⊎ (most_key < length old.bytes.items + length bytes)

-- it is as it was; or none, where there was no memory to print it
abbrev pub KeepsKey : (old new : Key) → Answer → Type 0
KeepsKey old new result = (new ≡ old) ⊎ (HasNoKey new × (result ≡ answer.Checked found.OutOfMemory))
