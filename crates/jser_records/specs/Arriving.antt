-- What came and waits, as contracts see it: the bytes that wait, those that are to come where the source tells them, the byte
-- that is looked for, and whether the source has ended.
use Rattle.std.specs.Prelude.{ℕ, ◌≡◌, ◌≢◌, ◌≤◌, ◌<◌, ◌-◌, Bool, true, List, [], ◌∷◌, ◌++◌, All, length, take, drop, Option, option_map}
use Rattle.std.specs.Io.KnownBytes.{Consumes, IsAtEnd}

pub record Arriving : Type 0 where
  pub waiting : List ℕ
  pub to_come : Option (List ℕ)
  pub sought : ℕ
  pub is_over : Bool

-- how many bytes there is room for
abbrev pub room_size : ℕ
room_size = 131072

-- the bytes of the room from one place to another wait
abbrev pub part_from : List ℕ → (start end : ℕ) → List ℕ
part_from room start end = drop start (take end room)

abbrev pub view_of : Option (List ℕ) → List ℕ → (start end sought : ℕ) → Bool → Arriving
view_of to_come room start end sought is_over = record { waiting = part_from room start end; to_come = to_come; sought = sought; is_over = is_over }

-- none of these bytes is that one
abbrev pub HasNone : ℕ → List ℕ → Type 0
HasNone byte bytes = All (λ b. b ≢ byte) bytes

-- so many bytes come before the first one of this value
pub record IsBefore (byte : ℕ) (bytes : List ℕ) (count : ℕ) : Type 0 where
  pub rest : List ℕ
  pub split : bytes ≡ take count bytes ++ (byte ∷ rest)
  pub none : HasNone byte (take count bytes)
  pub inside : count < length bytes

-- what is true of the room: the first bytes that were searched are not the one that is looked for
pub record Fits (room : List ℕ) (start end sought searched : ℕ) : Type 0 where
  pub size : length room ≡ room_size
  pub ordered : start ≤ end
  pub inside : end ≤ length room
  pub known : searched ≤ end - start
  pub none : HasNone sought (take searched (part_from room start end))

-- what is true of an inbox: of its room, and that no known byte is to come where the source has ended
pub record Holds (to_come : Option (List ℕ)) (room : List ℕ) (start end sought searched : ℕ) (is_over : Bool) : Type 0 where
  pub fits : Fits room start end sought searched
  pub over : is_over ≡ true → IsAtEnd to_come

-- more came behind what waited; or nothing comes any more, or there is no room
pub record ComesMore (old new : Arriving) : Type 0 where
  pub bytes : List ℕ
  pub waits : new.waiting ≡ old.waiting ++ bytes
  pub off : Consumes old.to_come new.to_come bytes
  pub sought : new.sought ≡ old.sought

abbrev pub Stays : Arriving → Arriving → Type 0
Stays old new = (new.waiting ≡ old.waiting) × (new.sought ≡ old.sought)

-- nothing comes any more
pub record HasEnded (old new : Arriving) : Type 0 where
  pub waits : new.waiting ≡ old.waiting
  pub ends : IsAtEnd new.to_come

-- these bytes were taken off what waits and what came behind it
pub record Took (old new : Arriving) (bytes : List ℕ) : Type 0 where
  pub came : List ℕ
  pub split : old.waiting ++ came ≡ bytes ++ new.waiting
  pub off : Consumes old.to_come new.to_come came

-- all that is not taken so far: what waits, and what is to come where the source tells it
abbrev pub ahead : Arriving → Option (List ℕ)
ahead a = option_map (λ xs. a.waiting ++ xs) a.to_come

-- nothing waits, and no known byte is to come
pub record IsOver (a : Arriving) : Type 0 where
  pub none : a.waiting ≡ []
  pub ends : IsAtEnd a.to_come
