-- The last bytes of a stream, as contracts see them, and parts of a stream's bytes.
use Rattle.std.specs.Prelude.{◌≡◌, ◌<◌, ◌+◌, ◌^◌, ℕ, List, ◌++◌, length}

-- the bytes that are kept, and how many the stream has had
pub record LastSeen : Type 0 where
  pub kept : List ℕ
  pub end : ℕ

-- Of these bytes the last ones are kept. They are counted as far as a counter of 64 bits goes.
pub record AreLast (last : LastSeen) (bytes : List ℕ) : Type 0 where
  pub lost : List ℕ
  pub split : bytes ≡ lost ++ last.kept
  pub counted : length bytes < 2 ^ 64 → last.end ≡ length bytes

-- the first bytes of a stream were seen, and the last of these are kept
pub record KeepsEndOfFront (last : LastSeen) (bytes : List ℕ) : Type 0 where
  pub front : List ℕ
  pub rest : List ℕ
  pub split : bytes ≡ front ++ rest
  pub few : length front < 2 ^ 64
  pub ends : AreLast last front

-- these bytes stand in others from one place to another
pub record StandsBetween (bytes : List ℕ) (start end : ℕ) (part : List ℕ) : Type 0 where
  pub before : List ℕ
  pub after : List ℕ
  pub split : bytes ≡ before ++ (part ++ after)
  pub begins : length before ≡ start
  pub ends : start + length part ≡ end

-- the first bytes that were kept are kept no more
pub record LetsGo (old new : LastSeen) : Type 0 where
  pub gone : List ℕ
  pub split : old.kept ≡ gone ++ new.kept
  pub same : new.end ≡ old.end
