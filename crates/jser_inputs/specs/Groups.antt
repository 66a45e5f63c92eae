-- A whole group of base64.
use Rattle.std.specs.Prelude.{ℕ, ◌≡◌, ◌+◌, ◌≤◌, List, get_or, length, take, drop}
use Rattle.jser_inputs.specs.Spelled.{Reads}
use Rattle.jser_inputs.specs.declared.spot.Spot.{Spot}
use Rattle.jser_inputs.specs.declared.spot.Move.TheVariants as move
use Rattle.jser_inputs.specs.Places.{Fits, move_of}

-- three bytes, and where a text is behind them
pub record Group : Type 0 where
  pub first : ℕ
  pub second : ℕ
  pub third : ℕ
  pub next : Spot

-- Of four characters the first completes no byte, and each of the others completes one.
pub record IsGroup (at : Spot) (one two three four : ℕ) (group : Group) : Type 0 where
  pub second_at : Spot
  pub third_at : Spot
  pub fourth_at : Spot
  pub goes : move.Goes second_at ≡ move_of at one
  pub first : move.Gives group.first third_at ≡ move_of second_at two
  pub second : move.Gives group.second fourth_at ≡ move_of third_at three
  pub third : move.Gives group.third group.next ≡ move_of fourth_at four
  pub fits : Fits group.next.place
  pub few : group.next.spare ≤ at.spare + 3

-- four characters of a text, of which so many count
pub record IsGroupAt (spot : Spot) (text : List ℕ) (at count : ℕ) (group : Group) : Type 0 where
  pub inside : at + 4 ≤ count
  pub is : IsGroup spot (get_or text at 0) (get_or text (at + 1) 0) (get_or text (at + 2) 0) (get_or text (at + 3) 0) group

-- what a text in its room keeps, from which so many characters were taken and into which so many bytes were given
pub record Turned (start now : Spot) (old buf : List ℕ) (count taken given : ℕ) : Type 0 where
  pub reads : Reads start now (take count old) (drop taken (take count old)) (take given buf) taken
  pub left : drop taken buf ≡ drop taken old
  pub size : length buf ≡ length old

-- more of it was taken
abbrev pub TurnsOn : (from now : Spot) (old new : List ℕ) (count from_taken from_given taken given : ℕ) → Type 0
TurnsOn from now old new count from_taken from_given taken given =
    (start : Spot) (text : List ℕ) → count ≤ length text → Turned start from text old count from_taken from_given → Turned start now text new count taken given
