-- Which bytes a text spells.
use Rattle.std.specs.Prelude.{ℕ, zero, suc, ◌+◌, ◌≡◌, ◌≤◌, List, [], ◌∷◌, length, drop, Option, None, Some}
use Rattle.jser_find.specs.declared.spot.Spot.{Spot}
use Rattle.jser_find.specs.declared.spot.Step.{Step}
use Rattle.jser_find.specs.declared.spot.Step.TheVariants as step
use Rattle.jser_find.specs.declared.spelled.Given.{Given}
use Rattle.jser_find.specs.declared.spelled.Reading.{Reading}
use Rattle.jser_find.specs.declared.group.Group.{Group}
use Rattle.jser_find.specs.Spots.{Fits, step_of}

-- what a character gives, and then what comes behind it
abbrev pub follows : Step → (Spot → List ℕ) → List ℕ
follows (step.Goes spot) rest = rest spot
follows (step.Gives byte spot) rest = byte ∷ rest spot
follows step.Ends rest = []

-- what a text spells from a spot on, up to the end of its digits
unfoldable pub spelled : Spot → List ℕ → List ℕ
spelled spot [] = []
spelled spot (c ∷ text) = follows (step_of spot c) (λ next. spelled next text)

-- what a character counts, and then what those behind it do, where it completes no byte and where it does
abbrev pub counted : Step → (goes gives : Spot → ℕ) → ℕ
counted (step.Goes spot) goes gives = suc (goes spot)
counted (step.Gives byte spot) goes gives = suc (gives spot)
counted step.Ends goes gives = 0

-- how many characters spell the first n bytes, up to the digit that completes the last of them
unfoldable pub until : Spot → List ℕ → ℕ → ℕ
until spot [] n = 0
until spot (c ∷ text) zero = 0
until spot (c ∷ text) (suc n) = counted (step_of spot c) (λ next. until next text (suc n)) (λ next. until next text n)

-- the place behind them
abbrev pub place_until : List ℕ → Reading → ℕ → ℕ
place_until text reading n = reading.at + until reading.spot (drop reading.at text) n

-- what is left of a text that was read so far
abbrev pub bytes_from : List ℕ → Reading → List ℕ
bytes_from text reading = spelled reading.spot (drop reading.at text)

-- how far a text may be read
pub record IsIn (text : List ℕ) (reading : Reading) : Type 0 where
  pub inside : reading.at ≤ length text
  pub fits : Fits reading.spot.next

-- A byte is given, and the place behind the digit that completes it.
pub record Gives (text : List ℕ) (from : Reading) (byte : ℕ) (then : Reading) : Type 0 where
  pub bytes : bytes_from text from ≡ byte ∷ bytes_from text then
  pub in_text : IsIn text then
  pub places : (n : ℕ) → place_until text from (suc n) ≡ place_until text then n

-- the next byte of what is left, or that none is
abbrev pub GivesNext : List ℕ → Reading → Option Given → Type 0
GivesNext text from None = bytes_from text from ≡ []
GivesNext text from (Some given) = Gives text from given.byte given.then

-- The next three bytes are given.
pub record GivesGroup (text : List ℕ) (from : Reading) (group : Group) : Type 0 where
  pub second_from : Reading
  pub third_from : Reading
  pub first : Gives text from group.first second_from
  pub second : Gives text second_from group.second third_from
  pub third : Gives text third_from group.third group.then
