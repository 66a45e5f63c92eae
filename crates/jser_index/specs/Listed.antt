-- Lists that are laid flat: their items one after another, and the number of items before the end of each list.
use denote.Bor.{Bor}
use Rattle.std.specs.Prelude.{ℕ, ◌≡◌, ◌-◌, ◌≤◌, List, [], ◌∷◌, ◌++◌, zero, suc, take, drop, Option, Some, None}

-- lists that have ended, and one that is open
pub record Listed (T : Type 0) : Type 0 where
  pub ended : List (List T)
  pub last : List T

-- those that end at these places; `from` is the place of the first item
abbrev pub ended_of : {T : Type 0} → ℕ → List ℕ → List T → List (List T)
ended_of from [] items = []
ended_of from (end ∷ ends) items = take (end - from) items ∷ ended_of end ends (drop (end - from) items)

-- the items after them
abbrev pub open_of : {T : Type 0} → ℕ → List ℕ → List T → List T
open_of from [] items = items
open_of from (end ∷ ends) items = open_of end ends (drop (end - from) items)

-- each list ends where it begins or after that, and at the last place at most
abbrev pub AreEnds : ℕ → List ℕ → ℕ → Type 0
AreEnds from [] last = from ≤ last
AreEnds from (end ∷ ends) last = (from ≤ end) × AreEnds end ends last

-- the place of the first item of the list with this number
abbrev pub start_of : ℕ → List ℕ → ℕ → ℕ
start_of from ends zero = from
start_of from [] (suc k) = from
start_of from (end ∷ ends) (suc k) = start_of end ends k

-- a list, lent as a slice
abbrev pub IsList : {T : Type 0} → Option (List T) → Option (Bor (List T)) → Type 0
IsList None None = Unit {0}
IsList (Some list) (Some part) = part.now ≡ list
IsList _ _ = ⊥

-- all of them
abbrev pub all_lists : {T : Type 0} → Listed T → List (List T)
all_lists lists = lists.ended ++ (lists.last ∷ [])

-- the open list has one item more
abbrev pub with_last : {T : Type 0} → Listed T → T → Listed T
with_last lists item = record { ended = lists.ended; last = lists.last ++ (item ∷ []) }

-- the open list ends
abbrev pub ended_last : {T : Type 0} → Listed T → Listed T
ended_last lists = record { ended = all_lists lists; last = [] }
