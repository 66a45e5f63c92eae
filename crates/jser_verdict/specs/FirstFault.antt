-- The faults of bytes by the rows of the reasons, and the first of them. No machine and no verdict occurs here: which
-- token may come next is told by whole streams.
use Rattle.std.specs.Prelude.{ℕ, suc, ◌+◌, ◌<◌, ◌≡◌, ◌⊎◌, IsTrue, List, [], ◌++◌, length}
use Rattle.jser_grammar.specs.Trees.{ContentTrees}
use Rattle.jser_grammar.specs.Streams.{IsStreamOf}
use Rattle.jser_reading.specs.Labels.{StreamToken, Label, Piece}
use Rattle.jser_reading.specs.TokenBytes.{bytes_of, joined}
use Rattle.jser_reading.specs.Accepts.{Accepts}
use Rattle.jser_reading.specs.ComesNext.{ComesNext}
use Rattle.jser_reading.specs.Scanner.{HasNoToken}
use Rattle.jser_verdict.specs.Reasons.{Reason, bytes_exceeded, truncated, ComesNoLater}
use Rattle.jser_verdict.specs.Gates.{Gate}
use Rattle.jser_verdict.specs.Rows.{row}

-- The first `at` bytes are whole tokens, and a token with this label may come next; `some` are the bytes after them, of
-- which no proper front is a whole token with that label.
pub record OpenAt (bytes : List ℕ) (at : ℕ) (label : Label) (some rest : List ℕ) : Type 0 where
  pub front : List Piece
  pub next : ComesNext front label
  pub split : bytes ≡ joined front ++ (some ++ rest)
  pub begins : at ≡ length (joined front)
  pub no_token : HasNoToken label some

-- the first byte beyond the limit lies in the token
abbrev pub IsTooLong : Gate → (at end : ℕ) → Type 0
IsTooLong gate at end = (end ≡ suc gate.bytes) × (at < end)

-- the input ends in the token, and is no stream
abbrev pub IsCut : (bytes : List ℕ) → Label → (some rest : List ℕ) → Type 0
IsCut bytes label some rest =
    (rest ≡ []) × ((token : StreamToken) → Accepts label token → some ≡ bytes_of token → ⊥)
    × ((list : ContentTrees) → IsStreamOf bytes list → ⊥)

-- the row of the reason holds
abbrev pub RowHolds : Gate → (bytes : List ℕ) → (at end : ℕ) → Label → (some rest : List ℕ) → Reason → Type 0
RowHolds gate bytes at end label some rest reason =
    IsTrue (row reason gate label some)
    ⊎ (((reason ≡ bytes_exceeded) × IsTooLong gate at end) ⊎ ((reason ≡ truncated) × IsCut bytes label some rest))

abbrev pub IsFault : Gate → List ℕ → (at end : ℕ) → Reason → Type 0
IsFault gate bytes at end reason =
    (label : Label) × (some : List ℕ) × (rest : List ℕ) × OpenAt bytes at label some rest × (end ≡ at + length some)
    × RowHolds gate bytes at end label some rest reason

-- no fault has a lesser end, and none at the same end comes earlier in the order of ties
abbrev pub IsFirstFault : Gate → List ℕ → (at end : ℕ) → Reason → Type 0
IsFirstFault gate bytes at end reason =
    IsFault gate bytes at end reason
    × ((at' end' : ℕ) (reason' : Reason) → IsFault gate bytes at' end' reason'
    → (end < end') ⊎ ((end ≡ end') × ComesNoLater reason reason'))
