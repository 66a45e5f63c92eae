-- What holds of the verdict on one token: it tells the rows, in the order of ties, and goes with the gate of its limits.
use Rattle.std.specs.Prelude.{ℕ, zero, IsTrue, ◌≤◌, ◌≡◌, ◌↔◌, Bool, true, false, List, [], ◌∷◌, ◌++◌, length}
use Rattle.jser_prim.specs.Texts.{BeginsText}
use Rattle.jser_grammar.specs.Parts.{IsBytes}
use Rattle.jser_reading.specs.Labels.{Label, Position, nowhere, raw_at, bytes_at}
use Rattle.jser_reading.specs.TokensFromBytes.{size_in}
use Rattle.jser_reading.specs.GateLimits.{gate_of}
use Rattle.jser_reading.specs.Machine.{begin_state}
use Rattle.jser_reading.specs.Scanner.{more, bad, VerdictOn, IsScanner, walk}
use Rattle.jser_verdict.specs.Reasons.{Reason, ComesNoLater, turn}
use Rattle.jser_verdict.specs.Gates.{Gate, limits_of}
use Rattle.jser_verdict.specs.TextsSoFar.{has_head, text_length, text_bytes, has_wrong_byte}
use Rattle.jser_verdict.specs.Rows.{row}
use Rattle.jser_verdict.specs.Verdicts.{verdict}

-- some token is read at the position
abbrev pub IsRead : Position → Type 0
IsRead nowhere = ⊥
IsRead (raw_at code zero) = ⊥
IsRead (bytes_at zero) = ⊥
IsRead _ = Unit {0}

-- The turns, which the walk passes on, are the order of ties.
abbrev pub TurnsAreInOrder : Type 0
TurnsAreInOrder = (reason other : Reason) → (turn reason ≤ turn other) ↔ ComesNoLater reason other

-- Where a row holds, a reason is told that comes no later: so where more is wanted, or a token is found, none holds.
abbrev pub TellsEachRow : Type 0
TellsEachRow =
    (gate : Gate) (label : Label) (bytes : List ℕ) (reason : Reason) → IsTrue (row reason gate label bytes)
    → (told : Reason) × (verdict gate label bytes ≡ bad (turn told)) × (turn told ≤ turn reason)

-- What is told at the first byte at which anything is told is a row that holds, and none that holds comes earlier.
abbrev pub TellsTheFirstRow : Type 0
TellsTheFirstRow =
    (gate : Gate) (label : Label) (bytes : List ℕ) (b k : ℕ) → IsRead label.position → IsBytes (bytes ++ (b ∷ []))
    → verdict gate label bytes ≡ more → verdict gate label (bytes ++ (b ∷ [])) ≡ bad k
    → (reason : Reason) × (k ≡ turn reason) × IsTrue (row reason gate label (bytes ++ (b ∷ [])))
    × ((other : Reason) → IsTrue (row other gate label (bytes ++ (b ∷ []))) → turn reason ≤ turn other)

-- The row of BadText holds of a text's bytes exactly where no text of its length begins with them: so at the first byte
-- with which none goes on, and not later.
abbrev pub BadTextIsExact : Type 0
BadTextIsExact =
    (long : Bool) (bytes : List ℕ) → has_head long bytes ≡ true → length (text_bytes long bytes) ≤ text_length long bytes
    → (has_wrong_byte long bytes ≡ false → BeginsText (text_length long bytes) (text_bytes long bytes))
    × (BeginsText (text_length long bytes) (text_bytes long bytes) → has_wrong_byte long bytes ≡ false)

-- There is a verdict that goes with the gate of these limits, so that the laws of the walk hold of it, and that says the
-- same of all bytes that a walk asks about: those of a token that is read, no more than it needs. So the walks by the two
-- are equal.
abbrev pub VerdictScans : Type 0
VerdictScans =
    (gate : Gate) → (scanning : VerdictOn) × IsScanner (gate_of (limits_of gate)) scanning
    × ((label : Label) (bytes : List ℕ) → IsRead label.position → IsBytes bytes → length bytes ≤ size_in label.position bytes
    → verdict gate label bytes ≡ scanning label bytes)
    × ((bytes : List ℕ) → IsBytes bytes → walk (verdict gate) begin_state [] bytes ≡ walk scanning begin_state [] bytes)
