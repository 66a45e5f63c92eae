-- The walk by the verdict tells the first fault: the laws for a reader that takes bytes as they come. `seen` are the
-- bytes up to the limit, `after` what comes after them.
use Rattle.std.specs.Prelude.{ℕ, suc, ◌+◌, ◌≤◌, ◌≡◌, ◌⊎◌, List, [], ◌∷◌, ◌++◌, length}
use Rattle.jser_grammar.specs.Trees.{ContentTrees}
use Rattle.jser_grammar.specs.Parts.{IsBytes}
use Rattle.jser_reading.specs.Goals.{State, settled}
use Rattle.jser_reading.specs.Machine.{begin_state, IsDone}
use Rattle.jser_reading.specs.Scanner.{walk, ended, refused}
use Rattle.jser_verdict.specs.Reasons.{Reason, bytes_exceeded, truncated, turn}
use Rattle.jser_verdict.specs.Gates.{Gate}
use Rattle.jser_verdict.specs.Passing.{Passes}
use Rattle.jser_verdict.specs.Verdicts.{verdict}
use Rattle.jser_verdict.specs.FirstFault.{IsFault, IsFirstFault}

abbrev pub IsCapped : (limit : ℕ) → (seen after : List ℕ) → Type 0
IsCapped limit seen after = (length seen ≤ limit) × ((after ≡ []) ⊎ (length seen ≡ limit))

-- What the walk refuses is the first fault, by its turn.
abbrev pub RefusesTheFirst : Type 0
RefusesTheFirst =
    (gate : Gate) (seen after wrong rest : List ℕ) (k : ℕ) → IsBytes seen → IsCapped gate.bytes seen after
    → walk (verdict gate) begin_state [] seen ≡ refused wrong rest k
    → (at : ℕ) × (reason : Reason) × (k ≡ turn reason) × (length seen ≡ at + length wrong + length rest)
    × IsFirstFault gate (seen ++ after) at (at + length wrong) reason

-- Where the bytes end, and are no stream, it is Truncated, at the open token.
abbrev pub CutIsTheFirst : Type 0
CutIsTheFirst =
    (gate : Gate) (bytes cut : List ℕ) (s : State) → IsBytes bytes → length bytes ≤ gate.bytes
    → walk (verdict gate) begin_state [] bytes ≡ ended s cut → (IsDone (settled s) × (cut ≡ []) → ⊥)
    → (at : ℕ) × (length bytes ≡ at + length cut) × IsFirstFault gate bytes at (length bytes) truncated

-- Where one byte more comes than the limit allows, and nothing was refused up to it, it is BytesExceeded, at the open
-- token.
abbrev pub OverIsTheFirst : Type 0
OverIsTheFirst =
    (gate : Gate) (seen cut : List ℕ) (b : ℕ) (others : List ℕ) (s : State) → IsBytes seen → length seen ≡ gate.bytes
    → walk (verdict gate) begin_state [] seen ≡ ended s cut
    → (at : ℕ) × (length seen ≡ at + length cut)
    × IsFirstFault gate (seen ++ (b ∷ others)) at (suc (length seen)) bytes_exceeded

-- Prompt refusal: where the walk over bytes within the limit has refused nothing, they hold no fault but Truncated.
abbrev pub RefusesPromptly : Type 0
RefusesPromptly =
    (gate : Gate) (seen cut : List ℕ) (s : State) → IsBytes seen → length seen ≤ gate.bytes
    → walk (verdict gate) begin_state [] seen ≡ ended s cut
    → (at end : ℕ) (reason : Reason) → IsFault gate seen at end reason → reason ≡ truncated

-- A refusal is decided by the bytes before its end: with any others after them the walk refuses the same, and no stream
-- that passes begins with them.
abbrev pub DecidesAlone : Type 0
DecidesAlone =
    (gate : Gate) (seen wrong rest : List ℕ) (k : ℕ) → IsBytes seen
    → walk (verdict gate) begin_state [] seen ≡ refused wrong rest k
    → (decide : List ℕ) × (seen ≡ decide ++ rest)
    × ((after : List ℕ) → walk (verdict gate) begin_state [] (decide ++ after) ≡ refused wrong after k)
    × ((after : List ℕ) (list : ContentTrees) → IsBytes after → Passes gate (decide ++ after) list → ⊥)
