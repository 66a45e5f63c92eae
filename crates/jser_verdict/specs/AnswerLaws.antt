-- What the answer says: that the bytes are a stream which the gate lets pass, or else their first fault.
use Rattle.std.specs.Prelude.{ℕ, ◌≤◌, ◌≡◌, ◌↔◌, List, ◌++◌, take, length}
use Rattle.jser_grammar.specs.Trees.{ContentTrees}
use Rattle.jser_grammar.specs.Parts.{IsBytes}
use Rattle.jser_grammar.specs.Counts.{depth_of}
use Rattle.jser_verdict.specs.Reasons.{Reason, truncated}
use Rattle.jser_verdict.specs.Gates.{Gate, IsGate, lowered}
use Rattle.jser_verdict.specs.Passing.{Passes}
use Rattle.jser_verdict.specs.FirstFault.{IsFault, IsFirstFault}
use Rattle.jser_verdict.specs.Answers.{accepted, refused_at, answer}

-- Accepted exactly where the bytes are a stream that passes ..
abbrev pub AcceptsPassing : Type 0
AcceptsPassing =
    (gate : Gate) (bytes : List ℕ) → IsBytes bytes
    → (answer gate bytes ≡ accepted) ↔ ((list : ContentTrees) × Passes gate bytes list)

-- .. and then there is no fault at all.
abbrev pub AcceptsNoFault : Type 0
AcceptsNoFault =
    (gate : Gate) (bytes : List ℕ) → IsBytes bytes → answer gate bytes ≡ accepted
    → (at end : ℕ) (reason : Reason) → IsFault gate bytes at end reason → ⊥

-- Refused exactly with the first fault ..
abbrev pub RefusesFirstFault : Type 0
RefusesFirstFault =
    (gate : Gate) (bytes : List ℕ) (at end : ℕ) (reason : Reason) → IsBytes bytes
    → (answer gate bytes ≡ refused_at at end reason) ↔ IsFirstFault gate bytes at end reason

-- .. of which there is one.
abbrev pub OneFirstFault : Type 0
OneFirstFault =
    (gate : Gate) (bytes : List ℕ) (at end at' end' : ℕ) (reason reason' : Reason)
    → IsFirstFault gate bytes at end reason → IsFirstFault gate bytes at' end' reason'
    → (at ≡ at') × (end ≡ end') × (reason ≡ reason')

-- A refusal, save Truncated, decides by its first `end` bytes: the same bytes with any after them are refused the same,
-- and no stream that passes begins with them.
abbrev pub RefusedForGood : Type 0
RefusedForGood =
    (gate : Gate) (bytes : List ℕ) (at end : ℕ) (reason : Reason) → IsBytes bytes
    → answer gate bytes ≡ refused_at at end reason → (reason ≡ truncated → ⊥) → (after : List ℕ) → IsBytes after
    → (answer gate (take end bytes ++ after) ≡ refused_at at end reason)
    × ((list : ContentTrees) → Passes gate (take end bytes ++ after) list → ⊥)

-- A gate with its limits of bytes and depth lowered is a gate ..
abbrev pub LoweredIsGate : Type 0
LoweredIsGate = (gate : Gate) (bytes depth : ℕ) → IsGate gate → IsGate (lowered bytes depth gate)

-- .. and it lets pass what the gate lets pass within those limits.
abbrev pub LoweredPasses : Type 0
LoweredPasses =
    (gate : Gate) (most deepest : ℕ) (bytes : List ℕ) (list : ContentTrees)
    → Passes (lowered most deepest gate) bytes list
    ↔ (Passes gate bytes list × (length bytes ≤ most) × (depth_of list ≤ deepest))
