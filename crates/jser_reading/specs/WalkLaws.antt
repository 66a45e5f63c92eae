-- What the walk over bytes says of streams and faults, for every verdict and gate that go together.
use Rattle.std.specs.Prelude.{ℕ, ◌≡◌, ◌≤◌, List, [], ◌++◌, length}
use Rattle.jser_grammar.specs.Trees.{ContentTrees}
use Rattle.jser_grammar.specs.Streams.{IsStreamOf}
use Rattle.jser_reading.specs.Goals.{State, settled}
use Rattle.jser_reading.specs.Labels.{Piece}
use Rattle.jser_reading.specs.Tokens.{tokens_of}
use Rattle.jser_reading.specs.TokenBytes.{joined}
use Rattle.jser_reading.specs.Machine.{begin_state, IsDone, Runs, left}
use Rattle.jser_reading.specs.Scanner.{VerdictOn, TokenGate, IsScanner, ended, refused, walk, AllPass, PassesBy, IsFaultBy}

-- The walk takes these bytes whole: it ends at the top, with no cut token.
abbrev pub TakesWhole : VerdictOn → List ℕ → Type 0
TakesWhole verdict bytes = (s : State) × IsDone (settled s) × (walk verdict begin_state [] bytes ≡ ended s [])

-- these are the first tokens of every stream that begins with these bytes
abbrev pub BeginEvery : List Piece → List ℕ → Type 0
BeginEvery front bytes =
    (behind : List ℕ) (list : ContentTrees) → IsStreamOf (bytes ++ behind) list
    → (rest : List Piece) × (tokens_of list ≡ front ++ rest)

-- None of what follows is said of nothing: each gate has a verdict that goes with it.
abbrev pub EachGateHasAVerdict : Type 0
EachGateHasAVerdict = (gate : TokenGate) → (verdict : VerdictOn) × IsScanner gate verdict

-- The walk takes bytes whole exactly where they are a stream that the gate lets through.
abbrev pub AcceptsExactly : Type 0
AcceptsExactly =
    (gate : TokenGate) (verdict : VerdictOn) → IsScanner gate verdict → (bytes : List ℕ)
    → (TakesWhole verdict bytes → (list : ContentTrees) × PassesBy gate bytes list)
    × ((list : ContentTrees) × PassesBy gate bytes list → TakesWhole verdict bytes)

-- What it refuses is a fault, and no fault is decided by fewer bytes.
abbrev pub RefusesFirst : Type 0
RefusesFirst =
    (gate : TokenGate) (verdict : VerdictOn) → IsScanner gate verdict → (bytes wrong rest : List ℕ) (reason : ℕ)
    → walk verdict begin_state [] bytes ≡ refused wrong rest reason
    → IsFaultBy verdict bytes wrong rest reason
    × ((wrong' rest' : List ℕ) (reason' : ℕ) → IsFaultBy verdict bytes wrong' rest' reason'
    → length rest' ≤ length rest)

-- Where it refuses nothing, there is no fault.
abbrev pub NoFaultPassed : Type 0
NoFaultPassed =
    (gate : TokenGate) (verdict : VerdictOn) → IsScanner gate verdict → (bytes cut : List ℕ) (s : State)
    → walk verdict begin_state [] bytes ≡ ended s cut
    → (wrong rest : List ℕ) (reason : ℕ) → IsFaultBy verdict bytes wrong rest reason → ⊥

-- Where it ends within a token, or short of the top, the bytes are no stream.
abbrev pub CutShort : Type 0
CutShort =
    (gate : TokenGate) (verdict : VerdictOn) → IsScanner gate verdict → (bytes cut : List ℕ) (s : State)
    → walk verdict begin_state [] bytes ≡ ended s cut
    → (list : ContentTrees) → IsStreamOf bytes list → IsDone (settled s) × (cut ≡ [])

-- What it has taken when it ends are the first tokens of every stream that begins with these bytes, and the bytes
-- behind them are those of the cut token.
abbrev pub TokensAreTold : Type 0
TokensAreTold =
    (gate : TokenGate) (verdict : VerdictOn) → IsScanner gate verdict → (bytes cut : List ℕ) (s : State)
    → walk verdict begin_state [] bytes ≡ ended s cut
    → (front : List Piece) × Runs begin_state front × AllPass gate front × (left begin_state front ≡ s)
    × (bytes ≡ joined front ++ cut) × BeginEvery front bytes
