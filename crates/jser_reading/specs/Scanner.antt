-- From tokens to bytes. A verdict says of the bytes of a token so far whether more are wanted, which token they
-- are, or for what reason they are refused; a gate says of a token and its label whether it is let through. The
-- walk reads bytes by a verdict; it knows the machine by labels and steps alone. A reason is told by its number.
use Rattle.std.specs.Prelude.{ℕ, ◌≡◌, Bool, IsTrue, IsFalse, List, [], ◌∷◌, ◌++◌}
use Rattle.jser_grammar.specs.Trees.{ContentTrees}
use Rattle.jser_grammar.specs.Streams.{IsStreamOf}
use Rattle.jser_reading.specs.Labels.{StreamToken, Label, Piece, piece}
use Rattle.jser_reading.specs.Tokens.{tokens_of}
use Rattle.jser_reading.specs.TokenBytes.{bytes_of, joined}
use Rattle.jser_reading.specs.Goals.{State, settled}
use Rattle.jser_reading.specs.Accepts.{label_of, Accepts}
use Rattle.jser_reading.specs.Machine.{advance}
use Rattle.jser_reading.specs.ComesNext.{ComesNext}

pub data Verdict : Type 0 where
  more : Verdict
  good : StreamToken → Verdict
  bad : (reason : ℕ) → Verdict

abbrev pub VerdictOn : Type 0
VerdictOn = Label → List ℕ → Verdict

abbrev pub TokenGate : Type 0
TokenGate = Label → StreamToken → Bool

-- every front of these bytes, short of all, wants more
abbrev pub IsUndecided : VerdictOn → Label → List ℕ → Type 0
IsUndecided verdict label bytes =
    (front : List ℕ) (b : ℕ) (rest : List ℕ) → bytes ≡ front ++ (b ∷ rest) → verdict label front ≡ more

-- A verdict on tokens, as it must be for a gate: it finds exactly the tokens that are taken and let through, wants
-- more before their end, and refuses a token that the gate stops at its end or within.
pub record IsScanner (gate : TokenGate) (verdict : VerdictOn) : Type 0 where
  pub nothing_yet : (label : Label) → verdict label [] ≡ more
  pub good_is : (label : Label) (bytes : List ℕ) (token : StreamToken) → verdict label bytes ≡ good token
      → (bytes ≡ bytes_of token) × Accepts label token × IsTrue (gate label token)
  pub is_good : (label : Label) (token : StreamToken) → Accepts label token → IsTrue (gate label token)
      → verdict label (bytes_of token) ≡ good token
  pub before_end : (label : Label) (token : StreamToken) → Accepts label token → IsTrue (gate label token)
      → IsUndecided verdict label (bytes_of token)
  pub stops : (label : Label) (token : StreamToken) → Accepts label token → IsFalse (gate label token)
      → (front rest : List ℕ) × (reason : ℕ) × (bytes_of token ≡ front ++ rest) × (verdict label front ≡ bad reason)
      × IsUndecided verdict label front

-- the walk ended in a state, with some bytes of its next token; or it refused bytes of a token, with others behind
pub data Outcome : Type 0 where
  ended : State → (cut : List ℕ) → Outcome
  refused : (wrong rest : List ℕ) (reason : ℕ) → Outcome

abbrev pub by_verdict : Verdict → Outcome → (StreamToken → Outcome) → (ℕ → Outcome) → Outcome
by_verdict more on_more on_good on_bad = on_more
by_verdict (good token) on_more on_good on_bad = on_good token
by_verdict (bad reason) on_more on_good on_bad = on_bad reason

-- `cut` are the bytes of the token that is read
abbrev pub walk : VerdictOn → State → (cut bytes : List ℕ) → Outcome
walk verdict s cut [] = ended s cut
walk verdict s cut (b ∷ bytes) =
    by_verdict (verdict (label_of (settled s)) (cut ++ (b ∷ [])))
    (walk verdict s (cut ++ (b ∷ [])) bytes)
    (λ token. walk verdict (advance (settled s) token) [] bytes)
    (λ reason. refused (cut ++ (b ∷ [])) bytes reason)

abbrev pub AllPass : TokenGate → List Piece → Type 0
AllPass gate [] = Unit {0}
AllPass gate (piece label token ∷ pieces) = IsTrue (gate label token) × AllPass gate pieces

-- the bytes are a stream of this list, and the gate lets each of its tokens through
abbrev pub PassesBy : TokenGate → List ℕ → ContentTrees → Type 0
PassesBy gate bytes list = IsStreamOf bytes list × AllPass gate (tokens_of list)

-- no front of these bytes, short of all, is a whole token with this label
abbrev pub HasNoToken : Label → List ℕ → Type 0
HasNoToken label bytes =
    (front : List ℕ) (b : ℕ) (rest : List ℕ) (token : StreamToken) → bytes ≡ front ++ (b ∷ rest) → Accepts label token
    → front ≡ bytes_of token → ⊥

-- A fault: whole tokens, then bytes that are refused for a token that may come next, of which no front is a whole
-- token. `rest` are the bytes behind it; the longer they are, the fewer bytes decide.
abbrev pub IsFaultBy : VerdictOn → List ℕ → (wrong rest : List ℕ) (reason : ℕ) → Type 0
IsFaultBy verdict bytes wrong rest reason =
    (front : List Piece) × (label : Label) × ComesNext front label × (bytes ≡ joined front ++ (wrong ++ rest))
    × HasNoToken label wrong × (verdict label wrong ≡ bad reason)
