-- What the walk has taken when it ends are the first tokens of every stream that begins with its bytes.
use Rattle.std.proofs.Common.{◌≡◌, ℕ, List, ◌++◌, refl, sym, ◌∙◌, ap, append_assoc}
use Rattle.jser_reading.proofs.Vocabulary.{ContentTrees, Piece, tokens_of, begin_state, Runs}
use Rattle.jser_reading.specs.TokenBytes.{joined}
use Rattle.jser_grammar.specs.Streams.{IsStreamOf}
use Rattle.jser_reading.specs.Scanner.{VerdictOn, TokenGate, IsScanner, ended, AllPass}
use Rattle.jser_reading.specs.WalkLaws.{TokensAreTold}
use Rattle.jser_reading.proofs.Exact.{exact_law}
use Rattle.jser_reading.proofs.SpelledTokens.{spelled_law}
use Rattle.jser_reading.proofs.Walking.{Found, walked}
use Rattle.jser_reading.proofs.Reading.{begin_pieces}

begins : (gate : TokenGate) (verdict : VerdictOn) → IsScanner gate verdict → (bytes cut : List ℕ) (front : List Piece)
    → Runs begin_state front → AllPass gate front → bytes ≡ joined front ++ cut
    → (behind : List ℕ) (list : ContentTrees) → IsStreamOf (bytes ++ behind) list → (rest : List Piece)
    × (tokens_of list ≡ front ++ rest)
begins gate verdict sc bytes cut front r g e behind list (es, w) =
    begin_pieces gate verdict sc front (tokens_of list) begin_state (cut
    ++ behind) r ((exact_law (tokens_of list)).1 (list, w, refl)) g
    (sym (append_assoc (joined front) cut behind) ∙ ap (λ z. z ++ behind) (sym e) ∙ es ∙ sym (spelled_law list w))

pub tokens_told_law : TokensAreTold
tokens_told_law gate verdict sc bytes cut s e =
    let x : Found gate verdict sc begin_state bytes (ended s cut) = rw e at (walked gate verdict sc bytes) in
    (x.0, x.1, x.2, x.3, x.4, λ behind list st. begins gate verdict sc bytes cut x.0 x.1 x.2 x.4 behind list st)
