-- The first tokens of a stream, as code meets them: where a teller has come to after them, before it settles for the
-- next token, and what it has said of them.
use Rattle.std.specs.Prelude.{ℕ, List, [], ◌∷◌}
use Rattle.jser_reading.specs.Labels.{Piece, piece}
use Rattle.jser_shown.specs.Cues.{Teller}
use Rattle.jser_shown.specs.Telling.{settled, settle_says, says, goes}

abbrev pub teller_at : Teller → List Piece → Teller
teller_at s [] = s
teller_at s (piece label token ∷ front) = teller_at (goes (settled s) token) front

-- put before `k`, what is said of the tokens after them
abbrev pub said : Teller → List Piece → List ℕ → List ℕ
said s [] k = k
said s (piece label token ∷ front) k =
    settle_says s.known s.cues (says (settled s) token (said (goes (settled s) token) front k))
