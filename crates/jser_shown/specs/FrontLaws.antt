-- Tokens may be taken one by one: what is done of some first tokens and then of the others is what is done of all.
use Rattle.std.specs.Prelude.{ℕ, ◌≡◌, List, [], ◌∷◌, ◌++◌}
use Rattle.jser_reading.specs.Labels.{StreamToken, Label, Piece, piece}
use Rattle.jser_shown.specs.Cues.{Teller}
use Rattle.jser_shown.specs.Telling.{settled, settle_says, says, goes, tell}
use Rattle.jser_shown.specs.Finding.{Finding, found}
use Rattle.jser_shown.specs.Fronts.{teller_at, said}

abbrev pub TellsFronts : Type 0
TellsFronts = (s : Teller) (front rest : List Piece) → tell s (front ++ rest) ≡ said s front (tell (teller_at s front) rest)

-- One token more is one step, from a teller that has settled.
abbrev pub OneMore : Type 0
OneMore = (s : Teller) (front : List Piece) (label : Label) (token : StreamToken) →
    let all = front ++ (piece label token ∷ []) in
    let now = teller_at s front in
    (teller_at s all ≡ goes (settled now) token)
    × ((k : List ℕ) → said s all k ≡ said s front (settle_says now.known now.cues (says (settled now) token k)))

-- What is found along some first tokens, and then along the others, is what is found along all.
abbrev pub FindsFronts : Type 0
FindsFronts = (x : Finding) (front rest : List Piece) → found x (front ++ rest) ≡ found (found x front) rest
