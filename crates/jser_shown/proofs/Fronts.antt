-- Tokens taken one by one.
use Rattle.std.proofs.Common.{◌≡◌, ℕ, List, [], ◌∷◌, ◌++◌, length, refl, ap}
use Rattle.jser_reading.specs.Labels.{StreamToken, Label, Piece, piece}
use Rattle.jser_shown.specs.Cues.{Teller}
use Rattle.jser_shown.specs.Telling.{settled, settle_says, says, goes}
use Rattle.jser_shown.specs.Fronts.{teller_at, said}
use Rattle.jser_shown.specs.Finding.{find}
use Rattle.jser_shown.specs.FrontLaws.{TellsFronts, OneMore, FindsFronts}

pub tells_fronts_law : TellsFronts
tells_fronts_law s [] rest = refl
tells_fronts_law s (piece label token ∷ front) rest =
    ap (λ k. settle_says s.known s.cues (says (settled s) token k)) (tells_fronts_law (goes (settled s) token) front rest)

teller_step : (s : Teller) (front : List Piece) (label : Label) (token : StreamToken)
    → teller_at s (front ++ (piece label token ∷ [])) ≡ goes (settled (teller_at s front)) token
teller_step s [] label token = refl
teller_step s (piece l f ∷ front) label token = teller_step (goes (settled s) f) front label token

said_step : (s : Teller) (front : List Piece) (label : Label) (token : StreamToken) (k : List ℕ)
    → said s (front ++ (piece label token ∷ [])) k
    ≡ said s front (settle_says (teller_at s front).known (teller_at s front).cues (says (settled (teller_at s front)) token k))
said_step s [] label token k = refl
said_step s (piece l f ∷ front) label token k =
    ap (λ t. settle_says s.known s.cues (says (settled s) f t)) (said_step (goes (settled s) f) front label token k)

pub one_more_law : OneMore
one_more_law s front label token = (teller_step s front label token, λ k. said_step s front label token k)

pub finds_fronts_law : FindsFronts
finds_fronts_law x [] rest = refl
finds_fronts_law x (piece label token ∷ front) rest = finds_fronts_law (find (length label.moment.table) token x) front rest
