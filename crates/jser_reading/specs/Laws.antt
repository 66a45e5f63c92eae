-- What holds of the reading machine on tokens.
use Rattle.std.specs.Prelude.{◌+◌, ◌*◌, ◌≤◌, ◌≡◌, List, length}
use Rattle.jser_grammar.specs.Trees.{ContentTrees}
use Rattle.jser_grammar.specs.WellFormed.{WellFormed}
use Rattle.jser_reading.specs.Labels.{Label, Piece}
use Rattle.jser_reading.specs.Tokens.{tokens_of}
use Rattle.jser_reading.specs.Goals.{settled}
use Rattle.jser_reading.specs.Accepts.{label_of}
use Rattle.jser_reading.specs.Machine.{begin_state, Runs, left, Reads}
use Rattle.jser_reading.specs.ComesNext.{ComesNext}

-- The machine reads exactly the tokens of the lists that obey the format.
abbrev pub Exact : Type 0
Exact = (pieces : List Piece) →
    (Reads begin_state pieces → (list : ContentTrees) × WellFormed list × (pieces ≡ tokens_of list))
    × ((list : ContentTrees) × WellFormed list × (pieces ≡ tokens_of list) → Reads begin_state pieces)

-- What it asks next is exactly what may come next: so whole tokens that it took begin some stream, save that a
-- reference's tag may stand where no handle fits.
abbrev pub NextIsTold : Type 0
NextIsTold = (front : List Piece) (label : Label) →
    (ComesNext front label → Runs begin_state front × (label ≡ label_of (settled (left begin_state front))))
    × (Runs begin_state front × (label ≡ label_of (settled (left begin_state front))) → ComesNext front label)

-- The stack of goals is about as long as the next token is deep, whatever was read.
abbrev pub StackIsBounded : Type 0
StackIsBounded = (front : List Piece) →
    let s = settled (left begin_state front) in
    ((label_of s).depth ≤ length s.1) × (length s.1 ≤ 3 * (label_of s).depth + 2)
