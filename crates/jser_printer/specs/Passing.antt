-- What is done of what is due, and what is said of a token with it.
use Rattle.std.specs.Prelude.{ℕ, List, length, ◌≡◌, Bool, true, false, Option, Some, None}
use Rattle.jser_shown.specs.Cues.{Teller}
use Rattle.jser_reading.specs.Labels.{StreamToken}
use Rattle.jser_shown.specs.Telling.{says, settle_says, settled, first_owner}
use Rattle.jser_printer.specs.Given.{view_node}
use Rattle.jser_printer.specs.TokenWords.{epoch_in}
use Rattle.jser_printer.specs.Phases.{StandsIn}
use Rattle.jser_printer.specs.Steps.{Due, due, pass}
use Rattle.jser_printer.specs.declared.phase.Phase.{Phase}
use Rattle.jser_printer.specs.declared.words.tag.Marks.{Marks}

-- what the words of a tag need of a teller
abbrev pub MarksAre : Marks → Teller → Type 0
MarksAre marks s =
    (epoch_in marks ≡ s.epoch) × (marks.next ≡ length s.known) × (view_node marks.owner ≡ first_owner s.owners)

abbrev pub IsDue : Teller → Type 0
IsDue s = (d : Due) × (due s ≡ Some d)

-- something was due and is done; or nothing was
abbrev pub Passed : (more : Bool) → Teller → Teller → Type 0
Passed true old new = IsDue old × (new ≡ pass old)
Passed false old new = (due old ≡ None) × (new ≡ old)

-- the same, where the phase of what is due next is the answer
abbrev pub PassedTo : Option Phase → Teller → Teller → Type 0
PassedTo (Some phase) old new = IsDue old × StandsIn phase new (pass old)
PassedTo None old new = (due old ≡ None) × (new ≡ old)

-- what a teller that may not have settled says of the next token, before `k`
abbrev pub says_next : Teller → StreamToken → List ℕ → List ℕ
says_next s token k = settle_says s.known s.cues (says (settled s) token k)
