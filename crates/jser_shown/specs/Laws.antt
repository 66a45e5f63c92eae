-- What the teller says along the tokens of a list that obeys the format, and where it is after them; what is found along
-- them; and the text of list as it is counted.
use Rattle.std.specs.Prelude.{ℕ, Bool, ◌≡◌, ◌+◌, List, [], ◌∷◌, length}
use Rattle.jser_grammar.specs.Trees.{ContentTrees}
use Rattle.jser_grammar.specs.CheckedNames.{checked_names}
use Rattle.jser_grammar.specs.WellFormed.{WellFormed}
use Rattle.jser_reading.specs.Tokens.{tokens_of}
use Rattle.jser_shown.specs.Words.{first_epoch}
use Rattle.jser_shown.specs.Known.{last_epoch, last_known}
use Rattle.jser_shown.specs.Shown.{shown}
use Rattle.jser_shown.specs.Listed.{listed}
use Rattle.jser_shown.specs.Counting.{tally_all, tally_lines}
use Rattle.jser_shown.specs.Nodes.{place_after, nodes_of}
use Rattle.jser_shown.specs.Owners.{owners_of}
use Rattle.jser_shown.specs.Cues.{top_cue, teller}
use Rattle.jser_shown.specs.Telling.{tell, begin_telling, teller_after}
use Rattle.jser_shown.specs.Finding.{begin_finding, found, finished, nodes_found}

-- It says the list's text of show.
abbrev pub Told : Type 0
Told = (values : Bool) (list : ContentTrees) → WellFormed list
    → tell (begin_telling values (owners_of list)) (tokens_of list) ≡ shown values list

-- It is at the top, in the last epoch, knows what the list leaves, and has used exactly the owners that it was given.
abbrev pub EndsThere : Type 0
EndsThere = (values : Bool) (list : ContentTrees) → WellFormed list →
    teller_after (begin_telling values (owners_of list)) (tokens_of list)
    ≡ teller (last_epoch (first_epoch values) list) (last_known [] list) [] (top_cue ∷ [])

-- What is found along the tokens of a list are its nodes, its owners and its checked names.
abbrev pub Found : Type 0
Found = (list : ContentTrees) → WellFormed list →
    let x = finished (found begin_finding (tokens_of list)) in
    (nodes_found x ≡ nodes_of list) × (x.owners ≡ owners_of list) × (x.names ≡ checked_names list)

-- A place is a number of bytes.
abbrev pub PlacesAreCounted : Type 0
PlacesAreCounted = (p : ℕ) (bytes : List ℕ) → place_after p bytes ≡ p + length bytes

-- The text of list is that of the tallies of its checked names, one name counted after another.
abbrev pub Counted : Type 0
Counted = (verdict : List ℕ → List ℕ) (list : ContentTrees) →
    listed verdict list ≡ tally_lines verdict (tally_all [] (checked_names list))
