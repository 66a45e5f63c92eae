-- Places that were noted.
use Rattle.std.specs.Prelude.{◌≡◌, ◌<◌, ℕ, Bool, true, false, not, List, [], ◌∷◌, ◌++◌, length, get_or, set}
use Rattle.jser_filter.specs.Filters.{FilterView}
use Rattle.jser_names.specs.declared.NamedStream.{NamedStream}
use Rattle.jser_names.specs.Counts.{names_counted}
use Rattle.jser_shown.specs.Counting.{tally_lines}
use Rattle.jser_commands.specs.Hidden.{has_place, hidden_in}
use Rattle.jser_commands.specs.Lines.{hidden_lines, words_on}

-- those that were noted are these
pub record KeepsPlaces (noted : List Bool) (seen : List ℕ) : Type 0 where
  pub keeps : (at : ℕ) → at < length noted → get_or noted at false ≡ has_place at seen

-- one place more
pub record NotesPlace (at : ℕ) (old new : List Bool) (is_new : Bool) : Type 0 where
  pub noted : new ≡ set old at true
  pub is : is_new ≡ not (get_or old at false)

-- the lines of the checked names and of the hidden ones
abbrev pub lines_of_both : FilterView → NamedStream → List ℕ
lines_of_both filter whole =
    tally_lines (words_on filter) whole.names ++ hidden_lines filter (hidden_in (names_counted whole.names) whole.bytes.items)
