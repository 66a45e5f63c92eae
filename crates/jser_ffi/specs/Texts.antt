-- What the answer to a text in a room means.
use Rattle.std.specs.Prelude.{ℕ, ◌≡◌, ◌⊎◌, List, false}
use Rattle.jser_grammar.specs.Trees.{ContentTrees}
use Rattle.jser_verdict.specs.Passing.{Passes}
use Rattle.jser_reader.specs.Gates.{open_gate}
use Rattle.jser_filter.specs.Filters.{FilterView}
use Rattle.jser_index.specs.Graphs.{GraphView, StandsFor}
use Rattle.jser_shown.specs.Listed.{listed}
use Rattle.jser_shown.specs.Shown.{shown}
use Rattle.jser_commands.specs.Lines.{words_on}
use Rattle.jser_ffi.specs.declared.answer.Answer.{Answer}
use Rattle.jser_ffi.specs.Compiling.{IsFilterOf, IsTableOf}
use Rattle.jser_ffi.specs.Rooms.{PutsUpTo}

-- a text was written, or its first bytes
abbrev pub HasText : Answer → Type 0
HasText answer = (answer.status ≡ 0) ⊎ (answer.status ≡ 6)

-- the text of the one list that the bytes spell, or its first bytes
pub record PutsOf (text : ContentTrees → List ℕ) (most : ℕ) (bytes old new : List ℕ) (answer : Answer) : Type 0 where
  pub list : ContentTrees
  pub passes : Passes open_gate bytes list
  pub puts : PutsUpTo most (text list) old new answer

-- the text of show
abbrev pub TellsText : (most : ℕ) → (bytes old new : List ℕ) → Answer → Type 0
TellsText most bytes old new answer = HasText answer → PutsOf (shown false) most bytes old new answer

-- of each list for which a graph stands
abbrev pub PutsShown : (most : ℕ) → GraphView → (old new : List ℕ) → Answer → Type 0
PutsShown most graph old new answer = (bytes : List ℕ) (list : ContentTrees) → StandsFor graph bytes list → HasText answer → PutsUpTo most (shown false list) old new answer

-- the text of list, with what the filter says of each name
abbrev pub TellsNames : FilterView → (most : ℕ) → (bytes old new : List ℕ) → Answer → Type 0
TellsNames filter most bytes old new answer = HasText answer → PutsOf (listed (words_on filter)) most bytes old new answer

-- under the filter of a text and of a table of modules
pub record ListsUnder (text modules : List ℕ) (most : ℕ) (bytes old new : List ℕ) (answer : Answer) : Type 0 where
  pub filter : FilterView
  pub pieces_are : IsFilterOf text filter.pieces
  pub table_is : IsTableOf modules filter.modules
  pub lists : PutsOf (listed (words_on filter)) most bytes old new answer

abbrev pub TellsList : (text modules : List ℕ) → (most : ℕ) → (bytes old new : List ℕ) → Answer → Type 0
TellsList text modules most bytes old new answer = HasText answer → ListsUnder text modules most bytes old new answer
