-- From what was put into a room to what the answer says.
use Rattle.std.proofs.Common.{◌≡◌, ℕ, List, sym, ap, ◌∙◌, subst, false}
use Rattle.std.specs.Prelude.{IfSome, Option, Some}
use Rattle.jser_filter.specs.Filters.{FilterView}
use Rattle.jser_index.specs.Graphs.{GraphView}
use Rattle.jser_shown.specs.Counting.{NameTally, tally_lines}
use Rattle.jser_shown.specs.Laws.{Counted}
use Rattle.jser_shown.specs.Listed.{listed}
use Rattle.jser_shown.specs.Shown.{shown}
use Rattle.jser_names.specs.Sources.{HasNames}
use Rattle.jser_commands.specs.declared.Start.{Start}
use Rattle.jser_commands.specs.Limits.{BeginsText, IsFrontOf}
use Rattle.jser_commands.specs.Lines.{words_on}
use Rattle.jser_ffi.specs.declared.answer.Answer.{Answer}
use Rattle.jser_ffi.specs.Compiling.{IsFilterOf, IsTableOf}
use Rattle.jser_ffi.specs.Rooms.{PutsUpTo}
use Rattle.jser_ffi.specs.Texts.{HasText, PutsShown, TellsList, TellsNames}

-- the first bytes of the text of a graph are those of each list for which it stands
pub puts_shown : (most : ℕ) (graph : GraphView) (start : Start) (old new : List ℕ) (answer : Answer) → IsFrontOf false graph start
    → ((text : List ℕ) → BeginsText start text → HasText answer → PutsUpTo most text old new answer) → PutsShown most graph old new answer
unfolding IsFrontOf
puts_shown most graph start old new answer front puts bytes list stands has = puts (shown false list) (front bytes list stands) has

-- the lines of the names of a stream are the text of its list
pub lists_names : Counted → (told : Option (List ℕ)) (bytes : List ℕ) (filter : FilterView) (names : List NameTally) (most : ℕ) (old new : List ℕ) (answer : Answer) → told ≡ Some bytes
    → IfSome told (λ bytes. HasNames bytes names) → (HasText answer → PutsUpTo most (tally_lines (words_on filter) names) old new answer)
    → TellsNames filter most bytes old new answer
lists_names law told bytes filter names most old new answer is some puts text =
    let has : HasNames bytes names = subst (λ o. IfSome o (λ bytes. HasNames bytes names)) is some in
    record {
      list = has.list;
      passes = has.passes;
      puts = subst (λ t. PutsUpTo most t old new answer)
          (ap (tally_lines (words_on filter)) has.names_are ∙ sym (law (words_on filter) has.list)) (puts text);
    }

-- under the filter of the texts
pub lists_under : (text modules bytes old new : List ℕ) (most : ℕ) (filter : FilterView) (answer : Answer) → IsFilterOf text filter.pieces → IsTableOf modules filter.modules
    → TellsNames filter most bytes old new answer → TellsList text modules most bytes old new answer
lists_under text modules bytes old new most filter answer pieces table tells has =
    record { filter = filter; pieces_are = pieces; table_is = table; lists = tells has }
