-- What holds of the bytes of tokens and of streams.
use Rattle.std.specs.Prelude.{ℕ, ◌≡◌, List, ◌++◌}
use Rattle.jser_grammar.specs.Trees.{ValueTree, ContentTrees}
use Rattle.jser_grammar.specs.TableAfter.{Entries}
use Rattle.jser_grammar.specs.Spelling.{value_spelling, spelling}
use Rattle.jser_grammar.specs.WellFormed.{WellFormedValue, WellFormed}
use Rattle.jser_grammar.specs.Streams.{IsStreamOf}
use Rattle.jser_reading.specs.Tokens.{tokens_of}
use Rattle.jser_reading.specs.TokenBytes.{joined}

-- The tokens of a list that obeys the format, joined, are its spelling.
abbrev pub Spelled : Type 0
Spelled = (list : ContentTrees) → WellFormed list → joined (tokens_of list) ≡ spelling list

-- One reading: of a byte list at most one content list makes a stream ..
abbrev pub OneReading : Type 0
OneReading =
    (bytes : List ℕ) (list other : ContentTrees) → IsStreamOf bytes list → IsStreamOf bytes other → list ≡ other

-- .. and of two values that obey the format from the same table, one whose spelling begins the other's is equal to it.
abbrev pub NoPrefix : Type 0
NoPrefix = (T : Entries) (value other : ValueTree) (rest : List ℕ) → WellFormedValue T value → WellFormedValue T other
    → value_spelling value ++ rest ≡ value_spelling other → value ≡ other
