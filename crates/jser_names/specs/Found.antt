-- What is found along the bytes of a stream.
use Rattle.std.specs.Prelude.{ℕ, ◌≡◌, List, []}
use Rattle.jser_grammar.specs.CheckedNames.{checked_names}
use Rattle.jser_grammar.specs.Counts.{array_lengths}
use Rattle.jser_grammar.specs.Trees.{ContentTrees}
use Rattle.jser_verdict.specs.Passing.{Passes}
use Rattle.jser_reader.specs.Gates.{open_gate}
use Rattle.jser_reader.specs.Tallies.{AreTotals}
use Rattle.jser_shown.specs.Counting.{tally_all}
use Rattle.jser_names.specs.Collecting.{greatest}
use Rattle.jser_names.specs.declared.found.Found.{Found}

-- The bytes are a stream of this list within the greatest limits, and what was found is that of the list.
pub record IsFound (bytes : List ℕ) (list : ContentTrees) (found : Found) : Type 0 where
  pub passes : Passes open_gate bytes list
  pub names_are : found.names ≡ tally_all [] (checked_names list)
  pub totals_are : AreTotals bytes list found.totals
  pub longest_is : found.longest ≡ greatest (array_lengths list)

abbrev pub HasFound : List ℕ → Found → Type 0
HasFound bytes found = (list : ContentTrees) × IsFound bytes list found
