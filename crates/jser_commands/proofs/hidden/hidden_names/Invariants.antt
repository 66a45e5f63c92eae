use Rattle.std.proofs.Common.{◌≡◌, length}
use Rattle.jser_anywhere.specs.NamesIn.{names_in, untold}
use Rattle.jser_names.specs.Counts.{names_counted}
use Rattle.jser_commands.proofs.HiddenLemmas.{Gathers}
use Rattle.jser_commands.proofs.hidden.hidden_names.Given as goal

-- what was gathered, and the names that were not told yet
pub record invariant-names (l : goal.Live-names) : Type 0 where
  pub gathers : Gathers (names_counted l.fn.checked) (names_in 0 l.fn.bytes) (untold l.names) l.places l.hidden
  pub size : length l.places ≡ length l.fn.bytes
  pub same : l.names.bytes ≡ l.fn.bytes

abbrev pub decreases-names : goal.decreases-names
decreases-names l = length (untold l.names)
