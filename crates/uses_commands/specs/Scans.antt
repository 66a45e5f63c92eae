-- One file of a scan.
use Rattle.std.specs.Prelude.{◌≡◌, ℕ, List, Option, IfSome}
use Rattle.std.specs.Io.KnownBytes.{Appends}
use Rattle.jser_scan.specs.declared.Found.{Found}
use Rattle.jser_scan.specs.declared.FilePath.{FilePath}
use Rattle.jser_scan.specs.declared.How.{How}
use Rattle.jser_scan.specs.declared.Rules.{Rules}
use Rattle.jser_scan.specs.declared.Tally.{Tally}
use Rattle.jser_scan.specs.Founds.{IsFound, NamesFirst}
use Rattle.jser_scan.specs.Lines.{printed}
use Rattle.jser_scan.specs.NamePlaces.{NameStands}
use Rattle.jser_scan.specs.Tallies.{noted}

-- what was found is right of the bytes, names their first fault and a class that is in them, and was counted and printed
pub record Scanned (rules : Rules) (how : How) (path : FilePath) (bytes : Option (List ℕ)) (old new : Tally) (before after : Option (List ℕ)) : Type 0 where
  pub found : Found
  pub right : IfSome bytes (λ b. IsFound rules b found)
  pub first : IfSome bytes (λ b. NamesFirst rules b found)
  pub named : IfSome bytes (λ b. NameStands b found)
  pub counted : new ≡ noted old found
  pub went : Appends before after (printed how path found)

abbrev pub AllAccepted : Tally → Type 0
AllAccepted tally = (tally.refused ≡ 0) × (tally.unread ≡ 0)
