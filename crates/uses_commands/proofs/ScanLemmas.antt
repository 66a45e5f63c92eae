-- One file of a scan.
use Rattle.std.proofs.Common.{◌≡◌, ℕ, List, Option}
use Rattle.std.specs.Prelude.{IfSome}
use Rattle.std.specs.Io.KnownBytes.{Appends}
use Rattle.jser_scan.specs.declared.Found.{Found}
use Rattle.jser_scan.specs.declared.FilePath.{FilePath}
use Rattle.jser_scan.specs.declared.How.{How}
use Rattle.jser_scan.specs.declared.Rules.{Rules}
use Rattle.jser_scan.specs.declared.Tally.{Tally}
use Rattle.jser_scan.specs.Founds.{IsFound, NamesFirst}
use Rattle.jser_scan.specs.Lines.{printed}
use Rattle.jser_scan.specs.NamePlaces.{NameStands}
use Rattle.jser_scan.specs.Tallies.{noted}
use Rattle.uses_commands.specs.Scans.{Scanned}

pub scanned : (rules : Rules) (how : How) (path : FilePath) (bytes : Option (List ℕ)) (old new : Tally) (before after : Option (List ℕ)) (found : Found)
    → IfSome bytes (λ b. IsFound rules b found) → IfSome bytes (λ b. NamesFirst rules b found) → IfSome bytes (λ b. NameStands b found) → new ≡ noted old found → Appends before after (printed how path found)
    → Scanned rules how path bytes old new before after
scanned rules how path bytes old new before after found right first named counted went =
    record { found = found; right = right; first = first; named = named; counted = counted; went = went }
