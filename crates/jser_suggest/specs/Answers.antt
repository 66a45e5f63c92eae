-- What the calls of `Samples` answer.
use Rattle.std.specs.Prelude.{ℕ, ◌≡◌, max, List, ◌∷◌}
use Rattle.jser_grammar.specs.Trees.{ContentTrees}
use Rattle.jser_grammar.specs.CheckedNames.{checked_names}
use Rattle.jser_verdict.specs.Passing.{Passes}
use Rattle.jser_reader.specs.Gates.{open_gate}
use Rattle.jser_reader.specs.declared.Stop.TheVariants as stop
use Rattle.jser_names.specs.Found.{HasFound}
use Rattle.jser_names.specs.Sources.{IsRefused}
use Rattle.jser_names.specs.declared.Found.{Found}
use Rattle.jser_suggest.specs.declared.samples.SampleFault.{SampleFault}
use Rattle.jser_suggest.specs.declared.samples.SampleFault.TheVariants as fault
use Rattle.jser_suggest.specs.Suggested.{Known}
use Rattle.jser_suggest.specs.Samples.{Some_of, AreKnown}
use Rattle.jser_suggest.specs.Gathering.{IsUnwritable}

-- one stream more
abbrev pub Learns : (bytes : List ℕ) → (old new : Known) → Type 0
Learns bytes old new = (streams : List (List ℕ)) → AreKnown streams old → AreKnown (bytes ∷ streams) new

-- The bytes are refused, with their first fault; or they are a stream with a name that cannot be written; or memory ran out.
abbrev pub IsNoSample : (bytes : List ℕ) → SampleFault → Type 0
IsNoSample bytes (fault.Stop (stop.Refused refusal)) = IsRefused bytes refusal
IsNoSample bytes (fault.Stop stop.OutOfMemory) = Unit {0}
IsNoSample bytes (fault.Stop stop.Spent) = ⊥
IsNoSample bytes (fault.Unwritable units) = (list : ContentTrees) × Passes open_gate bytes list × Some_of (IsUnwritable units.items) (checked_names list)

-- ---- of what was found along a stream, whatever its bytes are

abbrev pub LearnsFound : Found → (old new : Known) → Type 0
LearnsFound found old new = (bytes : List ℕ) → HasFound bytes found → Learns bytes old new

abbrev pub IsNoSampleFound : Found → SampleFault → Type 0
IsNoSampleFound found why = (bytes : List ℕ) → HasFound bytes found → IsNoSample bytes why

-- ---- as code reads

-- each count is the greater of what it was and that of the stream
pub record IsRaised (found : Found) (old new : Known) : Type 0 where
  pub bytes : new.bytes ≡ max old.bytes found.totals.bytes
  pub refs : new.refs ≡ max old.refs found.totals.refs
  pub depth : new.depth ≡ max old.depth found.totals.depth
  pub array : new.array ≡ max old.array found.longest
  pub names : new.names ≡ old.names
