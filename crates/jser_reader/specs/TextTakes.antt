-- The bytes of a text as they are taken: its length, and then its bytes. The text goes on, it ends, or the machine stops.
use Rattle.std.specs.Prelude.{◌≡◌, ◌⊎◌, ℕ, ◌+◌, ◌<◌, ◌≤◌, true, List, [], ◌∷◌, ◌++◌, length, Option}
use Rattle.std.specs.Option.{option_to_list}
use Rattle.jser_prim.specs.Bytes.{big_bytes}
use Rattle.jser_prim.specs.Texts.{FaultsAfter}
use Rattle.jser_verdict.specs.Gates.{Gate}
use Rattle.jser_reader.specs.declared.machine.take.text_bytes.ScanEnd.{ScanEnd}
use Rattle.jser_reader.specs.declared.machine.take.text_bytes.ScanEnd.TheVariants as scan_end
use Rattle.jser_reader.specs.declared.machine.flow.Flow.{Flow}
use Rattle.jser_reader.specs.declared.machine.flow.Flow.TheVariants as flow
use Rattle.jser_reader.specs.declared.phase.Phase.TheVariants as phase
use Rattle.jser_reader.specs.declared.refusal.Reason.TheVariants as reason
use Rattle.jser_reader.specs.declared.refusal.Stop.TheVariants as stop
use Rattle.jser_reader.specs.declared.machine.take.taken.Taken.{Taken}
use Rattle.jser_reader.specs.declared.machine.take.taken.Taken.TheVariants as taken
use Rattle.jser_reader.specs.Readers.{Seen, is_checked, IsInside}
use Rattle.jser_reader.specs.Handlers.{StopsWith, refusal, TellsSurely}
use Rattle.jser_reader.specs.TextStates.{text_reason, after_text}
use Rattle.jser_reader.specs.Walks.{HasRead, HasReadAfter, Takes, Keeps, Counts, cut_of}
use Rattle.jser_reader.specs.Takes.{counted_on}

-- ---- the length

-- so many bytes of a text come next, and there are some
pub record OpensBytes (n : ℕ) (old new : Seen) : Type 0 where
  pub phase_is : new.phase ≡ phase.Text
  pub some : 0 < n
  pub read : HasRead new n [] []
  pub counts : Counts [] old new

-- a text with no bytes ends at once
pub record EndsEmpty (gate : Gate) (n : ℕ) (found : Flow) (old new : Seen) : Type 0 where
  pub none : n ≡ 0
  pub ends : IsInside old.text old.frames → TellsSurely (text_reason gate old []) (after_text old []) found old new

-- so many bytes of the length were taken: others of the text come, or it has ended, or the machine has stopped
abbrev pub LengthCases : Gate → (n count : ℕ) → Taken → Seen → Seen → Type 0
LengthCases gate n count (taken.Part k) old new = (k ≡ count) × OpensBytes n old new
LengthCases gate n count (taken.Ended k) old new = (k ≡ count) × EndsEmpty gate n flow.On old new
LengthCases gate n count (taken.Stopped k) old new = (k ≡ count) × EndsEmpty gate n flow.Stopped old new
LengthCases gate n count taken.Open old new = ⊥

unfoldable pub TellsLength : Gate → (n count : ℕ) → Taken → Seen → Seen → Type 0
TellsLength gate n count result old new = LengthCases gate n count result old new

abbrev pub LastCases : Gate → (last : List ℕ) (count : ℕ) → Taken → Seen → Seen → Type 0
LastCases gate last count (taken.Part k) old new = (k ≡ count) × Keeps gate last old new
LastCases gate last count (taken.Ended k) old new = (k ≡ count) × Takes gate last flow.On old new
LastCases gate last count (taken.Stopped k) old new = (k ≡ count) × Takes gate last flow.Stopped old new
LastCases gate last count taken.Open old new = ⊥

-- the last bytes of the length `n` of `size` bytes, so many, are taken
unfoldable pub TakesLength : Gate → (size n count : ℕ) → Taken → Seen → Seen → Type 0
TakesLength gate size n count result old new =
    (last : List ℕ) → length last ≡ count → big_bytes size n ≡ cut_of old ++ last → LastCases gate last count result old new

-- ---- the bytes

-- these bytes of the open text were scanned and counted
pub record Scanned (part : List ℕ) (old new : Seen) : Type 0 where
  pub phase_is : new.phase ≡ old.phase
  pub counts : Counts part old new
  pub left : new.scan.left + length part ≡ old.scan.left
  pub reads : (len : ℕ) (before units : List ℕ) → HasRead old len before units → HasReadAfter new len (before ++ part) units

-- the machine stops at the last of the first bytes, so many: with it no text of the length goes on
pub record Faults (part : List ℕ) (count : ℕ) (old new : Seen) : Type 0 where
  pub accepted : ℕ
  pub is_last : count ≡ accepted + 1
  pub within : accepted < length part
  pub stops : StopsWith (refusal (counted_on old.meter count) reason.BadText) old new
  pub faults : (len : ℕ) (before units : List ℕ) → HasRead old len before units → FaultsAfter len before part accepted

-- memory runs out there, as it may where the units of a checked name are kept
pub record RunsOut (part : List ℕ) (count : ℕ) (old new : Seen) : Type 0 where
  pub some : 0 < count
  pub within : count ≤ length part
  pub checked : is_checked old.text ≡ true
  pub stops : StopsWith stop.OutOfMemory old new

-- the unit of a checked name was kept that a byte ended, if it ended one
abbrev pub with_unit : Seen → Option ℕ → Seen
with_unit r unit = record { meter = r.meter; phase = r.phase; frames = r.frames; layers = r.layers; table = r.table; refs = r.refs; owner = r.owner; elements = r.elements; header = r.header; text = r.text; left = r.left; scan = r.scan; name = r.name ++ option_to_list unit }

abbrev pub UnitCases : Option ℕ → Flow → Seen → Seen → Type 0
UnitCases unit flow.On old new = new ≡ with_unit old unit
UnitCases unit flow.Stopped old new = StopsWith stop.OutOfMemory old new

unfoldable pub KeepsUnit : Option ℕ → Flow → Seen → Seen → Type 0
KeepsUnit unit b old new = UnitCases unit b old new

abbrev pub ByteCases : ℕ → Flow → Seen → Seen → Type 0
ByteCases byte flow.On old new = Scanned (byte ∷ []) old new
ByteCases byte flow.Stopped old new = Faults (byte ∷ []) 1 old new ⊎ RunsOut (byte ∷ []) 1 old new

unfoldable pub ScansByte : ℕ → Flow → Seen → Seen → Type 0
ScansByte byte b old new = ByteCases byte b old new

abbrev pub ScanCases : List ℕ → ScanEnd → Seen → Seen → Type 0
ScanCases part scan_end.All old new = Scanned part old new
ScanCases part (scan_end.Stopped count) old new = Faults part count old new ⊎ RunsOut part count old new

-- the bytes are scanned; or the machine stops at the last of so many
unfoldable pub Scans : List ℕ → ScanEnd → Seen → Seen → Type 0
Scans part result old new = ScanCases part result old new
